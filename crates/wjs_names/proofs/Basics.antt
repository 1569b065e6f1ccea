-- Cases, and facts of orders and tests.
use Rattle.std.proofs.Common.{◌≡◌, Bool, true, false, not, Option, None, Some, is_some, Result, Ok, Err, OnOk, OnErr, IfOk, refl, ap, sym, ◌∙◌, cond}
use Rattle.std.specs.declared.cmp.Ordering.{Ordering}
use Rattle.std.specs.declared.cmp.Ordering.TheVariants.{Less, Equal, Greater}
use Rattle.std.specs.Ordering.{is_lt, is_gt, is_eq, ordering_reverse, eq_by_cmp}
use Rattle.std.specs.Cmp.{IsTotalOrder}
use Rattle.std.specs.FinMap.{IsAntisymmetric}
use Rattle.std.specs.Borrow.{Bor}
use Rattle.std.specs.Option.{option_or, option_copied}
use Rattle.std.proofs.lemmas.Bool.{false≢true}
pub use Rattle.wjs_base.proofs.Orders.{less_is, not_back, not_self, lt_trans}

pub by_cmp : {P : Type 0} (o : Ordering) → (o ≡ Less → P) → (o ≡ Equal → P) → (o ≡ Greater → P) → P
by_cmp Less f g h = f refl
by_cmp Equal f g h = g refl
by_cmp Greater f g h = h refl

pub some_copied : {A : Type 0} (o : Option (Bor A)) → is_some o ≡ is_some (option_copied o)
some_copied None = refl
some_copied (Some x) = refl

pub equal_is : (o : Ordering) → is_eq o ≡ true → o ≡ Equal
equal_is Less h = absurd (false≢true h)
equal_is Equal h = refl
equal_is Greater h = absurd (false≢true h)

pub greater_is : (o : Ordering) → is_gt o ≡ true → o ≡ Greater
greater_is Less h = absurd (false≢true h)
greater_is Equal h = absurd (false≢true h)
greater_is Greater h = refl

-- neither greater nor equal
pub less_left : (o : Ordering) → is_gt o ≡ false → is_eq o ≡ false → o ≡ Less
less_left Less h k = refl
less_left Equal h k = absurd (false≢true (sym k))
less_left Greater h k = absurd (false≢true (sym h))

pub or_none : {A : Type 0} (o : Option A) → option_or o None ≡ o
or_none None = refl
or_none (Some x) = refl

pub or_first : {A : Type 0} (b : Bool) (w o p : Option A) → (b ≡ true → p ≡ None) → option_or (cond b w o) p ≡ cond b w (option_or o p)
or_first true w o p h = ap (option_or w) (h refl) ∙ or_none w
or_first false w o p h = refl

pub or_second : {A : Type 0} (b : Bool) (w o p : Option A) → (b ≡ true → o ≡ None) → option_or o (cond b w p) ≡ cond b w (option_or o p)
or_second true w o p h = ap (λ z. option_or z w) (h refl)
or_second false w o p h = refl

module _ {K : Type 0} {R : K → K → Ordering} (total : IsTotalOrder R) where
  -- two keys of which neither is less are tied
  pub neither : (x y : K) → is_lt (R x y) ≡ false → is_lt (R y x) ≡ false → R x y ≡ Equal
  neither x y h k = by_cmp (R x y)
      (λ e. absurd (false≢true (sym h ∙ ap is_lt e)))
      (λ e. e)
      (λ e. absurd (false≢true (sym k ∙ ap is_lt (total.antisymm y x ∙ ap ordering_reverse e))))

pub key_is : {K : Type 0} {R : K → K → Ordering} → IsAntisymmetric R → (x y : K) → eq_by_cmp R x y ≡ true → x ≡ y
key_is {R = R} exact x y h = exact x y (equal_is (R x y) h)

-- ---- results

pub by_result : {T E A B P : Type 0} (r : Result T E) → (A → P) → (B → P) → OnOk r A → OnErr r B → P
by_result (Ok t) f g h k = f h
by_result (Err e) f g h k = g k

pub if_ok : {T E : Type 0} {A B : T → Type 0} (r : Result T E) → ((t : T) → A t → B t) → IfOk r A → IfOk r B
if_ok (Ok t) f h = f t h
if_ok (Err e) f h = tt

-- two tests of which one is the other turned
pub not_back_again : (a b : Bool) → a ≡ not b → b ≡ not a
not_back_again true true h = absurd (false≢true (sym h))
not_back_again true false h = refl
not_back_again false true h = refl
not_back_again false false h = h
