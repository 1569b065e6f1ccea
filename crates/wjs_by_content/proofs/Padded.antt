-- A renaming that is given for some slots and values only: the others keep their old names, beside the new ones.
use Rattle.std.proofs.Common.{◌≡◌, Bool, true, false, cond, refl, ap, sym, ◌∙◌, Ordering, Less, Equal, Greater}
use Rattle.std.specs.Bool.{Decides}
use Rattle.std.specs.Cmp.{IsTotalOrder}
use Rattle.std.specs.Ordering.{ordering_reverse}
use Rattle.std.specs.FinMap.{IsAntisymmetric}
use Rattle.std.proofs.lemmas.Bool.{true≢false, false≢true}
use Rattle.wjs_base.specs.declared.ids.ObjId.{ObjId}
use Rattle.wjs_base.proofs.Booleans.{by_bool}
use Rattle.wjs_store.specs.Naming.{Naming}
use Rattle.wjs_by_content.proofs.Renaming.{Renaming}
use Rattle.wjs_by_content.specs.Renamed.{Names}

-- a new name, or an old one that has none
pub data Padded (J K : Type 0) : Type 0 where
  new : J → Padded J K
  old : K → Padded J K

not_equal : {P : Type 0} → Greater ≡ Equal → P
not_equal e = cc

not_less : {P : Type 0} → Greater ≡ Less → P
not_less e = cc

less_equal : {P : Type 0} → Less ≡ Equal → P
less_equal e = cc

module _ {J K : Type 0} where
  -- the new name, or what f gives of the old one
  abbrev pub un : (K → J) → Padded J K → J
  un f (new j) = j
  un f (old k) = f k

  pub new_is : (f : K → J) (a b : J) → ◌≡◌ {A = Padded J K} (new a) (new b) → a ≡ b
  new_is f a b e = ap (un f) e

  abbrev back : K → Padded J K → K
  back d (new j) = d
  back d (old k) = k

  old_is : (a b : K) → ◌≡◌ {A = Padded J K} (old a) (old b) → a ≡ b
  old_is a b e = ap (back a) e

  abbrev pub is_new : Padded J K → Bool
  is_new (new j) = true
  is_new (old k) = false

  -- the new names first
  abbrev pub padded_cmp : (J → J → Ordering) → (K → K → Ordering) → Padded J K → Padded J K → Ordering
  padded_cmp S R (new a) (new b) = S a b
  padded_cmp S R (new a) (old b) = Less
  padded_cmp S R (old a) (new b) = Greater
  padded_cmp S R (old a) (old b) = R a b

  module _ {S : J → J → Ordering} {R : K → K → Ordering} (s : IsTotalOrder S) (r : IsTotalOrder R) where
    reversed : (x y : Padded J K) → padded_cmp S R x y ≡ ordering_reverse (padded_cmp S R y x)
    reversed (new a) (new b) = s.antisymm a b
    reversed (new a) (old b) = refl
    reversed (old a) (new b) = refl
    reversed (old a) (old b) = r.antisymm a b

    chained : (x y z : Padded J K) → padded_cmp S R x y ≡ Less → padded_cmp S R y z ≡ Less → padded_cmp S R x z ≡ Less
    chained (new a) (new b) (new c) e f = s.trans a b c e f
    chained (new a) (new b) (old c) e f = refl
    chained (new a) (old b) (new c) e f = not_less f
    chained (new a) (old b) (old c) e f = refl
    chained (old a) (new b) z e f = not_less e
    chained (old a) (old b) (new c) e f = not_less f
    chained (old a) (old b) (old c) e f = r.trans a b c e f

    tied : (x y z : Padded J K) → padded_cmp S R x y ≡ Equal → padded_cmp S R x z ≡ padded_cmp S R y z
    tied (new a) (new b) (new c) e = s.congr a b c e
    tied (new a) (new b) (old c) e = refl
    tied (new a) (old b) z e = less_equal e
    tied (old a) (new b) z e = not_equal e
    tied (old a) (old b) (new c) e = refl
    tied (old a) (old b) (old c) e = r.congr a b c e

    pub padded_total : IsTotalOrder (padded_cmp S R)
    padded_total = record { antisymm = reversed; trans = chained; congr = tied }

  pub padded_exact : {S : J → J → Ordering} {R : K → K → Ordering} → IsAntisymmetric S → IsAntisymmetric R → IsAntisymmetric (padded_cmp S R)
  padded_exact s r (new a) (new b) e = ap (λ c. new c) (s a b e)
  padded_exact s r (new a) (old b) e = less_equal e
  padded_exact s r (old a) (new b) e = not_equal e
  padded_exact s r (old a) (old b) e = ap (λ c. old c) (r a b e)

  abbrev pub padded_same : (J → J → Bool) → (K → K → Bool) → Padded J K → Padded J K → Bool
  padded_same s r (new a) (new b) = s a b
  padded_same s r (new a) (old b) = false
  padded_same s r (old a) (new b) = false
  padded_same s r (old a) (old b) = r a b

  pub padded_decides : {s : J → J → Bool} {r : K → K → Bool} → ((x y : J) → Decides (s x y) (x ≡ y)) → ((x y : K) → Decides (r x y) (x ≡ y)) → (x y : Padded J K) → Decides (padded_same s r x y) (x ≡ y)
  padded_decides d e (new a) (new b) = (λ h. ap (λ c. new c) ((d a b).0 h), λ h. let q : a ≡ b = cc in (d a b).1 q)
  padded_decides d e (new a) (old b) = (λ h. absurd (false≢true h), λ h. absurd (true≢false (ap is_new h)))
  padded_decides d e (old a) (new b) = (λ h. absurd (false≢true h), λ h. absurd (false≢true (ap is_new h)))
  padded_decides d e (old a) (old b) = (λ h. ap (λ c. old c) ((e a b).0 h), λ h. let q : a ≡ b = cc in (e a b).1 q)

  abbrev pub padded_object : (J → ObjId) → (K → ObjId) → Padded J K → ObjId
  padded_object f g (new j) = f j
  padded_object f g (old k) = g k

abbrev pub padded : {K V J W : Type 0} → Naming K V → Naming J W → Naming (Padded J K) (Padded W V)
padded n m = record {
  cmp = padded_cmp m.cmp n.cmp;
  object = padded_object m.object n.object;
  same = padded_same m.same n.same;
  total = padded_total m.total n.total;
  exact = padded_exact m.exact n.exact;
  decides = padded_decides m.decides n.decides;
}

-- its name, where it is known
abbrev pub pad : {J K : Type 0} → (K → Bool) → (K → J) → K → Padded J K
pad known f k = cond (known k) (new (f k)) (old k)

module _ {J K : Type 0} (known : K → Bool) (f : K → J) where
  pub pad_known : (k : K) → known k ≡ true → pad known f k ≡ new (f k)
  pad_known k e = ap (λ b. cond b (new (f k)) (old k)) e

  pad_other : (k : K) → known k ≡ false → pad known f k ≡ old k
  pad_other k e = ap (λ b. cond b (new (f k)) (old k)) e

  is_new_if : (b : Bool) (j : J) (k : K) → is_new (cond b (new j) (old k)) ≡ b
  is_new_if true j k = refl
  is_new_if false j k = refl

  -- only a known one has a new name
  pub known_of_new : (k : K) (j : J) → pad known f k ≡ new j → known k ≡ true
  known_of_new k j e = sym (is_new_if (known k) (f k) k) ∙ ap is_new e

  pub un_pad : (k : K) → un f (pad known f k) ≡ f k
  un_pad k = by (known k)
    where
      by : (b : Bool) → un f (cond b (new (f k)) (old k)) ≡ f k
      by true = refl
      by false = refl

  pub pad_tells : ((a b : K) → known a ≡ true → known b ≡ true → f a ≡ f b → a ≡ b) → (a b : K) → pad known f a ≡ pad known f b → a ≡ b
  pad_tells tell a b e = by_bool (known a)
      (λ ka.
      let kb : known b ≡ true = known_of_new b (f a) (sym e ∙ pad_known a ka) in
      tell a b ka kb (new_is f (f a) (f b) (sym (pad_known a ka) ∙ e ∙ pad_known b kb)))
      (λ ka. by_bool (known b)
      (λ kb. absurd (false≢true (sym ka ∙ known_of_new a (f b) (e ∙ pad_known b kb))))
      (λ kb. old_is a b (sym (pad_other a ka) ∙ e ∙ pad_other b kb)))

module _ {K V J W : Type 0} {n : Naming K V} {m : Naming J W} (r : Names n m) where
  pub object_if : (a : K) (b : Bool) → r.knows a ≡ b → padded_object m.object n.object (cond b (new (r.slot a)) (old a)) ≡ n.object a
  object_if a true e = r.object a e
  object_if a false e = refl

  -- the old names as padded ones
  abbrev pub padding : Renaming n (padded n m)
  padding = record {
    slot = pad r.knows r.slot;
    value = pad r.knows_value r.value;
    slots_tell = pad_tells r.knows r.slot r.slots_tell;
    values_tell = pad_tells r.knows_value r.value r.values_tell;
    object = λ a. object_if a (r.knows a) refl;
  }

  -- the new names as padded ones
  abbrev pub among : Renaming m (padded n m)
  among = record {
    slot = λ j. new j;
    value = λ w. new w;
    slots_tell = new_is r.slot;
    values_tell = new_is r.value;
    object = λ a. refl;
  }
