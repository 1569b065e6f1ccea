-- The next row at the first indices, and among all rows.
use Rattle.std.proofs.Common.{◌≡◌, ℕ, ◌<◌, ◌≤◌, Bool, true, false, List, length, Option, None, Some, is_some, refl, ap, sym, ◌∙◌, subst, arith}
use Rattle.std.specs.Ordering.{is_lt, is_le, nat_cmp}
use Rattle.std.specs.FinMap as map
use Rattle.std.specs.FinMap.{find}
use Rattle.std.specs.Map.{lookup_entry}
use Rattle.std.specs.Option.{option_or}
use Rattle.std.proofs.lemmas.Bool.{false≢true}
use Rattle.std.proofs.lemmas.Bool.Decides.{nat_tests}
use Rattle.std.proofs.lemmas.Map.Keys.{le_from_is_le}
use Rattle.wjs_base.specs.declared.values.Name.{Name}
use Rattle.wjs_base.specs.declared.values.Name.TheVariants.{Index, Text}
use Rattle.wjs_base.specs.Order.{name_cmp, name_total, name_exact}
use Rattle.wjs_base.proofs.Options.{by_option}
use Rattle.wjs_rows.specs.Order.{is_from}
use Rattle.wjs_names.specs.Dense.{dense_value, IsBeside}
use Rattle.wjs_names.specs.Least.{IsLeast, lesser_entry}
use Rattle.wjs_names.proofs.Dense.{by_lt, all, get_all, value_there}
use Rattle.wjs_names.proofs.Least.{first_on, like, least_is, least_either}

pub from_true : (a b : ℕ) → a ≤ b → is_le (nat_cmp a b) ≡ true
from_true a b h = grind (arith, nat_tests)

not_before : (a b : ℕ) → b ≤ a → is_lt (nat_cmp a b) ≡ false
not_before a b h = grind (arith, nat_tests)

module _ {V : Type 0} (dense : List (Option V)) where
  pub no_less : (start i : ℕ) → ((j : ℕ) → start ≤ j → j < i → dense_value dense (Index j) ≡ None) → (q : Name) → is_from name_cmp (Index start) q ≡ true → is_some (dense_value dense q) ≡ true → is_lt (name_cmp q (Index i)) ≡ false
  no_less start i before (Index j) y s = by_lt j i
      (λ l. absurd (false≢true (sym (ap is_some (before j (le_from_is_le start j y) l)) ∙ s)))
      (λ l. not_before j i l)
  no_less start i before (Text t) y s = refl

  module _ (rest : List (Name × V)) (beside : IsBeside (length dense) rest) where
    rest_past : (k q : Name) → is_some (dense_value dense k) ≡ true → is_some (find name_cmp q rest) ≡ true → is_lt (name_cmp q k) ≡ false
    rest_past (Text t) q s r = absurd (false≢true s)
    rest_past (Index i) (Text t) s r = refl
    rest_past (Index i) (Index j) s r = by_lt j i
        (λ l. let b = value_there dense i s in absurd (false≢true (sym (ap is_some (beside.apart j (omega arith))) ∙ r)))
        (λ l. not_before j i l)

    one_part : (q : Name) → is_some (dense_value dense q) ≡ true → find name_cmp q rest ≡ None
    one_part (Index i) s = beside.apart i (value_there dense i s)
    one_part (Text t) s = absurd (false≢true s)

    -- a row at the first indices comes before all others
    pub next_held : (p : Name → Bool) (e : Name × V) → IsLeast name_cmp (dense_value dense) p (Some e) → Some e ≡ lookup_entry p (map.entries (all dense rest))
    next_held p e h =
        least_is name_total name_exact p (all dense rest) (Some e)
        (like name_total name_exact p (λ q. option_or (dense_value dense q) (find name_cmp q rest)) (map.get (all dense rest)) (Some e) (get_all dense rest) (
          h.0,
          ap (λ o. option_or o (find name_cmp e.0 rest)) h.1,
          λ q y s. by_option (dense_value dense q)
              (λ n. rest_past e.0 q (ap is_some h.1) (sym (ap (λ o. is_some (option_or o (find name_cmp q rest))) n) ∙ s))
              (λ v w. h.2 q y (ap is_some w)),
        ))

    pub next_rest : (p : Name → Bool) (d : Option (Name × V)) → IsLeast name_cmp (dense_value dense) p None → d ≡ lookup_entry p rest → d ≡ lookup_entry p (map.entries (all dense rest))
    next_rest p d h is =
        least_is name_total name_exact p (all dense rest) d
        (like name_total name_exact p (λ q. option_or (dense_value dense q) (find name_cmp q rest)) (map.get (all dense rest)) d (get_all dense rest)
        (subst (IsLeast name_cmp (λ q. option_or (dense_value dense q) (find name_cmp q rest)) p) (either d)
        (least_either name_total name_exact p (dense_value dense) (λ q. find name_cmp q rest) None d one_part h
        (subst (IsLeast name_cmp (λ q. find name_cmp q rest) p) (sym is) (first_on name_total name_exact p rest beside.ordered)))))
      where
        either : (d : Option (Name × V)) → lesser_entry name_cmp None d ≡ d
        either d = refl
