-- Sets of names that a listing passes over.
use Rattle.std.proofs.Common.{◌≡◌, ℕ, ◌+◌, Bool, true, false, cond, ◌||◌, List, Some, refl, sym, ap, ◌∙◌, drop}
use Rattle.std.specs.Prelude.{slice_get}
use Rattle.std.specs.BTreeSet.{BTreeSet, IsEmpty}
use Rattle.std.specs.List.{list_any}
use Rattle.std.specs.Ordering.{eq_by_cmp}
use Rattle.wjs_base.specs.declared.values.Name.{Name}
use Rattle.wjs_base.specs.Order.{name_cmp}
use Rattle.wjs_props.specs.Listing.{is_in, is_among}
use Rattle.wjs_props.proofs.Cutting.{drop_next}

or_moves : (a b c : Bool) → (a || cond b true c) ≡ ((b || a) || c)
or_moves true true c = refl
or_moves false true c = refl
or_moves a false c = refl

-- a name was added
pub names_further : (old now new : BTreeSet Name) (names : List Name) (place : ℕ) (x : Name) → slice_get names place ≡ Some x
    → ((n : Name) → (is_among (drop place names) n || is_in now n) ≡ (is_among names n || is_in old n))
    → ((n : Name) → is_in new n ≡ cond (eq_by_cmp name_cmp n x) true (is_in now n))
    → (n : Name) → (is_among (drop (place + 1) names) n || is_in new n) ≡ (is_among names n || is_in old n)
names_further old now new names place x at so put n =
    ap (λ b. is_among (drop (place + 1) names) n || b) (put n)
    ∙ or_moves (is_among (drop (place + 1) names) n) (eq_by_cmp name_cmp n x) (is_in now n)
    ∙ ap (λ xs. is_among xs n || is_in now n) (sym (drop_next names place x at))
    ∙ so n

pub empty_in : (set : BTreeSet Name) → IsEmpty set → (n : Name) → is_in set n ≡ false
empty_in set none n = ap (λ (ks : List Name). list_any (eq_by_cmp name_cmp n) ks) none
