-- Names that were sorted with their units.
use Rattle.std.proofs.Common.{◌≡◌, ℕ, ◌+◌, ◌++◌, List, [], ◌∷◌, Result, Ok, Err, refl, sym, ap, ◌∙◌, map as each, append_assoc, drop, subst, IsPermutation}
use Rattle.std.specs.Prelude.{IfOk, All, Some, slice_get}
use Rattle.std.specs.Cmp.Lexicographic.{slice_cmp}
use Rattle.std.specs.List.Sorted.{IsSorted, IsSortedBy}
use Rattle.std.specs.Ordering.{is_lt, nat_cmp, ordering_then}
use Rattle.std.proofs.lemmas.List.{map-append}
use Rattle.std.proofs.lemmas.List.Elements.{All-nil, All-cons, All-head, All-tail}
use Rattle.std.proofs.lemmas.List.Sorted.{All-permutation}
use Rattle.wjs_base.specs.declared.values.Name.{Name}
use Rattle.wjs_base.specs.declared.values.Name.TheVariants.{Index, Text}
use Rattle.wjs_base.specs.Order.{kind_of}
use Rattle.wjs_base.specs.Spelling.{index_of, units_of, spelling_cmp}
use Rattle.wjs_base.specs.Text.{Table, Units}
use Rattle.wjs_by_content.specs.Renamed.{Holds}
use Rattle.wjs_props.specs.declared.order.Spelled.{Spelled}
use Rattle.wjs_props.specs.Spelled.{spelled_cmp, units_if_text, IsSpelled}
use Rattle.wjs_props.proofs.Cutting.{drop_next}
use Rattle.wjs_props.proofs.Sorting.{sorted_map}

module _ (texts : Table) where
  units_are : (n : Name) (units : Units) → units ≡ units_of texts n → units_if_text n units ≡ units_of texts n
  units_are (Index i) units e = refl
  units_are (Text id) units e = e

  compared_alike : (a b : Spelled) → IsSpelled texts a → IsSpelled texts b → is_lt (spelling_cmp texts a.name b.name) ≡ is_lt (spelled_cmp a b)
  compared_alike a b e f =
      let g = units_are a.name a.units.now e in
      let h = units_are b.name b.units.now f in
      sym (λ i. is_lt (ordering_then (nat_cmp (kind_of a.name) (kind_of b.name)) (ordering_then (nat_cmp (index_of a.name) (index_of b.name)) (slice_cmp nat_cmp (g i) (h i)))))

  -- the names are sorted as they were with their units
  pub names_sorted : (all : List Spelled) → Holds (IsSpelled texts) all → IsSortedBy (λ a b. is_lt (spelled_cmp a b)) all → IsSorted (spelling_cmp texts) (each (λ (s : Spelled). s.name) all)
  names_sorted all h s = sorted_map (λ (z : Spelled). z.name) (IsSpelled texts) (λ a b. is_lt (spelled_cmp a b)) (λ a b. is_lt (spelling_cmp texts a b)) compared_alike all h s

-- ---- one more

pub holds_more : {A : Type 0} (P : A → Type 0) (xs : List A) (x : A) → Holds P xs → P x → Holds P (xs ++ x ∷ [])
holds_more P [] x h p = (p, tt)
holds_more P (y ∷ ys) x h p = (h.0, holds_more P ys x h.1 p)

-- a place further
pub names_further : (all : List Spelled) (s : Spelled) (names : List Name) (place : ℕ) (n : Name) → slice_get names place ≡ Some n → s.name ≡ n
    → each (λ (z : Spelled). z.name) all ++ drop place names ≡ names → each (λ (z : Spelled). z.name) (all ++ s ∷ []) ++ drop (place + 1) names ≡ names
names_further all s names place n at is so =
    ap (λ xs. xs ++ drop (place + 1) names) (map-append (λ (z : Spelled). z.name) all (s ∷ []))
    ∙ append_assoc (each (λ (z : Spelled). z.name) all) (s.name ∷ []) (drop (place + 1) names)
    ∙ ap (λ xs. each (λ (z : Spelled). z.name) all ++ xs) (ap (λ m. m ∷ drop (place + 1) names) is ∙ sym (drop_next names place n at))
    ∙ so

-- ---- what was handed on

pub if_named : {A E : Type 0} (r : Result A E) (x : A) (P : A → Type 0) → P x → IfOk r (λ y. y ≡ x) → IfOk r P
if_named (Ok y) x P p e = subst P (sym e) p
if_named (Err z) x P p e = tt

pub named_as : {A B E : Type 0} (r : Result B E) (f : A → B) (a b : A) → a ≡ b → IfOk r (λ y. y ≡ f a) → IfOk r (λ y. y ≡ f b)
named_as (Ok y) f a b e h = h ∙ ap f e
named_as (Err z) f a b e h = tt

-- what holds of each holds still in another order
holds_all : {A : Type 0} (P : A → Type 0) (xs : List A) → Holds P xs → All P xs
holds_all P [] h = All-nil P
holds_all P (x ∷ xs) h = All-cons P x xs h.0 (holds_all P xs h.1)

all_hold : {A : Type 0} (P : A → Type 0) (xs : List A) → All P xs → Holds P xs
all_hold P [] h = tt
all_hold P (x ∷ xs) h = (All-head P x xs h, all_hold P xs (All-tail P x xs h))

pub holds_moved : {A : Type 0} (P : A → Type 0) (xs ys : List A) → IsPermutation xs ys → Holds P xs → Holds P ys
holds_moved P xs ys p h = all_hold P ys (All-permutation P xs ys p (holds_all P xs h))
