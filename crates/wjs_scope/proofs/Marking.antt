-- What marks leave.
use Rattle.std.specs.Prelude.{◌≡◌, ℕ, zero, suc, ◌<◌, ◌⊎◌, List, [], ◌∷◌, ◌++◌, set, length, drop, ◌+◌, Option, Some, None}
use Rattle.std.proofs.Common.{refl, sym, ap, subst, ◌∙◌, inl, inr, arith, length-set, get_or}
use Rattle.std.proofs.lemmas.Bool.{cases_eq}
use Rattle.std.proofs.lemmas.List.{get_or-set_same, get_or-set_other}
use Rattle.std.proofs.lemmas.Option.{none-some, same_Some}
use Rattle.wjs_base.specs.declared.ids.NodeId.{NodeId}
use Rattle.wjs_tree.specs.declared.node.Clause.{Clause}
use Rattle.wjs_tree.specs.Children.{ClausesBelow}
use Rattle.wjs_scope.specs.Nesting.{Side, IsAmong, clause_part, clause_parts}
use Rattle.wjs_scope.specs.Marks.{number_on, marked, marked_parts}
use Rattle.wjs_tree.proofs.Lists.{behind}

-- marks of one list and then of another
pub marked_both : (table : List (Option ℕ)) (at : ℕ) (xs ys : List NodeId) → marked table at (xs ++ ys) ≡ marked (marked table at xs) at ys
marked_both table at [] ys = refl
marked_both table at (i ∷ xs) ys = marked_both (set table i.0 (Some at)) at xs ys

-- the table keeps its length
marked_length : (table : List (Option ℕ)) (at : ℕ) (xs : List NodeId) → length (marked table at xs) ≡ length table
marked_length table at [] = refl
marked_length table at (i ∷ xs) = marked_length (set table i.0 (Some at)) at xs ∙ length-set table i.0 (Some at)

-- a place past the end has no mark
past : (table : List (Option ℕ)) (j b : ℕ) → get_or table j None ≡ Some b → j < length table
past [] j b h = absurd (none-some b h)
past (o ∷ more) zero b h = omega arith
past (o ∷ more) (suc j) b h = let lt = past more j b h in omega arith

pub set_only : (table : List (Option ℕ)) (i j at b : ℕ) → get_or (set table i (Some at)) j None ≡ Some b → (get_or table j None ≡ Some b) ⊎ ((j ≡ i) × (b ≡ at))
set_only table i j at b h = elim (cases_eq j i) [
  | inl e ↦ inr (e, (let lt : i < length table = subst (λ z. z < length table) e (subst (λ z. j < z) (length-set table i (Some at)) (past (set table i (Some at)) j b h)) in let same : get_or (set table i (Some at)) j None ≡ Some at = subst (λ z. get_or (set table i (Some at)) z None ≡ Some at) (sym e) (get_or-set_same table i (Some at) None lt) in same_Some b at (sym h ∙ same)))
  | inr n ↦ inl (sym (get_or-set_other table i j (Some at) None n) ∙ h)
]

-- one clause more is marked
pub clauses_on : (first table next : List (Option ℕ)) (at k : ℕ) (list : List Clause) (d : Clause) → k < length list → next ≡ marked table at (clause_part (get_or list k d))
    → (marked first at (clause_parts list) ≡ marked table at (clause_parts (drop k list))) × ClausesBelow (length first) (drop k list) × (length table ≡ length first)
    → (marked first at (clause_parts list) ≡ marked next at (clause_parts (drop (k + 1) list))) × ClausesBelow (length first) (drop (k + 1) list) × (length next ≡ length first)
clauses_on first table next at k list d lt e walk =
    let here = behind list k d lt in
    let below : ClausesBelow (length first) (get_or list k d ∷ drop (k + 1) list) = subst (λ (z : List Clause). ClausesBelow (length first) z) here walk.1 in (
      walk.0 ∙ ap (λ (z : List Clause). marked table at (clause_parts z)) here ∙ marked_both table at (clause_part (get_or list k d)) (clause_parts (drop (k + 1) list)) ∙ ap (λ z. marked z at (clause_parts (drop (k + 1) list))) (sym e),
      below.2,
      ap length e ∙ marked_length table at (clause_part (get_or list k d)) ∙ walk.2,
    )

-- ---- parts of a node, each with the number of its side

-- the table keeps its length
pub parts_length : (table : List (Option ℕ)) (at inner : ℕ) (list : List (NodeId × Side)) → length (marked_parts table at inner list) ≡ length table
parts_length table at inner [] = refl
parts_length table at inner (p ∷ more) = parts_length (set table p.0.0 (Some (number_on p.1 at inner))) at inner more ∙ length-set table p.0.0 (Some (number_on p.1 at inner))

-- no node is the first of two of the parts
abbrev pub AllDifferent : List (NodeId × Side) → Type 0
AllDifferent [] = Unit {0}
AllDifferent (p ∷ more) = ((q : NodeId × Side) → IsAmong more q → q.0.0 ≡ p.0.0 → ⊥) × AllDifferent more

-- what is no part has the mark that it had
pub parts_others : (table : List (Option ℕ)) (at inner : ℕ) (list : List (NodeId × Side)) (j : ℕ) → ((p : NodeId × Side) → IsAmong list p → p.0.0 ≡ j → ⊥) → get_or (marked_parts table at inner list) j None ≡ get_or table j None
parts_others table at inner [] j other = refl
parts_others table at inner (p ∷ more) j other =
    parts_others (set table p.0.0 (Some (number_on p.1 at inner))) at inner more j (λ q h. other q (inr h)) ∙ get_or-set_other table p.0.0 j (Some (number_on p.1 at inner)) None (λ e. other p (inl refl) (sym e))

-- a part has the mark of its side
pub parts_in : (table : List (Option ℕ)) (at inner : ℕ) (list : List (NodeId × Side)) (p : NodeId × Side) → AllDifferent list → IsAmong list p → p.0.0 < length table → get_or (marked_parts table at inner list) p.0.0 None ≡ Some (number_on p.1 at inner)
parts_in table at inner [] p d a lt = elim a [ ]
parts_in table at inner (q ∷ more) p d (inl e) lt =
    subst (λ (z : NodeId × Side). get_or (marked_parts (set table q.0.0 (Some (number_on q.1 at inner))) at inner more) z.0.0 None ≡ Some (number_on z.1 at inner)) (sym e)
    (parts_others (set table q.0.0 (Some (number_on q.1 at inner))) at inner more q.0.0 d.0 ∙ get_or-set_same table q.0.0 (Some (number_on q.1 at inner)) None (subst (λ (z : NodeId × Side). z.0.0 < length table) e lt))
parts_in table at inner (q ∷ more) p d (inr h) lt =
    parts_in (set table q.0.0 (Some (number_on q.1 at inner))) at inner more p d.1 h (subst (λ z. p.0.0 < z) (sym (length-set table q.0.0 (Some (number_on q.1 at inner)))) lt)

-- what has a mark has it from before, or is a part
pub parts_only : (table : List (Option ℕ)) (at inner : ℕ) (list : List (NodeId × Side)) (j b : ℕ) → get_or (marked_parts table at inner list) j None ≡ Some b
    → (get_or table j None ≡ Some b) ⊎ ((p : NodeId × Side) × IsAmong list p × (p.0.0 ≡ j) × (b ≡ number_on p.1 at inner))
parts_only table at inner [] j b h = inl h
parts_only table at inner (p ∷ more) j b h = elim (parts_only (set table p.0.0 (Some (number_on p.1 at inner))) at inner more j b h) [
  | inl e ↦ elim (set_only table p.0.0 j (number_on p.1 at inner) b e) [ inl f ↦ inl f | inr f ↦ inr (p, inl refl, sym f.0, f.1) ]
  | inr f ↦ inr (f.0, inr f.1, f.2, f.3)
]
