-- The nodes that a tree is made of are there.
use Rattle.std.proofs.Common.{ℕ, ◌<◌, inl, inr, ⊎_elim, List, [], ◌∷◌, ◌++◌, length, sym, subst}
use Rattle.std.proofs.lemmas.Option.{slice_get_within}
use Rattle.wjs_base.specs.declared.ids.NodeId.{NodeId}
use Rattle.wjs_tree.specs.declared.node.Node.{Node}
use Rattle.wjs_tree.specs.Trees.{Expr, Elements}
use Rattle.wjs_tree.specs.Shows.{Shows, ElementsShow}
use Rattle.wjs_tree.specs.Used.{IsUsed}
use Rattle.wjs_tree.proofs.Using.{used_cases}
use Rattle.wjs_tree.proofs.Made.{Made, nothing, first, made, elements_made}

-- each of the numbers is that of a node
abbrev pub AreWithin : List Node → List ℕ → Type 0
AreWithin ns us = (n : ℕ) → IsUsed us n → n < length ns

none_within : (ns : List Node) → AreWithin ns []
none_within ns n h = absurd h

both_within : (ns : List Node) (us vs : List ℕ) → AreWithin ns us → AreWithin ns vs → AreWithin ns (us ++ vs)
both_within ns us vs a b n h = ⊎_elim (a n) (b n) (used_cases us vs n h)

top_within : (ns : List Node) (i : ℕ) (us : List ℕ) → i < length ns → AreWithin ns us → AreWithin ns (i ∷ us)
top_within ns i us lt a n (inl e) = subst (λ (m : ℕ). m < length ns) (sym e) lt
top_within ns i us lt a n (inr h) = a n h

all_within : (ns : List Node) (list : List NodeId) (used : List ℕ) → Made ns list used → AreWithin ns used
all_within ns list used (nothing e u) = subst (AreWithin ns) (sym u) (none_within ns)
all_within ns list used (first i rest node us vs e u has parts more) =
    subst (AreWithin ns) (sym u) (top_within ns i.0 (us ++ vs) (slice_get_within ns i.0 _ has) (both_within ns us vs (all_within ns _ us parts) (all_within ns rest vs more)))

pub within : (ns : List Node) (t : Expr) (i : NodeId) (used : List ℕ) → Shows ns t i used → AreWithin ns used
within ns t i used h = all_within ns (i ∷ []) used (made ns t i used h)

pub elements_within : (ns : List Node) (t : Elements) (list : List NodeId) (used : List ℕ) → ElementsShow ns t list used → AreWithin ns used
elements_within ns t list used h = all_within ns list used (elements_made ns t list used h)
