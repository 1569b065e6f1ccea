-- The nodes of two trees for which the same nodes stand are the same.
use Rattle.std.specs.Prelude.{◌≡◌, ℕ, List, [], ◌∷◌}
use Rattle.std.proofs.Common.{refl, ap}
use Rattle.wjs_base.specs.declared.ids.NodeId.{NodeId}
use Rattle.wjs_tree.specs.declared.node.Node.{Node}
use Rattle.wjs_tree.specs.Trees.{Expr, Elements}
use Rattle.wjs_tree.specs.Shows.{Has, Shows, ElementsShow}
use Rattle.wjs_tree.specs.Parts.{parts_of}
use Rattle.wjs_tree.proofs.Made.{Made, nothing, first, made, elements_made}

same_node : (ns : List Node) (i j : NodeId) (a b : Node) → i ≡ j → Has ns i a → Has ns j b → a ≡ b
same_node ns i j a b e p q = cc

one_use : (ns : List Node) (xs ys : List NodeId) (used other : List ℕ) → xs ≡ ys → Made ns xs used → Made ns ys other → used ≡ other
one_use ns xs ys used other same (nothing e u) (nothing f v) = cc
one_use ns xs ys used other same (nothing e u) (first j rest node us vs f v has parts more) = absurd (cc)
one_use ns xs ys used other same (first i rest node us vs e u has parts more) (nothing f v) = absurd (cc)
one_use ns xs ys used other same (first i rest node us vs e u has parts more) (first j others form ps qs f v there inner further) =
    let top : i ≡ j = cc in
    let behind : rest ≡ others = cc in
    let one = one_use ns (parts_of node) (parts_of form) us ps (ap parts_of (same_node ns i j node form top has there)) parts inner in
    let two = one_use ns rest others vs qs behind more further in
    cc

pub elements_one_use : (ns : List Node) (t : Elements) (list : List NodeId) (used : List ℕ) → ElementsShow ns t list used → (u : Elements) (other : List ℕ) → ElementsShow ns u list other → used ≡ other
elements_one_use ns t list used h u other g = one_use ns list list used other refl (elements_made ns t list used h) (elements_made ns u list other g)

-- the nodes of two trees for which one node stands are the same
pub same_use : (ns : List Node) (t u : Expr) (i : NodeId) (us vs : List ℕ) → Shows ns t i us → Shows ns u i vs → us ≡ vs
same_use ns t u i us vs h g = one_use ns (i ∷ []) (i ∷ []) us vs refl (made ns t i us h) (made ns u i vs g)
