-- Each body in the tree of a script has elements.
use Rattle.std.specs.Prelude.{◌≡◌, ℕ, true, ◌≤◌, List, [], ◌∷◌}
use Rattle.std.proofs.Common.{refl, sym, subst, arith}
use Rattle.wjs_base.specs.declared.ids.NodeId.{NodeId}
use Rattle.wjs_tree.specs.declared.node.Node.{Node}
use Rattle.wjs_tree.specs.declared.node.Node.TheVariants as nodes
use Rattle.wjs_tree.specs.There.{ElementsThere}
use Rattle.wjs_scope.specs.Declarations.{is_body, elements_of}
use Rattle.wjs_scope.specs.Nesting.{Side, parts, LeadsTo}
use Rattle.wjs_scope.specs.Visits.{HasElements}
use Rattle.wjs_scope.specs.Places.{BodiesAreThere}
use Rattle.wjs_scope.proofs.Standing.{Stands, AsScript, left_on}
use Rattle.wjs_scope.proofs.Splitting.{split}
use Rattle.wjs_scope.proofs.Apart.{found, left_small}

-- what a way leads to stands for a tree
stands_at : (ns : List Node) (room : ℕ) → room ≤ 200 → (i : NodeId) (used : List ℕ) (way : List (NodeId × Side)) (j : NodeId) → Stands ns room i used → LeadsTo ns i way j → (low : ℕ) × (us : List ℕ) × (low ≤ 200) × Stands ns low j us
stands_at ns room small i used [] j s h = (room, used, small, subst (λ (z : NodeId). Stands ns room z used) (sym h) s)
stands_at ns room small i used (p ∷ way) j s h =
    let here = split ns room small i used s h.0 h.1 in
    let part = found ns room (parts h.0) p here.rest here.each h.2 in
    stands_at ns (left_on p.1 room) (left_small p.1 room small) p.0 part.own way j part.stands h.3

there : (ns : List Node) (node : Node) → HasElements ns node → is_body node ≡ true → ElementsThere ns 200 (elements_of node)
there ns (nodes.Program list) h e = h
there ns (nodes.Function name formals list) h e = h
there ns (nodes.FunctionDecl x formals list) h e = h
there ns node h e = absurd (cc)

pub bodies_are_there : BodiesAreThere
bodies_are_there ns body i node script stands has e =
    let top : Stands ns 200 body (body.0 ∷ script.used) = AsScript script.list script.has (script.tree, script.used, refl, script.shows, script.low) (omega arith) in
    let at = stands_at ns 200 (omega arith) body (body.0 ∷ script.used) stands.0 i top stands.1 in
    (node, has, e, there ns node (split ns at.0 at.2 i at.1 at.3 node has).elements e)
