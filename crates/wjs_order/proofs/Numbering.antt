-- The nodes that have been put in order are numbered as the tree is spelled.
use Rattle.std.specs.Prelude.{◌≡◌, ℕ, suc, List, [], ◌∷◌, ◌++◌, map, length, Some, slice_get}
use Rattle.std.proofs.Common.{sym, ap, subst, ◌∙◌, arith, length-append}
use Rattle.wjs_base.proofs.Lists.{get_last}
use Rattle.wjs_base.specs.declared.ids.NodeId.{NodeId}
use Rattle.wjs_tree.specs.declared.node.Node.{Node}
use Rattle.wjs_tree.specs.declared.node.Node.TheVariants as nodes
use Rattle.wjs_tree.specs.Trees.{Elements}
use Rattle.wjs_tree.specs.Shows.{Has, Keeps, IsBody}
use Rattle.wjs_tree.specs.Children.{ChildrenBelow}
use Rattle.wjs_tree.specs.Used.{IsOnce}
use Rattle.wjs_tree.proofs.Adding.{keeps_added}
use Rattle.wjs_tree.proofs.Kept.{elements_kept}
use Rattle.wjs_scope.specs.Places.{IsScript}
use Rattle.wjs_order.specs.Order.{falling, IsNumbered}
use Rattle.wjs_order.specs.Moves.{Moves}
use Rattle.wjs_order.specs.Renumbered.{new_id, renumbered}
use Rattle.wjs_order.proofs.Falling.{falling_once, numbered_low}
use Rattle.wjs_order.proofs.Lowering.{low, lowered}
use Rattle.wjs_order.proofs.Showing.{elements_shown}
use Rattle.wjs_order.proofs.Taking.{one_used, script_uses}

pub numbered : (old ms ns : List Node) (g : ℕ → ℕ) (body last : NodeId) (node made : Node) (tree : Elements) (is : IsBody old tree body) → Has old body node → made ≡ renumbered g node → Moves old ms g is.used → map g is.used ≡ falling (length is.used) → length ms ≡ length is.used → ns ≡ ms ++ made ∷ [] → last.0 ≡ length ms → IsNumbered ns tree last
numbered old ms ns g body last node made tree is has same moves falls long added at =
    let there = is.has in
    let form : node ≡ nodes.Program is.list = cc in
    let program : made ≡ nodes.Program (map (new_id g) is.list) = same ∙ ap (renumbered g) form in
    let keeps : Keeps ms ns = subst (Keeps ms) (sym added) (keeps_added ms made) in
    let here : slice_get ns last.0 ≡ Some made = subst (λ z. slice_get z last.0 ≡ Some made) (sym added) (subst (λ z. slice_get (ms ++ made ∷ []) z ≡ Some made) (sym at) (get_last ms made)) in
    let count : length ns ≡ suc (length ms) = (let all = ap length added in omega (arith, length-append ms (made ∷ []))) in
    record {
      is = record {
        list = map (new_id g) is.list;
        used = map g is.used;
        has = here ∙ ap Some program;
        shows = elements_kept ms ns keeps tree (map (new_id g) is.list) (map g is.used) (elements_shown old ms g tree is.list is.used moves is.shows);
      };
      order = subst (λ z. last.0 ∷ map g is.used ≡ falling z) (sym count) (cc);
    }

numbered_once : (ns : List Node) (tree : Elements) (body : NodeId) (n : IsNumbered ns tree body) → IsOnce (body.0 ∷ n.is.used)
numbered_once ns tree body n = subst IsOnce (sym n.order) (falling_once (length ns))

pub numbered_script : (old ns : List Node) (body last : NodeId) (s : IsScript old body) → IsNumbered ns s.tree last → IsScript ns last
numbered_script old ns body last s n = record {
  tree = s.tree;
  list = n.is.list;
  used = n.is.used;
  has = n.is.has;
  shows = n.is.shows;
  once = (numbered_once ns s.tree last n).1;
  low = s.low;
}

-- whatever the tree
pub once_of : (ns : List Node) (tree : Elements) (body : NodeId) → IsNumbered ns tree body → (other : Elements) (is : IsBody ns other body) → IsOnce (body.0 ∷ is.used)
once_of ns tree body n other is = subst (λ z. IsOnce (body.0 ∷ z)) (one_used ns body tree n.is.list n.is.used n.is.has n.is.shows other is) (numbered_once ns tree body n)

-- the body's parts have their new nodes before it
pub body_low : (old ms : List Node) (g : ℕ → ℕ) (body : NodeId) (node made : Node) (s : IsScript old body) → Has old body node → made ≡ renumbered g node → map g s.used ≡ falling (length s.used) → length ms ≡ length s.used → ChildrenBelow (length ms) made
body_low old ms g body node made s has same falls long =
    let there = s.has in
    let form : node ≡ nodes.Program s.list = cc in
    let program : made ≡ renumbered g (nodes.Program s.list) = same ∙ ap (renumbered g) form in
    subst (ChildrenBelow (length ms)) (sym program)
    (lowered (length ms) g (nodes.Program s.list) (low (length ms) g s.list (λ c a. (let lt = numbered_low g s.used falls c.0 (script_uses old body s c a) in omega arith))))

abbrev pub body_of : (ns : List Node) (body : NodeId) (s : IsScript ns body) → IsBody ns s.tree body
body_of ns body s = record { list = s.list; used = s.used; has = s.has; shows = s.shows }
