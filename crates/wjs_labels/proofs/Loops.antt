-- What a label stands before.
use Rattle.std.specs.Prelude.{◌≡◌, Bool, List}
use Rattle.std.proofs.Common.{sym, ap, ◌∙◌}
use Rattle.wjs_base.specs.declared.ids.TextId.{TextId}
use Rattle.wjs_base.specs.declared.ids.NodeId.{NodeId}
use Rattle.wjs_tree.specs.declared.node.Node.{Node}
use Rattle.wjs_tree.specs.declared.node.Node.TheVariants as nodes
use Rattle.wjs_tree.specs.Trees.{Stmt}
use Rattle.wjs_tree.specs.Jumps.{is_loop}
use Rattle.wjs_tree.specs.Forms.{IsPart, HasForm}

pub label_there : (ns : List Node) (x : TextId) (y : NodeId) (t : Stmt) → HasForm ns (nodes.Label x y) t → (s : Stmt) × IsPart ns s y
label_there ns x y t f = (f.0, f.2)

pub label_loop : (ns : List Node) (x : TextId) (y : NodeId) (t : Stmt) (b : Bool) → ((s : Stmt) → IsPart ns s y → b ≡ is_loop s) → HasForm ns (nodes.Label x y) t → b ≡ is_loop t
label_loop ns x y t b w f = w f.0 f.2 ∙ sym (ap is_loop f.1)
