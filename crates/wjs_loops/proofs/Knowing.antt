-- The name of a `for`-`in` with a `var` is there, and has a place.
use Rattle.std.proofs.Common.{◌≡◌, ◌<◌, lit<, Some, refl, subst, length}
use Rattle.wjs_base.specs.declared.ids.TextId.{TextId}
use Rattle.wjs_base.specs.Text.{Table, Has}
use Rattle.wjs_store.specs.Meaning.{Meaning}
use Rattle.wjs_tree.specs.declared.node.Node.{Node}
use Rattle.wjs_tree.specs.declared.node.Node.TheVariants as nodes
use Rattle.wjs_scope.specs.Places.{placed_names}
use Rattle.wjs_model.specs.declared.config.Config.{Config}
use Rattle.wjs_model.specs.declared.frame.Activation.{Activation as Frame}
use Rattle.wjs_model.specs.Soundness.{Base}
use Rattle.wjs_model.specs.Texts.{KnowsNode}
use Rattle.wjs_frames.specs.Parts.{node_now}
use Rattle.wjs_frames.proofs.Places.{node_known}
use Rattle.wjs_loops.specs.declared.for_ins.Taker.TheVariants.{Variable}
use Rattle.wjs_loops.specs.ForIns.{taker_of}

name_known : (t : Table) (n : Node) (name : TextId) → KnowsNode t n → taker_of n ≡ Some (Variable name) → Has t name
name_known t (nodes.ForIn target e s) name h q = absurd (cc)
name_known t (nodes.ForVarIn x e s) name h q = let same : x ≡ name = cc in subst (Has t) same h
name_known t _ name h q = absurd (cc)

name_placed : (n : Node) (name : TextId) → taker_of n ≡ Some (Variable name) → 0 < length (placed_names n)
name_placed (nodes.ForIn target e s) name q = absurd (cc)
name_placed (nodes.ForVarIn x e s) name q = lit< tt
name_placed _ name q = absurd (cc)

module _ {S : Type 0} (meaning : S → Meaning) (c : Config S) (f : Frame) (name : TextId) (is : taker_of (node_now meaning c f) ≡ Some (Variable name)) where
  pub variable_known : Base meaning c → Has c.heap.texts name
  variable_known b = name_known c.heap.texts (node_now meaning c f) name (node_known c.heap.texts c.units.items f.tree f.node (node_now meaning c f) b.units refl) is

  pub variable_named : 0 < length (placed_names (node_now meaning c f))
  variable_named = name_placed (node_now meaning c f) name is
