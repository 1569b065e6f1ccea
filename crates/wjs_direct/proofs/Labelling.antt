-- Labelled statements: what follows a statement behind its label.
use Rattle.std.proofs.Common.{◌≡◌, [], Vec, Global, ap, ◌∙◌}
use Rattle.wjs_base.specs.declared.ids.NodeId.{NodeId}
use Rattle.wjs_base.specs.declared.ids.TextId.{TextId}
use Rattle.wjs_base.specs.Text.{Table, Has}
use Rattle.wjs_by_content.specs.Tables.{text_in}
use Rattle.wjs_store.specs.Meaning.{Meaning}
use Rattle.wjs_tree.specs.declared.node.Node.{Node}
use Rattle.wjs_tree.specs.declared.node.Node.TheVariants as nodes
use Rattle.wjs_meaning.specs.Deeds.{Act, Completion, Env}
use Rattle.wjs_meaning.specs.Reading.{node_in}
use Rattle.wjs_meaning.specs.Statements.{label_done}
use Rattle.wjs_model.specs.declared.config.Config.{Config}
use Rattle.wjs_model.specs.declared.frame.Activation.{Activation as Frame}
use Rattle.wjs_model.specs.declared.loaded.LoadedProgram.{LoadedProgram as Program}
use Rattle.wjs_model.specs.declared.point.Point.TheVariants as points
use Rattle.wjs_model.specs.declared.point.StmtPoint.TheVariants as stmt
use Rattle.wjs_model.specs.Lists.{if_label}
use Rattle.wjs_model.specs.Soundness.{Base}
use Rattle.wjs_frames.specs.Following.{Later}
use Rattle.wjs_frames.specs.Parts.{node_among, then_at}
use Rattle.wjs_frames.proofs.Places.{node_known}
use Rattle.wjs_stopping.specs.Waiting.{at_node}

module _ {S : Type 0} (meaning : S → Meaning) (old : Config S) (f : Frame) (node : NodeId) (name : TextId) (part : NodeId) (is : node_among old.units.items f.tree node ≡ nodes.Label name part) where
  -- the label is there
  pub label_known : Base meaning old → Has old.heap.texts name
  label_known b = node_known old.heap.texts old.units.items f.tree node (nodes.Label name part) b.units is

  -- where its node waits
  pub label_then : (mid : Config S) → Later meaning old mid → (t : Table) (env : Env) → then_at meaning mid (at_node f node []) (points.Stmt stmt.LabelBody) t env ≡ label_done (text_in t name)
  label_then mid l t env =
      ap {B = Completion → Act} (λ (us : Vec Program Global) (c : Completion). if_label (node_in t (node_among us.items f.tree node)) (λ x. label_done x c)) l.units
      ∙ ap {B = Completion → Act} (λ (n : Node) (c : Completion). if_label (node_in t n) (λ x. label_done x c)) is
