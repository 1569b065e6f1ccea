-- Members: their node, what its frame waits for, and the value that a look found.
use Rattle.std.proofs.Common.{◌≡◌, ℕ, List, Vec, Global, [], ap, ◌∙◌}
use Rattle.std.specs.Prelude.{Option, Ok}
use Rattle.wjs_base.specs.declared.ids.NodeId.{NodeId}
use Rattle.wjs_base.specs.Text.{Table}
use Rattle.wjs_base.specs.declared.values.Value.{Value as Numbered}
use Rattle.wjs_store.specs.Meaning.{Meaning}
use Rattle.wjs_tree.specs.declared.node.Node.{Node}
use Rattle.wjs_tree.specs.declared.node.Node.TheVariants as nodes
use Rattle.wjs_tree.specs.declared.node.Spelt.{Spelt}
use Rattle.wjs_meaning.specs.Deeds.{Env, Act, then_value}
use Rattle.wjs_model.specs.Waiting.{refer}
use Rattle.wjs_meaning.specs.Expressions.{dot_base, give_value_of}
use Rattle.wjs_meaning.specs.Reading.{node_in, spelt_in}
use Rattle.wjs_model.specs.declared.config.Config.{Config}
use Rattle.wjs_model.specs.declared.frame.Activation.{Activation as Frame}
use Rattle.wjs_model.specs.declared.frame.Phase.{Phase}
use Rattle.wjs_model.specs.declared.loaded.LoadedProgram.{LoadedProgram as Program}
use Rattle.wjs_model.specs.declared.point.ExprPoint.TheVariants as expr
use Rattle.wjs_model.specs.declared.point.Point.TheVariants as points
use Rattle.wjs_model.specs.declared.point.Purpose.TheVariants as purposes
use Rattle.wjs_model.specs.Lists.{if_dot}
use Rattle.wjs_model.specs.Soundness.{Base}
use Rattle.wjs_model.specs.Texts.{KnowsSpelt}
use Rattle.wjs_frames.specs.Following.{Later}
use Rattle.wjs_frames.specs.Parts.{node_among, then_at}
use Rattle.wjs_frames.proofs.Places.{node_known}
use Rattle.wjs_quick.specs.Coming.{Comes}
use Rattle.wjs_stopping.specs.Ends.{gives_in}
use Rattle.wjs_stopping.specs.Evaluating.{Evaluates}
use Rattle.wjs_stopping.specs.Waiting.{at_node}
use Rattle.wjs_direct_lines.specs.Deeds.{IsDot, line_here}

module _ {S : Type 0} (meaning : S → Meaning) (c : Config S) (f : Frame) where
  module _ (node : NodeId) (name : Spelt) (is : IsDot meaning c f node name) where
    pub dot_known : Base meaning c → KnowsSpelt c.heap.texts name
    dot_known b = node_known c.heap.texts c.units.items f.tree node (nodes.Dot is.0 name) b.units is.1

    pub dot_later : (new : Config S) → Later meaning c new → IsDot meaning new f node name
    dot_later new l = (is.0, ap (λ (us : Vec Program Global). node_among us.items f.tree node) l.units ∙ is.1)

    -- what its frame waits for
    pub dot_waits : (t : Table) (env : Env) → then_at meaning c (at_node f node []) (points.Expr (expr.DotBase purposes.Value)) t env ≡ then_value (dot_base (spelt_in t name) env (give_value_of env))
    dot_waits t env = ap (λ (n : Node). then_value (λ v. if_dot (node_in t n) (λ x. dot_base x env (give_value_of env) v))) is.1

    -- and for its reference
    pub target_waits : (t : Table) (env : Env) → then_at meaning c (at_node f node []) (points.Expr (expr.DotBase purposes.Target)) t env ≡ then_value (dot_base (spelt_in t name) env refer)
    target_waits t env = ap (λ (n : Node). then_value (λ v. if_dot (node_in t n) (λ x. dot_base x env refer v))) is.1

  -- a line whose value a look found
  pub line_came : (act : Table → Env → Act) (v : Numbered) (w : List Frame) (p : Option (Frame × Phase)) → ((left : ℕ) → Comes meaning act v c f left left) → Evaluates meaning (line_here meaning c f act) gives_in (Ok v) w p c c
  line_came act v w p d = record { by = λ go later r h. (d c.left).by go later r h }
