-- Sums, where a frame enters them (ECMA-262, 3rd edition, section 11.6.1).
use Rattle.std.proofs.Common.{◌≡◌, ℕ, ◌-◌, ◌<◌}
use Rattle.wjs_base.specs.declared.ids.NodeId.{NodeId}
use Rattle.wjs_base.specs.Text.{Table}
use Rattle.wjs_store.specs.Meaning.{Meaning}
use Rattle.wjs_tree.specs.declared.node.Node.TheVariants as nodes
use Rattle.wjs_tree.specs.declared.operators.BinaryOperator.TheVariants as binary
use Rattle.wjs_by_content.specs.Values.{Value}
use Rattle.wjs_meaning.specs.Deeds.{Env, Act, Eval, AtExpr, then_value}
use Rattle.wjs_meaning.specs.Expressions.{binary_left}
use Rattle.wjs_meaning.specs.Programs.{entry}
use Rattle.wjs_model.specs.declared.config.Config.{Config}
use Rattle.wjs_model.specs.declared.frame.Activation.{Activation as Frame}
use Rattle.wjs_frames.specs.Parts.{node_among}
use Rattle.wjs_frames.proofs.OperandLines.{expr_is}
use Rattle.wjs_quick.specs.Coming.{GoalYields, Yields}
use Rattle.wjs_quick.proofs.Coming.{yields_entered, yields_as}

module _ {S : Type 0} (meaning : S → Meaning) (c : Config S) (f : Frame) where
  -- the step is taken, and then comes the left part
  pub sum_entered : (node left right : NodeId) (v : Table → Value) (before after : ℕ) → node_among c.units.items f.tree node ≡ nodes.Binary left binary.Add right → 0 < before → Yields meaning (λ t env. Eval (AtExpr left.0) env (then_value (binary_left binary.Add right.0 env))) v c f (before - 1) after → GoalYields meaning (AtExpr node.0) v c f before after
  sum_entered node left right v before after is some d =
      let act : Table → Env → Act = λ t env. Eval (AtExpr left.0) env (then_value (binary_left binary.Add right.0 env)) in
      yields_entered meaning c f (AtExpr node.0) v before after some (yields_as meaning c f act (λ t env. entry (AtExpr node.0) env) v (before - 1) after (λ t more. expr_is meaning c f node (nodes.Binary left binary.Add right) t is) d)
