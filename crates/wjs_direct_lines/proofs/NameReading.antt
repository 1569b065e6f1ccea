-- Names that are read: the step of a name, and its deeds.
use Rattle.std.proofs.Common.{◌-◌, ◌<◌}
use Rattle.wjs_base.specs.declared.ids.NodeId.{NodeId}
use Rattle.wjs_store.specs.Meaning.{Meaning}
use Rattle.wjs_meaning.specs.Deeds.{AtExpr}
use Rattle.wjs_model.specs.declared.config.Config.{Config}
use Rattle.wjs_model.specs.declared.frame.Activation.{Activation as Frame}
use Rattle.wjs_model.specs.declared.frame.Completion.{Completion as Said}
use Rattle.wjs_model.specs.declared.operand.Operand.{Operand}
use Rattle.wjs_model.specs.Contents.{completion_in, operand_in}
use Rattle.wjs_model.specs.Operands.{with_operand}
use Rattle.wjs_frames.specs.declared.part.Part.TheVariants as part
use Rattle.wjs_frames.specs.Doing.{Does}
use Rattle.wjs_frames.specs.Operands.{IsOperand}
use Rattle.wjs_frames.specs.Parts.{env_in}
use Rattle.wjs_frames.proofs.Paying.{step_paid}
use Rattle.wjs_quick.proofs.Coming.{one_less}
use Rattle.wjs_stopping.specs.Evaluating.{Leaves}
use Rattle.wjs_direct_lines.specs.Deeds.{goal_here}

module _ {S : Type 0} (meaning : S → Meaning) where
  pub name_did : (c mid : Config S) (f : Frame) (node : NodeId) (o : Operand) (e : Said) → 0 < c.left → IsOperand meaning c f (part.Expr node) o
      → Does meaning (λ t. with_operand (operand_in t o) (env_in meaning c t f)) (λ t. completion_in t e) (record c { left = c.left - 1 }) mid
      → Leaves meaning (goal_here meaning c f (AtExpr node.0)) (λ t go. go (completion_in t e)) c mid
  name_did c mid f node o e some is d = record {
    by = λ go later r h.
        let t = later.heap.texts in
        let env = env_in meaning c t f in
        step_paid meaning (AtExpr node.0) env go (with_operand (operand_in t o) env go) c later (c.left - 1) r (one_less c.left some) (λ st n. is.does t go st n) (d.by go later r h);
  }
