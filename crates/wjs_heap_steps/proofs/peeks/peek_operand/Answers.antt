use Rattle.std.proofs.Common.{sym, subst}
use Rattle.std.specs.Prelude.{IfSome}
use Rattle.wjs_by_content.specs.Tables.{value_in}
use Rattle.wjs_meaning.specs.Deeds.{Gives}
use Rattle.wjs_model.specs.declared.operand.Operand.{Operand}
use Rattle.wjs_model.specs.Contents.{operand_in}
use Rattle.wjs_model.specs.Operands.{with_operand}
use Rattle.wjs_frames.specs.Parts.{env_in}
use Rattle.wjs_heap_steps.specs.Peeking.{Peeks}
use Rattle.wjs_heap_steps.proofs.peeks.peek_operand.Goals as goal

pub returns-in-Name-clause-peeks : goal.returns-in-Name-clause-peeks
returns-in-Name-clause-peeks g c =
    let m = g.S.WorldStore.meaning in
    let now = c.args.config.now in
    subst (λ (operand : Operand). IfSome c.peek_name.result (λ value. Peeks m (λ t. with_operand (operand_in t operand) (env_in m now t c.args.frame.now)) (λ t. Gives (value_in t value)) now)) (sym c.in-Name.is) c.peek_name.ensures.peeks
