use Rattle.std.proofs.Common.{sym, subst}
use Rattle.wjs_base.specs.Text.{Table}
use Rattle.wjs_by_content.specs.Tables.{text_in}
use Rattle.wjs_meaning.specs.Deeds.{Reference, Completion, Refers}
use Rattle.wjs_meaning.specs.References as line
use Rattle.wjs_model.specs.declared.operand.Operand.{Operand}
use Rattle.wjs_model.specs.Contents.{operand_in, reference_in}
use Rattle.wjs_model.specs.Operands.{with_operand}
use Rattle.wjs_model.specs.Units.{place_in}
use Rattle.wjs_frames.specs.Parts.{env_in}
use Rattle.wjs_heap_steps.specs.Peeking.{Peeks}
use Rattle.wjs_heap_steps.proofs.Peeking.{peeks_map}
use Rattle.wjs_heap_steps.proofs.peeks.peek_target.Goals as goal

pub returns-in-Target-clause-peeks : goal.returns-in-Target-clause-peeks
returns-in-Target-clause-peeks g c =
    let m = g.S.WorldStore.meaning in
    let now = c.args.config.now in
    let found : Table → Reference = λ t. reference_in t c.reference_at.result in
    let refers : Table → Reference → Completion = λ t r. Refers r in
    subst (λ (o : Operand). Peeks m (λ t. with_operand (operand_in t o) (env_in m now t c.args.frame.now)) (λ t. Refers (found t)) now) (sym c.in-Target.is)
    (peeks_map m (λ t. line.reference_at (place_in c.in-Target.place) (text_in t c.in-Target.id) (env_in m now t c.args.frame.now)) found refers now c.reference_at.ensures.peeks)
