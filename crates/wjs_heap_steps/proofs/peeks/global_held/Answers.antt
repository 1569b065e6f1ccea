use Rattle.std.proofs.Common.{Option, Some}
use Rattle.wjs_base.specs.Text.{Table}
use Rattle.wjs_by_content.specs.Tables.{text_in, value_in}
use Rattle.wjs_by_content.specs.Values.{Value}
use Rattle.wjs_meaning.specs.Deeds.{Completion, Gives}
use Rattle.wjs_meaning.specs.Properties as line
use Rattle.wjs_model.specs.Operands.{defined_or_thrown}
use Rattle.wjs_frames.specs.Parts.{env_in}
use Rattle.wjs_heap_steps.proofs.Peeking.{if_some, peeks_then, peeks_at_once}
use Rattle.wjs_heap_steps.proofs.peeks.global_held.Goals as goal

pub returns-clause-peeks : goal.returns-clause-peeks
returns-clause-peeks g c =
    let m = g.S.WorldStore.meaning in
    let now = c.args.config.now in
    if_some _ _ c.peek_held.result (λ v p.
    let held : Table → Option Value = λ t. Some (value_in t v) in
    let given : Table → Completion = λ t. Gives (value_in t v) in
    peeks_then m (λ t. line.get now.global (text_in t c.args.id) (env_in m now t c.args.frame.now)) held (λ t x go. defined_or_thrown (text_in t c.args.id) (env_in m now t c.args.frame.now) go x) given now p
    (peeks_at_once m given now)) c.peek_held.ensures.peeks
