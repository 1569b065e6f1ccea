use Rattle.std.proofs.Common.{sym, subst}
use Rattle.wjs_base.specs.declared.values.Content.{Content}
use Rattle.wjs_base.specs.Text.{Table}
use Rattle.wjs_by_content.specs.Tables.{name_in, value_in, content_in}
use Rattle.wjs_meaning.specs.Deeds.{Completion, Gives}
use Rattle.wjs_meaning.specs.Properties as line
use Rattle.wjs_model.specs.Operands.{defined_or_thrown}
use Rattle.wjs_frames.specs.Parts.{env_in}
use Rattle.wjs_heap_steps.specs.Peeking.{Peeks}
use Rattle.wjs_heap_steps.proofs.Peeking.{peeks_then, peeks_at_once}
use Rattle.wjs_heap_steps.proofs.peeks.peek_global.Goals as goal

pub returns-in-Present-clause-peeks : goal.returns-in-Present-clause-peeks
returns-in-Present-clause-peeks g c =
    let m = g.S.WorldStore.meaning in
    let now = c.args.config.now in
    let v = c.in-Present.value in
    let given : Table → Completion = λ t. Gives (value_in t v) in
    peeks_then m (λ t. line.get now.global (name_in t c.args.name) (env_in m now t c.args.frame.now)) (λ t. content_in t c.in_ok-found.found) (λ t x go. defined_or_thrown (name_in t c.args.name) (env_in m now t c.args.frame.now) go x) given now c.in_ok-found.ensures.peeks
    (subst (λ (x : Content). Peeks m (λ t go. defined_or_thrown (name_in t c.args.name) (env_in m now t c.args.frame.now) go (content_in t x)) given now) (sym c.in-Present.is) (peeks_at_once m given now))
