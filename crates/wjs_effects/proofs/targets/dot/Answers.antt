use Rattle.wjs_by_content.specs.Tables.{value_in}
use Rattle.wjs_meaning.specs.Deeds.{AtExpr, then_value}
use Rattle.wjs_meaning.specs.Expressions as line
use Rattle.wjs_meaning.specs.Reading.{spelt_in}
use Rattle.wjs_model.specs.declared.frame.Completion.TheVariants as completions
use Rattle.wjs_model.specs.Waiting.{refer}
use Rattle.wjs_frames.specs.Parts.{env_in}
use Rattle.wjs_heap_steps.proofs.Peeking.{if_some}
use Rattle.wjs_effects.specs.Effects.{ends}
use Rattle.wjs_effects.proofs.Leaving.{leaves_value, leaves_by, leaves_ended}
use Rattle.wjs_effects.proofs.targets.dot.Goals as goal

pub returns-clause-leaves : goal.returns-clause-leaves
returns-clause-leaves g c =
    let m = g.S.WorldStore.meaning in
    let now = c.args.config.now in
    let f = c.args.frame.now in
    let o = c.in_ok-object.object in
    let before = c.args.steps.now in
    let mid = c.value_at.new.steps in
    if_some _ _ c.dot_reference.result (λ r shortens. leaves_by m now f (AtExpr c.args.base.0) (λ t env. then_value (line.dot_base (spelt_in t c.args.name) env refer)) (completions.Gives o) (ends (completions.Refers r)) before mid mid (leaves_value m now f (AtExpr c.args.base.0) o before mid c.in_ok-object.ensures.does)
    (leaves_ended m now f (λ t env. line.dot_base (spelt_in t c.args.name) env refer (value_in t o)) (completions.Refers r) mid (λ t more. shortens t more (env_in m now t f) refer))) c.dot_reference.ensures.ends
