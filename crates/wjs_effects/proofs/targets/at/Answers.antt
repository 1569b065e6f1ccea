use Rattle.wjs_by_content.specs.Tables.{value_in}
use Rattle.wjs_meaning.specs.Deeds.{AtExpr, then_value}
use Rattle.wjs_meaning.specs.Expressions as line
use Rattle.wjs_model.specs.declared.frame.Completion.TheVariants as completions
use Rattle.wjs_model.specs.Waiting.{refer}
use Rattle.wjs_frames.specs.Parts.{env_in}
use Rattle.wjs_heap_steps.proofs.Peeking.{if_some}
use Rattle.wjs_effects.specs.Effects.{ends}
use Rattle.wjs_effects.proofs.Leaving.{leaves_value, leaves_by, leaves_ended}
use Rattle.wjs_effects.proofs.targets.at.Goals as goal

pub returns-clause-leaves : goal.returns-clause-leaves
returns-clause-leaves g c =
    let m = g.S.WorldStore.meaning in
    let now = c.args.config.now in
    let f = c.args.frame.now in
    let o = c.in_ok-object.object in
    let key = c.in_ok-key.key in
    let before = c.args.steps.now in
    let mid = c.value_at.new.steps in
    let last = c.value_at-2.new.steps in
    if_some _ _ c.index_reference.result (λ r shortens. leaves_by m now f (AtExpr c.args.base.0) (λ t env. then_value (line.at_base c.args.index.0 env refer)) (completions.Gives o) (ends (completions.Refers r)) before mid last (leaves_value m now f (AtExpr c.args.base.0) o before mid c.in_ok-object.ensures.does)
    (leaves_by m now f (AtExpr c.args.index.0) (λ t env. then_value (line.at_index (value_in t o) env refer)) (completions.Gives key) (ends (completions.Refers r)) mid last last (leaves_value m now f (AtExpr c.args.index.0) key mid last c.in_ok-key.ensures.does)
    (leaves_ended m now f (λ t env. line.at_index (value_in t o) env refer (value_in t key)) (completions.Refers r) last (λ t more. shortens t more (env_in m now t f) refer)))) c.index_reference.ensures.ends
