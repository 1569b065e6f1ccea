use Rattle.std.proofs.Common.{Option, ap}
use Rattle.wjs_base.specs.declared.ids.NodeId.{NodeId}
use Rattle.wjs_base.specs.declared.values.Value.TheVariants as values
use Rattle.wjs_meaning.specs.Deeds.{Eval, AtExpr, then_value}
use Rattle.wjs_meaning.specs.Reading.{number}
use Rattle.wjs_meaning.specs.Statements as line
use Rattle.wjs_meaning.specs.Trees as trees
use Rattle.wjs_model.specs.declared.frame.Completion.TheVariants as completions
use Rattle.wjs_frames.specs.Parts.{env_in}
use Rattle.wjs_effects.specs.declared.effect.Effect.TheVariants as effects
use Rattle.wjs_effects.specs.Effects.{carried}
use Rattle.wjs_effects.proofs.Leaving.{shorten_as, leaves_all, leaves_as, leaves_ended}
use Rattle.wjs_effects.proofs.statements.result_of.Goals as goal

pub returns-in-Some-clause-leaves : goal.returns-in-Some-clause-leaves
returns-in-Some-clause-leaves g c = λ left.
    let m = g.S.WorldStore.meaning in
    let now = c.args.config.now in
    let f = c.args.frame.now in
    let e = c.in-Some.e in
    leaves_as m now f (λ t env. Eval (AtExpr e.0) env (then_value line.return_value)) (λ t env. line.stmt_of c.args.node.0 (trees.Return (number c.args.value)) env) (carried (effects.Returns e)) left left
    (λ t more. ap (λ (o : Option NodeId). line.stmt_of c.args.node.0 (trees.Return (number o)) (env_in m now t f)) c.in-Some.is)
    (leaves_all m now f (λ t env. Eval (AtExpr e.0) env (then_value line.return_value)) left)

pub returns-in-None-clause-leaves : goal.returns-in-None-clause-leaves
returns-in-None-clause-leaves g c = λ left.
    let m = g.S.WorldStore.meaning in
    let now = c.args.config.now in
    let f = c.args.frame.now in
    leaves_ended m now f (λ t env. line.stmt_of c.args.node.0 (trees.Return (number c.args.value)) env) (completions.Returns values.Undefined) left
    (λ t more. shorten_as _ _ (ap (λ (o : Option NodeId). line.stmt_of c.args.node.0 (trees.Return (number o)) (env_in m now t f)) c.in-None.is))
