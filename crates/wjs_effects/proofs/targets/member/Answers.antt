use Rattle.std.proofs.Common.{◌∙◌}
use Rattle.wjs_tree.specs.declared.node.Node.TheVariants as nodes
use Rattle.wjs_meaning.specs.Deeds.{Eval, AtExpr, AtTarget, then_value}
use Rattle.wjs_meaning.specs.Expressions as line
use Rattle.wjs_meaning.specs.Programs.{entry}
use Rattle.wjs_meaning.specs.Reading.{spelt_in}
use Rattle.wjs_model.specs.declared.frame.Completion.TheVariants as completions
use Rattle.wjs_model.specs.Waiting.{refer}
use Rattle.wjs_frames.proofs.Places.{node_known}
use Rattle.wjs_heap_steps.proofs.Peeking.{if_some}
use Rattle.wjs_effects.specs.Effects.{ends}
use Rattle.wjs_effects.proofs.Leaving.{leaves_as}
use Rattle.wjs_effects.proofs.Lines.{target_is}
use Rattle.wjs_effects.proofs.targets.member.Goals as goal

pub returns-in-Some-Dot-clause-leaves : goal.returns-in-Some-Dot-clause-leaves
returns-in-Some-Dot-clause-leaves g c =
    let m = g.S.WorldStore.meaning in
    let now = c.args.config.now in
    let f = c.args.frame.now in
    let s = c.in-Some-Dot in
    if_some _ _ c.dot.result (λ r d. leaves_as m now f (λ t env. Eval (AtExpr s.base.0) env (then_value (line.dot_base (spelt_in t s.name) env refer))) (λ t env. entry (AtTarget c.args.node.0) env) (ends (completions.Refers r)) c.args.steps.now c.dot.new.steps
    (λ t more. target_is m now f c.args.node (nodes.Dot s.base s.name) t (s.ensures ∙ s.field-0-is)) d) c.dot.ensures.leaves

pub dot-requires-clause-name : goal.dot-requires-clause-name
dot-requires-clause-name g c =
    let now = c.args.config.now in
    node_known now.heap.texts now.units.items c.args.frame.now.tree c.args.node (nodes.Dot c.in-Some-Dot.base c.in-Some-Dot.name) c.requires.base.units (c.in-Some-Dot.ensures ∙ c.in-Some-Dot.field-0-is)

pub returns-in-Some-At-clause-leaves : goal.returns-in-Some-At-clause-leaves
returns-in-Some-At-clause-leaves g c =
    let m = g.S.WorldStore.meaning in
    let now = c.args.config.now in
    let f = c.args.frame.now in
    let s = c.in-Some-At in
    if_some _ _ c.at.result (λ r d. leaves_as m now f (λ t env. Eval (AtExpr s.base.0) env (then_value (line.at_base s.index.0 env refer))) (λ t env. entry (AtTarget c.args.node.0) env) (ends (completions.Refers r)) c.args.steps.now c.at.new.steps
    (λ t more. target_is m now f c.args.node (nodes.At s.base s.index) t (s.ensures ∙ s.field-0-is)) d) c.at.ensures.leaves
