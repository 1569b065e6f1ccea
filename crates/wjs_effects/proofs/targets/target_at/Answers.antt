use Rattle.std.proofs.Common.{◌<◌, arith}
use Rattle.wjs_meaning.specs.Deeds.{AtTarget}
use Rattle.wjs_model.specs.declared.frame.Completion.TheVariants as completions
use Rattle.wjs_frames.specs.declared.part.Part.TheVariants as parts
use Rattle.wjs_heap_steps.proofs.Peeking.{if_some}
use Rattle.wjs_effects.specs.Effects.{ends}
use Rattle.wjs_effects.proofs.Leaving.{leaves_entered, leaves_operand}
use Rattle.wjs_effects.proofs.targets.target_at.Goals as goal

pub returns-in-Some-clause-leaves : goal.returns-in-Some-clause-leaves
returns-in-Some-clause-leaves g c =
    let some : 0 < c.args.steps.now = omega (arith, c.if-steps-eq0.false) in
    if_some _ _ c.peek_target.result (λ r p. leaves_operand g.S.WorldStore.meaning c.args.config.now c.args.frame.now (parts.Target c.args.node) c.in-Some.operand (completions.Refers r) c.args.steps.now some c.in-Some.ensures p) c.peek_target.ensures.peeks

pub returns-in-None-clause-leaves : goal.returns-in-None-clause-leaves
returns-in-None-clause-leaves g c =
    let some : 0 < c.args.steps.now = omega (arith, c.if-steps-eq0.false) in
    if_some _ _ c.member.result (λ r d. leaves_entered g.S.WorldStore.meaning c.args.config.now c.args.frame.now (AtTarget c.args.node.0) (ends (completions.Refers r)) c.args.steps.now c.member.new.steps some d) c.member.ensures.leaves
