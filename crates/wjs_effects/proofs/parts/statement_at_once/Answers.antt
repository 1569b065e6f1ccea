use Rattle.wjs_meaning.specs.Deeds.{AtStmt}
use Rattle.wjs_heap_steps.proofs.Composing.{if_ok}
use Rattle.wjs_heap_steps.proofs.Later.{later_same}
use Rattle.wjs_heap_steps.proofs.Peeking.{if_some}
use Rattle.wjs_effects.specs.Effects.{carried}
use Rattle.wjs_effects.proofs.Leaving.{goal_done}
use Rattle.wjs_effects.proofs.parts.statement_at_once.Goals as goal

-- what is left was done, and so the statement
pub returns-in-Some-clause-does : goal.returns-in-Some-clause-does
returns-in-Some-clause-does g c =
    let m = g.S.WorldStore.meaning in
    let old = c.args.config.now in
    let x = carried c.in-Some.effect in
    if_ok _ _ c.carry_out.result (λ done k. if_some _ _ done (λ e d. goal_done m (AtStmt c.args.node.0) x e old c.args.frame.now old.left c.effect_at.new.steps c.carry_out.new.config c.in-Some.ensures.leaves d) k) c.carry_out.ensures.does

pub returns-in-None-clause-later : goal.returns-in-None-clause-later
returns-in-None-clause-later g c = later_same g.S.WorldStore.meaning c.args.config.now c.requires.base
