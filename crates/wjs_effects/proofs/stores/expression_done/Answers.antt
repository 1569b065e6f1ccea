use Rattle.std.proofs.Common.{◌<◌, arith}
use Rattle.wjs_meaning.specs.Deeds.{AtExpr}
use Rattle.wjs_heap_steps.proofs.Composing.{if_ok}
use Rattle.wjs_heap_steps.proofs.Later.{later_same}
use Rattle.wjs_heap_steps.proofs.Peeking.{if_some}
use Rattle.wjs_effects.specs.Forms.{storing_in}
use Rattle.wjs_effects.proofs.Leaving.{ends_entered}
use Rattle.wjs_effects.proofs.stores.expression_done.Goals as goal

pub returns-then-left-eq0-clause-later : goal.returns-then-left-eq0-clause-later
returns-then-left-eq0-clause-later g c = later_same g.S.WorldStore.meaning c.args.config.now c.requires.base

pub returns-in-Some-clause-does : goal.returns-in-Some-clause-does
returns-in-Some-clause-does g c =
    let m = g.S.WorldStore.meaning in
    let old = c.args.config.now in
    let f = c.args.frame.now in
    let form = c.in-Some.form in
    let some : 0 < c.args.left = omega (arith, c.if-left-eq0.false) in
    if_ok _ _ c.entered.result (λ done k. if_some _ _ done (λ e d. ends_entered m old f (AtExpr c.args.node.0) (λ t env. storing_in form env) e c.args.left c.entered.new.config some c.in-Some.ensures d) k) c.entered.ensures.does

pub returns-in-None-clause-later : goal.returns-in-None-clause-later
returns-in-None-clause-later g c = later_same g.S.WorldStore.meaning c.args.config.now c.requires.base
