use Rattle.std.proofs.Common.{None}
use Rattle.wjs_base.specs.Text.{Table}
use Rattle.wjs_by_content.specs.Tables.{value_in}
use Rattle.wjs_meaning.specs.Deeds.{Completion, Gives, Sub, then_value}
use Rattle.wjs_meaning.specs.Expressions.{expr_at}
use Rattle.wjs_meaning.specs.Loops.{loop_test}
use Rattle.wjs_frames.specs.Parts.{env_in}
use Rattle.wjs_frames.proofs.Handling.{runs_later, goes_on_after}
use Rattle.wjs_frames.proofs.Parting.{stands_later}
use Rattle.wjs_loops.proofs.whiles.while_again.Goals as goal

-- the value was had at once
pub returns-in-Some : goal.returns-in-Some
returns-in-Some g c =
    let m = g.S.WorldStore.meaning in
    let old = c.args.config.now in
    let answer : Table → Completion = λ t. Gives (value_in t c.in-Some.value) in
    goes_on_after m c.args.frame old c.quick_entered.new.config c.while_tested.new.config c.while_tested.result (λ t go. Sub (expr_at c.args.e.0 (env_in m old t c.args.frame)) go) answer
    (λ t env. then_value (loop_test c.args.frame.node.0 None c.args.s.0 env)) c.in-Some.ensures.does c.quick_entered.ensures.later c.while_tested.ensures

pub while_tested-requires-clause-runs : goal.while_tested-requires-clause-runs
while_tested-requires-clause-runs g c = runs_later _ _ _ _ c.requires.runs c.quick_entered.ensures.later

pub while_tested-requires-clause-body : goal.while_tested-requires-clause-body
while_tested-requires-clause-body g c =
    stands_later g.S.WorldStore.meaning c.args.config.now c.args.frame c.quick_entered.new.config c.args.s c.quick_entered.ensures.later c.requires.body

-- it is entered
pub expr_iteration-requires-clause-runs : goal.expr_iteration-requires-clause-runs
expr_iteration-requires-clause-runs g c = runs_later _ _ _ _ c.requires.runs c.quick_entered.ensures.later

pub expr_iteration-requires-clause-part : goal.expr_iteration-requires-clause-part
expr_iteration-requires-clause-part g c =
    stands_later g.S.WorldStore.meaning c.args.config.now c.args.frame c.quick_entered.new.config c.args.e c.quick_entered.ensures.later c.requires.test

pub expr_iteration-requires-clause-point : goal.expr_iteration-requires-clause-point
expr_iteration-requires-clause-point g c =
    stands_later g.S.WorldStore.meaning c.args.config.now c.args.frame c.quick_entered.new.config c.args.s c.quick_entered.ensures.later c.requires.body

pub returns-in-None : goal.returns-in-None
returns-in-None g c = let h = rw c.in-None.ensures.same at c.expr_iteration.ensures in h
