use Rattle.wjs_base.specs.Text.{Table}
use Rattle.wjs_by_content.specs.Tables.{value_in}
use Rattle.wjs_meaning.specs.Deeds.{Completion, Gives, Eval, AtExpr, then_value}
use Rattle.wjs_meaning.specs.Loops.{do_test}
use Rattle.wjs_frames.specs.Parts.{env_in}
use Rattle.wjs_frames.proofs.Handling.{runs_later, goes_on_after}
use Rattle.wjs_frames.proofs.Parting.{stands_later}
use Rattle.wjs_loops.proofs.whiles.do_asked.Goals as goal

-- the value was had at once
pub returns-in-Some : goal.returns-in-Some
returns-in-Some g c =
    let m = g.S.WorldStore.meaning in
    let old = c.args.config.now in
    let answer : Table → Completion = λ t. Gives (value_in t c.in-Some.value) in
    goes_on_after m c.args.frame old c.quick.new.config c.do_tested.new.config c.do_tested.result (λ t go. Eval (AtExpr c.args.e.0) (env_in m old t c.args.frame) go) answer
    (λ t env. then_value (do_test c.args.frame.node.0 env)) c.in-Some.ensures.does c.quick.ensures.later c.do_tested.ensures

pub do_tested-requires-clause-runs : goal.do_tested-requires-clause-runs
do_tested-requires-clause-runs g c = runs_later _ _ _ _ c.requires.runs c.quick.ensures.later

-- it is entered
pub enter-requires-clause-runs : goal.enter-requires-clause-runs
enter-requires-clause-runs g c = runs_later _ _ _ _ c.requires.runs c.quick.ensures.later

pub enter-requires-clause-part : goal.enter-requires-clause-part
enter-requires-clause-part g c =
    stands_later g.S.WorldStore.meaning c.args.config.now c.args.frame c.quick.new.config c.args.e c.quick.ensures.later c.requires.test

pub returns-in-None : goal.returns-in-None
returns-in-None g c = let h = rw c.in-None.ensures.same at c.enter.ensures in h
