use Rattle.wjs_base.specs.Text.{Table}
use Rattle.wjs_by_content.specs.Tables.{value_in}
use Rattle.wjs_meaning.specs.Deeds.{Completion, Gives, Eval, AtExpr, then_value}
use Rattle.wjs_meaning.specs.Expressions as line
use Rattle.wjs_model.specs.Contents.{reference_in}
use Rattle.wjs_frames.specs.Parts.{env_in}
use Rattle.wjs_frames.proofs.Handling.{runs_later, goes_on_after}
use Rattle.wjs_frames.proofs.Parting.{stands_later}
use Rattle.wjs_assigns.proofs.assigns.assign_plain.Goals as goal

-- the value was had at once
pub returns-in-Some : goal.returns-in-Some
returns-in-Some g c =
    let m = g.S.WorldStore.meaning in
    let old = c.args.config.now in
    let answer : Table → Completion = λ t. Gives (value_in t c.in-Some.value) in
    goes_on_after m c.args.frame old c.quick.new.config c.store_and_give.new.config c.store_and_give.result (λ t go. Eval (AtExpr c.args.right.0) (env_in m old t c.args.frame) go) answer
    (λ t env. then_value (line.assign_value (reference_in t c.args.reference) env)) c.in-Some.ensures.does c.quick.ensures.later c.store_and_give.ensures

pub store_and_give-requires-clause-runs : goal.store_and_give-requires-clause-runs
store_and_give-requires-clause-runs g c = runs_later _ _ _ _ c.requires.runs c.quick.ensures.later

pub store_and_give-requires-clause-reference : goal.store_and_give-requires-clause-reference
store_and_give-requires-clause-reference g c = c.quick.ensures.later.references c.args.reference c.requires.reference

-- the right side is entered
pub enter_assigned-requires-clause-runs : goal.enter_assigned-requires-clause-runs
enter_assigned-requires-clause-runs g c = runs_later _ _ _ _ c.requires.runs c.quick.ensures.later

pub enter_assigned-requires-clause-right : goal.enter_assigned-requires-clause-right
enter_assigned-requires-clause-right g c =
    stands_later g.S.WorldStore.meaning c.args.config.now c.args.frame c.quick.new.config c.args.right c.quick.ensures.later c.requires.right

pub enter_assigned-requires-clause-reference : goal.enter_assigned-requires-clause-reference
enter_assigned-requires-clause-reference g c = c.quick.ensures.later.references c.args.reference c.requires.reference

pub returns-in-None : goal.returns-in-None
returns-in-None g c = let h = rw c.in-None.ensures.same at c.enter_assigned.ensures in h
