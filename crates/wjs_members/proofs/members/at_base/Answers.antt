use Rattle.wjs_base.specs.Text.{Table}
use Rattle.wjs_by_content.specs.Tables.{value_in}
use Rattle.wjs_meaning.specs.Deeds.{Completion, Gives, Eval, AtExpr, then_value}
use Rattle.wjs_meaning.specs.Expressions as line
use Rattle.wjs_model.specs.Waiting.{taken}
use Rattle.wjs_frames.specs.Parts.{env_in}
use Rattle.wjs_frames.proofs.Handling.{runs_later, goes_on_after}
use Rattle.wjs_frames.proofs.Parting.{stands_later}
use Rattle.wjs_members.proofs.members.at_base.Goals as goal

-- the index was had at once
pub returns-in-Some : goal.returns-in-Some
returns-in-Some g c =
    let m = g.S.WorldStore.meaning in
    let old = c.args.config.now in
    let answer : Table → Completion = λ t. Gives (value_in t c.in-Some.found) in
    goes_on_after m c.args.frame old c.quick.new.config c.at_both.new.config c.at_both.result (λ t go. Eval (AtExpr c.args.index.0) (env_in m old t c.args.frame) go) answer
    (λ t env. then_value (line.at_index (value_in t c.args.value) env (taken c.args.purpose env))) c.in-Some.ensures.does c.quick.ensures.later c.at_both.ensures

pub at_both-requires-clause-runs : goal.at_both-requires-clause-runs
at_both-requires-clause-runs g c = runs_later _ _ _ _ c.requires.runs c.quick.ensures.later

pub at_both-requires-clause-base : goal.at_both-requires-clause-base
at_both-requires-clause-base g c = c.quick.ensures.later.values c.args.value c.requires.value

-- it is entered
pub enter_index-requires-clause-runs : goal.enter_index-requires-clause-runs
enter_index-requires-clause-runs g c = runs_later _ _ _ _ c.requires.runs c.quick.ensures.later

pub enter_index-requires-clause-index : goal.enter_index-requires-clause-index
enter_index-requires-clause-index g c =
    stands_later g.S.WorldStore.meaning c.args.config.now c.args.frame c.quick.new.config c.args.index c.quick.ensures.later c.requires.index

pub enter_index-requires-clause-value : goal.enter_index-requires-clause-value
enter_index-requires-clause-value g c = c.quick.ensures.later.values c.args.value c.requires.value

pub returns-in-None : goal.returns-in-None
returns-in-None g c = let h = rw c.in-None.ensures.same at c.enter_index.ensures in h
