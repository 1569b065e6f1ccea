use Rattle.wjs_meaning.specs.Expressions.{update_value}
use Rattle.wjs_model.specs.Contents.{reference_in}
use Rattle.wjs_model.specs.Waiting.{fix_in}
use Rattle.wjs_frames.proofs.Handling.{runs_later, goes_on_after}
use Rattle.wjs_assigns.proofs.updates.update_reference.Goals as goal

pub update_value-requires-clause-runs : goal.update_value-requires-clause-runs
update_value-requires-clause-runs g c = runs_later _ _ _ _ c.requires.runs c.in_ok-answer.ensures.later

pub returns-in-Ok : goal.returns-in-Ok
returns-in-Ok g c =
    let d = rw c.in-Ok.is at c.in_ok-answer.ensures.does in
    goes_on_after g.S.WorldStore.meaning c.args.frame _ _ c.update_value.new.config c.update_value.result _ _
    (λ t env. update_value (fix_in c.args.fix) c.args.operator env (reference_in t c.args.reference)) d c.in_ok-answer.ensures.later c.update_value.ensures
