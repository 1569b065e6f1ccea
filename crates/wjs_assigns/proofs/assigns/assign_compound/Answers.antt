use Rattle.wjs_meaning.specs.Expressions.{compound_old}
use Rattle.wjs_model.specs.Contents.{reference_in}
use Rattle.wjs_frames.proofs.Handling.{runs_later, goes_on_after}
use Rattle.wjs_frames.proofs.Parting.{stands_later}
use Rattle.wjs_assigns.proofs.assigns.assign_compound.Goals as goal

pub compound_old-requires-clause-runs : goal.compound_old-requires-clause-runs
compound_old-requires-clause-runs g c = runs_later _ _ _ _ c.requires.runs c.in_ok-answer.ensures.later

pub compound_old-requires-clause-right : goal.compound_old-requires-clause-right
compound_old-requires-clause-right g c =
    stands_later g.S.WorldStore.meaning c.args.config.now c.args.frame c.value_of.new.config c.args.right c.in_ok-answer.ensures.later c.requires.right

pub returns-in-Ok : goal.returns-in-Ok
returns-in-Ok g c =
    let d = rw c.in-Ok.is at c.in_ok-answer.ensures.does in
    goes_on_after g.S.WorldStore.meaning c.args.frame _ _ c.compound_old.new.config c.compound_old.result _ _
    (λ t env. compound_old c.args.operator c.args.right.0 (reference_in t c.args.reference) env) d c.in_ok-answer.ensures.later c.compound_old.ensures
