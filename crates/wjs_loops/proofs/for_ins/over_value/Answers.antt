use Rattle.std.proofs.lemmas.Result.{MatchResult-at_ok, MatchResult-at_err}
use Rattle.wjs_frames.proofs.Parting.{stands_later}
use Rattle.wjs_loops.proofs.ForInParts.{stands_held}
use Rattle.wjs_loops.proofs.ForInNames.{listed_follows, refused_follows}
use Rattle.wjs_frames.proofs.Handling.{runs_over}
use Rattle.wjs_loops.proofs.for_ins.over_value.Goals as goal

pub returns-in-Ok : goal.returns-in-Ok
returns-in-Ok g c = listed_follows g.S.WorldStore.meaning c.args.config.now c.hold_visits.new.config c.visit_next.new.config c.visit_next.result c.args.frame c.hold_visits.new.frame c.args.taker c.args.s c.in_ok-hold_visits.ensures.later c.in_ok-hold_visits.ensures.frame c.args.value (MatchResult-at_ok _ _ c.in-Ok.field-0 c.in-Ok.is c.in_ok-hold_visits.ensures.lists) c.visit_next.ensures

pub returns-in-Err : goal.returns-in-Err
returns-in-Err g c = refused_follows g.S.WorldStore.meaning c.args.config.now c.hold_visits.new.config c.finish.new.config c.finish.result c.args.frame c.hold_visits.new.frame c.args.taker c.args.s c.in_ok-hold_visits.ensures.later c.in_ok-hold_visits.ensures.frame c.args.value c.in-Err.error (MatchResult-at_err _ _ c.in-Err.error c.in-Err.is c.in_ok-hold_visits.ensures.lists) c.finish.ensures

pub visit_next-requires-clause-runs : goal.visit_next-requires-clause-runs
visit_next-requires-clause-runs g c = runs_over _ _ _ _ _ c.requires.runs c.in_ok-hold_visits.ensures.later c.in_ok-hold_visits.ensures.there

pub visit_next-requires-clause-body : goal.visit_next-requires-clause-body
visit_next-requires-clause-body g c =
    let m = g.S.WorldStore.meaning in
    let mid = c.hold_visits.new.config in
    stands_held m mid c.args.frame c.hold_visits.new.frame c.args.s c.in_ok-hold_visits.ensures.frame
    (stands_later m c.args.config.now c.args.frame mid c.args.s c.in_ok-hold_visits.ensures.later c.requires.body)
