use Rattle.std.proofs.Common.{Some, None}
use Rattle.wjs_frames.proofs.Parting.{stands_later}
use Rattle.wjs_loops.proofs.ForInParts.{stands_held}
use Rattle.wjs_loops.proofs.ForInNames.{reached_follows}
use Rattle.wjs_frames.proofs.Handling.{runs_over}
use Rattle.wjs_loops.proofs.for_ins.visit_next.Goals as goal

pub returns-in-Some : goal.returns-in-Some
returns-in-Some g c = reached_follows g.S.WorldStore.meaning c.args.config.now c.next_present.new.config c.visit.new.config c.visit.result c.args.frame c.next_present.new.frame c.args.taker c.args.s c.in_ok-slot.ensures.later c.in_ok-slot.ensures.frame c.in_ok-slot.field-0 (Some c.in-Some.slot) c.in_ok-slot.ensures.reaches c.in-Some.is c.visit.ensures

pub returns-in-None : goal.returns-in-None
returns-in-None g c = reached_follows g.S.WorldStore.meaning c.args.config.now c.next_present.new.config c.finish.new.config c.finish.result c.args.frame c.next_present.new.frame c.args.taker c.args.s c.in_ok-slot.ensures.later c.in_ok-slot.ensures.frame c.in_ok-slot.field-0 None c.in_ok-slot.ensures.reaches c.in-None.is c.finish.ensures

pub visit-requires-clause-runs : goal.visit-requires-clause-runs
visit-requires-clause-runs g c = runs_over _ _ _ _ _ c.requires.runs c.in_ok-slot.ensures.later c.in_ok-slot.ensures.there

pub visit-requires-clause-body : goal.visit-requires-clause-body
visit-requires-clause-body g c =
    let m = g.S.WorldStore.meaning in
    let mid = c.next_present.new.config in
    stands_held m mid c.args.frame c.next_present.new.frame c.args.s c.in_ok-slot.ensures.frame
    (stands_later m c.args.config.now c.args.frame mid c.args.s c.in_ok-slot.ensures.later c.requires.body)
