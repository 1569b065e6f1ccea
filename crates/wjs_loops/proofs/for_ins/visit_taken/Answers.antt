use Rattle.wjs_model.specs.Contents.{reference_in}
use Rattle.wjs_step_common.proofs.Following.{follows_as}
use Rattle.wjs_loops.proofs.ForInParts.{stands_held}
use Rattle.wjs_loops.proofs.ForInNames.{taken_same}
use Rattle.wjs_frames.proofs.Handling.{runs_as}
use Rattle.wjs_loops.proofs.for_ins.visit_taken.Goals as goal

pub returns-in-Some : goal.returns-in-Some
returns-in-Some g c =
    let later = c.visit_stored.new.config in
    let t = later.heap.texts in
    follows_as g.S.WorldStore.meaning _ _ _ _ c.visit_stored.result (λ grows. taken_same g.S.WorldStore.meaning t c.args.config.now c.args.frame c.next_visit.new.frame c.args.taker c.args.s c.in-Some.slot (reference_in t c.args.reference) c.in-Some.ensures.frame c.in-Some.ensures.next) c.visit_stored.ensures

pub visit_stored-requires-clause-runs : goal.visit_stored-requires-clause-runs
visit_stored-requires-clause-runs g c = runs_as _ _ _ _ c.requires.runs c.in-Some.ensures.there

pub visit_stored-requires-clause-body : goal.visit_stored-requires-clause-body
visit_stored-requires-clause-body g c =
    stands_held g.S.WorldStore.meaning c.args.config.now c.args.frame c.next_visit.new.frame c.args.s c.in-Some.ensures.frame c.requires.body
