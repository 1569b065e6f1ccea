use Rattle.wjs_frames.specs.Parts.{node_of}
use Rattle.wjs_frames.proofs.Handling.{runs_later}
use Rattle.wjs_frames.proofs.Parting.{stands_later, point_later}
use Rattle.wjs_quick.proofs.Entering.{entered_quickly, entered_slowly}
use Rattle.wjs_quick.proofs.enters.enter_quickly.Goals as goal

pub go_on_with-requires-clause-runs : goal.go_on_with-requires-clause-runs
go_on_with-requires-clause-runs g c = runs_later _ _ _ _ c.requires.runs c.quick.ensures.later

pub go_on_with-requires-clause-point : goal.go_on_with-requires-clause-point
go_on_with-requires-clause-point g c = point_later g.S.WorldStore.meaning c.args.config.now c.args.frame c.quick.new.config c.args.point c.quick.ensures.later c.requires.point

pub enter-requires-clause-point : goal.enter-requires-clause-point
enter-requires-clause-point g c = point_later g.S.WorldStore.meaning c.args.config.now c.args.frame c.quick.new.config c.args.point c.quick.ensures.later c.requires.point

pub enter-requires-clause-runs : goal.enter-requires-clause-runs
enter-requires-clause-runs g c = runs_later _ _ _ _ c.requires.runs c.quick.ensures.later

pub enter-requires-clause-part : goal.enter-requires-clause-part
enter-requires-clause-part g c = stands_later g.S.WorldStore.meaning c.args.config.now c.args.frame c.quick.new.config (node_of c.args.part) c.quick.ensures.later c.requires.part

pub returns-in-Some : goal.returns-in-Some
returns-in-Some g c = entered_quickly g.S.WorldStore.meaning c.args.frame c.args.part c.in-Some.value c.args.config.now c.quick.new.config c.go_on_with.new.config c.go_on_with.result c.quick.ensures.only c.in-Some.ensures.does c.args.point c.go_on_with.ensures

pub returns-in-None : goal.returns-in-None
returns-in-None g c = entered_slowly g.S.WorldStore.meaning c.args.frame c.args.part c.args.config.now c.quick.new.config c.enter.new.config c.enter.result c.args.point c.in-None.ensures.same c.enter.ensures
