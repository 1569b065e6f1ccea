use Rattle.wjs_frames.specs.Parts.{node_of}
use Rattle.wjs_frames.proofs.Handling.{runs_later, running_later}
use Rattle.wjs_frames.proofs.Parting.{stands_later}
use Rattle.wjs_quick.proofs.Entering.{ended_quickly, last_slowly}
use Rattle.wjs_quick.proofs.enters.enter_last_quickly.Goals as goal

pub finish-requires-clause-running : goal.finish-requires-clause-running
finish-requires-clause-running g c = running_later _ _ _ c.requires.runs.running c.quick.ensures.later

pub enter_last-requires-clause-runs : goal.enter_last-requires-clause-runs
enter_last-requires-clause-runs g c = runs_later _ _ _ _ c.requires.runs c.quick.ensures.later

pub enter_last-requires-clause-part : goal.enter_last-requires-clause-part
enter_last-requires-clause-part g c = stands_later g.S.WorldStore.meaning c.args.config.now c.args.frame c.quick.new.config (node_of c.args.part) c.quick.ensures.later c.requires.part

pub returns-in-Some : goal.returns-in-Some
returns-in-Some g c = ended_quickly g.S.WorldStore.meaning c.args.frame c.args.part c.in-Some.value c.args.config.now c.quick.new.config c.finish.new.config c.finish.result c.quick.ensures.only c.in-Some.ensures.does c.finish.ensures

pub returns-in-None : goal.returns-in-None
returns-in-None g c = last_slowly g.S.WorldStore.meaning c.args.frame c.args.part c.args.config.now c.quick.new.config c.enter_last.new.config c.enter_last.result c.in-None.ensures.same c.enter_last.ensures
