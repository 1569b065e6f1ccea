use Rattle.wjs_by_content.specs.Values.{Object}
use Rattle.wjs_meaning.specs.Deeds.{give}
use Rattle.wjs_frames.proofs.Handling.{runs_later}
use Rattle.wjs_literals.proofs.arrays.array_last.Goals as goal

pub finish-requires-clause-running : goal.finish-requires-clause-running
finish-requires-clause-running g c = (runs_later _ _ _ _ c.requires.runs c.in_ok-write_last.ensures.later).running

pub returns : goal.returns
returns g c = c.in_ok-write_last.ensures.does.by (give (Object c.args.array)) c.finish.new.config c.finish.result c.finish.ensures
