use Rattle.wjs_frames.proofs.Handling.{running_later}
use Rattle.wjs_native_core.proofs.worlds.sprout_of.Goals as goal

pub give-requires-clause-running : goal.give-requires-clause-running
give-requires-clause-running g c = running_later _ _ _ (running_later _ _ _ c.requires.runs.running c.in_ok-child.ensures.later) c.in_ok-object.ensures.later
