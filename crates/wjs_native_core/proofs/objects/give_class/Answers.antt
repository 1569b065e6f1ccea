use Rattle.wjs_frames.proofs.Handling.{runs_later}
use Rattle.wjs_native_core.proofs.objects.give_class.Goals as goal

pub give_class_of-requires-clause-runs : goal.give_class_of-requires-clause-runs
give_class_of-requires-clause-runs g c = runs_later _ _ _ _ c.requires.runs c.in_ok-object.ensures.later
