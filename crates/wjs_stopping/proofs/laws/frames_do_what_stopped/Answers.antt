use Rattle.wjs_stopping.proofs.Stopping.{does_what_stopped}
use Rattle.wjs_stopping.proofs.laws.frames_do_what_stopped.Goals as goal

pub returns : goal.returns
returns c = does_what_stopped
