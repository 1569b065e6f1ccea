use Rattle.wjs_stopping.proofs.Stopping.{takes_no_more_turns}
use Rattle.wjs_stopping.proofs.laws.frames_take_no_more_turns.Goals as goal

pub returns : goal.returns
returns c = takes_no_more_turns
