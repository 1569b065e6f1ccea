use Rattle.wjs_alone.proofs.Order.{left_lem}
use Rattle.wjs_alone.proofs.laws.ended_take_no_turn.Goals as goal

pub returns : goal.returns
returns c = left_lem
