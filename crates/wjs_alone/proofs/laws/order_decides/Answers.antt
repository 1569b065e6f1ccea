use Rattle.wjs_alone.proofs.Order.{order_lem}
use Rattle.wjs_alone.proofs.laws.order_decides.Goals as goal

pub returns : goal.returns
returns c = order_lem
