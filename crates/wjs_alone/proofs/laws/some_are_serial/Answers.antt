use Rattle.wjs_alone.proofs.Ascending.{some_lem}
use Rattle.wjs_alone.proofs.laws.some_are_serial.Goals as goal

pub returns : goal.returns
returns c = some_lem
