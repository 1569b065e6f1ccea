use Rattle.std.proofs.Common.{sym}
use Rattle.wjs_quick.proofs.Operations.{sum_gives}
use Rattle.wjs_quick.proofs.numbers.sum.Goals as goal

pub returns-in-Ok : goal.returns-in-Ok
returns-in-Ok c = λ env. sum_gives c.args.x.number c.args.y.number c.in-Ok.number.number env (sym c.in-Ok.ensures)
