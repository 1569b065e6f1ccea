use Rattle.std.proofs.Common.{sym}
use Rattle.wjs_quick.proofs.Operations.{calculation_gives}
use Rattle.wjs_quick.proofs.numbers.calculation.Goals as goal

pub returns-in-Ok : goal.returns-in-Ok
returns-in-Ok c = λ env. calculation_gives c.args.operator c.args.x.number c.args.y.number c.in-Ok.number.number env c.requires (sym c.in-Ok.ensures)
