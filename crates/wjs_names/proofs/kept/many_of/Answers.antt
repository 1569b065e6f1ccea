use Rattle.std.proofs.Common.{◌∙◌, ap}
use Rattle.std.specs.FinMap as map
use Rattle.wjs_names.proofs.kept.many_of.Goals as goal

-- the box holds the rows
pub returns : goal.returns
returns g c = ap map.entries c.in_ok-many-2.ensures.ok ∙ c.in_ok-many.ensures
