use Rattle.std.proofs.Common.{ap}
use Rattle.wjs_meaning.specs.Table.{Row}
use Rattle.wjs_native_core.proofs.sources.native_name.Goals as goal

pub returns : goal.returns
returns c = ap (λ (r : Row). r.name) c.row_of.ensures
