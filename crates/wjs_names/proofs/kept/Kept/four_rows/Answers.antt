use Rattle.std.proofs.Common.{ap, sym}
use Rattle.wjs_names.specs.Kept.{rows_of}
use Rattle.wjs_names.proofs.kept.Kept.four_rows.Goals as goal

pub returns-in-Four : goal.returns-in-Four
returns-in-Four g c = ap rows_of (sym c.in-Four.is)
