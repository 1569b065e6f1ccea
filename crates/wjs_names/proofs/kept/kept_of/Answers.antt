use Rattle.std.proofs.Common.{ap, sym}
use Rattle.wjs_names.specs.Kept.{short_rows}
use Rattle.wjs_names.proofs.kept.kept_of.Goals as goal

pub returns-in-Zero : goal.returns-in-Zero
returns-in-Zero g c = ap short_rows (sym c.in-Zero.is)

pub returns-in-One : goal.returns-in-One
returns-in-One g c = ap short_rows (sym c.in-One.is)

pub returns-in-Two : goal.returns-in-Two
returns-in-Two g c = ap short_rows (sym c.in-Two.is)

pub returns-in-Three : goal.returns-in-Three
returns-in-Three g c = ap short_rows (sym c.in-Three.is)
