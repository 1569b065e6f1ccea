use Rattle.std.proofs.Common.{◌≡◌, drop}
use Rattle.wjs_layers.specs.Several.{first_rows}
use Rattle.wjs_layers.specs.Shorts.{at_first}
use Rattle.wjs_layers.specs.Keyed.{rows_by}
use Rattle.wjs_layers.proofs.values.set_each.Given as goal

abbrev pub invariant-loop-row : goal.invariant-loop-row
invariant-loop-row g l = first_rows l.object (drop l.row-index l.rows) (rows_by at_first l.values) ≡ first_rows l.object l.rows (rows_by at_first l.fn.values)
