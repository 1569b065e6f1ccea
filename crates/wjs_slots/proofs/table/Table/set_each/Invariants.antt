use Rattle.std.proofs.Common.{◌≡◌, drop}
use Rattle.wjs_slots.specs.Several.{with_rows_on}
use Rattle.wjs_slots.proofs.table.Table.set_each.Given as goal

abbrev pub invariant-loop-row : goal.invariant-loop-row
invariant-loop-row g l = with_rows_on l.object (drop l.row-index l.rows) l.self ≡ with_rows_on l.object l.rows l.fn.self
