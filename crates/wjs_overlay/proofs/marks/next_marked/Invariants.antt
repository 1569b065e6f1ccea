use Rattle.std.specs.FinMap as map
use Rattle.wjs_layers.specs.Cursor.{to_come, count_passing}
use Rattle.wjs_overlay.proofs.Written.{Passed}
use Rattle.wjs_overlay.proofs.marks.next_marked.Given as goal

abbrev pub invariant-rows : goal.invariant-rows
invariant-rows g l = Passed l.layer.rows l.fn.after l.passed

abbrev pub decreases-rows : goal.decreases-rows
decreases-rows g l = count_passing (to_come l.passed) (map.keys l.layer.rows)
