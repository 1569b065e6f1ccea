use Rattle.wjs_scope.proofs.Keeping.{RowsKept}
use Rattle.wjs_scope.proofs.rows.rows.Given as goal

abbrev pub invariant-loop-number : goal.invariant-loop-number
invariant-loop-number l = RowsKept l.nodes l.marks l.levels (l.starts.items, l.list.items) l.number
