use Rattle.std.proofs.Common.{◌≡◌, length, drop}
use Rattle.wjs_tree.specs.Children.{ClausesBelow}
use Rattle.wjs_scope.specs.Nesting.{clause_parts}
use Rattle.wjs_scope.specs.Marks.{marked}
use Rattle.wjs_scope.proofs.marks.mark_clauses.Given as goal

abbrev pub invariant-loop-clause : goal.invariant-loop-clause
invariant-loop-clause l =
    (marked l.initial.table l.at (clause_parts l.list) ≡ marked l.table l.at (clause_parts (drop l.clause-index l.list))) × ClausesBelow (length l.initial.table) (drop l.clause-index l.list) × (length l.table ≡ length l.initial.table)
