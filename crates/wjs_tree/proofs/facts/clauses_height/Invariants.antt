use Rattle.std.proofs.Common.{◌≡◌, ◌≤◌, max, length, drop}
use Rattle.wjs_tree.specs.Children.{ClausesBelow}
use Rattle.wjs_tree.specs.Facts.{highest, clause_height}
use Rattle.wjs_tree.proofs.facts.clauses_height.Given as goal

abbrev pub invariant-loop-clause : goal.invariant-loop-clause
invariant-loop-clause l =
    (max l.high (highest (clause_height l.facts) (drop l.clause-index l.list)) ≡ highest (clause_height l.facts) l.list) × ClausesBelow (length l.facts) (drop l.clause-index l.list) × (l.high ≤ length l.facts)
