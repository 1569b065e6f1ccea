use Rattle.std.proofs.Common.{◌≡◌, map, length, take, drop}
use Rattle.wjs_tree.specs.Children.{ClausesBelow}
use Rattle.wjs_order.specs.Renumbered.{number_in, new_clause}
use Rattle.wjs_order.proofs.renumber.clauses.Given as goal

abbrev pub invariant-loop-clause : goal.invariant-loop-clause
invariant-loop-clause l = (l.made.items ≡ map (new_clause (number_in l.to)) (take l.clause-index l.clauses)) × ClausesBelow (length l.to) (drop l.clause-index l.clauses)
