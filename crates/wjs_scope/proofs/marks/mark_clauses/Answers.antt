use Rattle.std.proofs.Common.{◌∙◌, ap}
use Rattle.wjs_tree.specs.declared.node.Clause.{Clause}
use Rattle.wjs_scope.specs.Nesting.{clause_part}
use Rattle.wjs_scope.specs.Marks.{marked}
use Rattle.wjs_scope.proofs.Marking.{clauses_on}
use Rattle.wjs_scope.proofs.marks.mark_clauses.Goals as goal

pub loop-clause-preserved : goal.loop-clause-preserved
loop-clause-preserved c =
    clauses_on c.args.table.now c.loop-clause.table c.mark_clause.new.table c.args.at c.loop-clause.clause-index c.args.list.now c.clause-item.result c.loop-clause-test.true
    (c.mark_clause.ensures ∙ ap (λ (z : Clause). marked c.loop-clause.table c.args.at (clause_part z)) c.clause-item.is) c.loop-clause.invariant
