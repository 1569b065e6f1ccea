use Rattle.std.proofs.Common.{◌+◌, ◌*◌}
use Rattle.wjs_scope.proofs.Lists.{StmtsWalk, ClausesWalk}
use Rattle.wjs_scope.proofs.Steps.{StmtWalk}
use Rattle.wjs_scope.proofs.walk.+walk.Given as goal

abbrev pub decreases-form : goal.decreases-form
decreases-form l = l.room * 8 + 5

abbrev pub decreases-optional : goal.decreases-optional
decreases-optional l = l.room * 8 + 2

abbrev pub decreases-statement : goal.decreases-statement
decreases-statement l = l.room * 8 + 1

abbrev pub decreases-statements : goal.decreases-statements
decreases-statements l = l.room * 8 + 2

abbrev pub decreases-clauses : goal.decreases-clauses
decreases-clauses l = l.room * 8 + 4

abbrev pub decreases-tried : goal.decreases-tried
decreases-tried l = l.room * 8 + 4

abbrev pub invariant-statement-loop-first : goal.invariant-statement-loop-first
invariant-statement-loop-first l = StmtWalk l.nodes l.room l.fn.id l.initial.vars l.at l.vars

abbrev pub decreases-statement-loop-first : goal.decreases-statement-loop-first
decreases-statement-loop-first l = l.at.0

abbrev pub invariant-statements-loop-id : goal.invariant-statements-loop-id
invariant-statements-loop-id l = StmtsWalk l.nodes l.room l.list l.initial.vars l.id-index l.vars

abbrev pub invariant-clauses-loop-clause : goal.invariant-clauses-loop-clause
invariant-clauses-loop-clause l = ClausesWalk l.nodes l.room l.list l.initial.vars l.clause-index l.vars
