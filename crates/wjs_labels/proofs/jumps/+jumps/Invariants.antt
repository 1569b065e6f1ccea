use Rattle.std.proofs.Common.{◌+◌, ◌*◌}
use Rattle.wjs_labels.specs.Around.{around_of}
use Rattle.wjs_labels.proofs.Lists.{StmtsWalk, ClausesWalk}
use Rattle.wjs_labels.proofs.Steps.{StmtWalk}
use Rattle.wjs_labels.proofs.jumps.+jumps.Given as goal

abbrev pub decreases-form_is_right : goal.decreases-form_is_right
decreases-form_is_right l = l.room * 8 + 5

abbrev pub decreases-labelled_is_right : goal.decreases-labelled_is_right
decreases-labelled_is_right l = l.room * 8 + 4

abbrev pub decreases-optional_is_right : goal.decreases-optional_is_right
decreases-optional_is_right l = l.room * 8 + 2

abbrev pub decreases-statement_is_right : goal.decreases-statement_is_right
decreases-statement_is_right l = l.room * 8 + 1

abbrev pub decreases-statements_are_right : goal.decreases-statements_are_right
decreases-statements_are_right l = l.room * 8 + 2

abbrev pub decreases-switch_is_right : goal.decreases-switch_is_right
decreases-switch_is_right l = l.room * 8 + 4

abbrev pub decreases-try_is_right : goal.decreases-try_is_right
decreases-try_is_right l = l.room * 8 + 4

abbrev pub invariant-statement_is_right-loop-first : goal.invariant-statement_is_right-loop-first
invariant-statement_is_right-loop-first l = StmtWalk l.nodes (around_of l.around) l.room l.fn.id l.at

abbrev pub decreases-statement_is_right-loop-first : goal.decreases-statement_is_right-loop-first
decreases-statement_is_right-loop-first l = l.at.0

abbrev pub invariant-statements_are_right-loop-id : goal.invariant-statements_are_right-loop-id
invariant-statements_are_right-loop-id l = StmtsWalk l.nodes (around_of l.around) l.room l.list l.id-index

abbrev pub invariant-switch_is_right-loop-clause : goal.invariant-switch_is_right-loop-clause
invariant-switch_is_right-loop-clause l = ClausesWalk l.nodes (around_of l.inner) l.room l.clauses l.clause-index
