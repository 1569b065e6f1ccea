use Rattle.std.proofs.Common.{◌+◌, ◌-◌, ◌*◌, ◌≤◌, length}
use Rattle.wjs_tree.specs.Children.{AreBelow, ClausesBelow}
use Rattle.wjs_tree.specs.Shows.{Keeps}
use Rattle.wjs_parse_stmt.specs.Chains.{BranchesBelow}
use Rattle.wjs_parse_stmt.specs.Made.{StmtsMade, ClausesMade, HeadsMade}
use Rattle.wjs_parse_stmt.proofs.Blocks.{Gathered}
use Rattle.wjs_parse_stmt.proofs.Arms.{GatheredArms}
use Rattle.wjs_parse_stmt.proofs.Branching.{Linked}
use Rattle.wjs_parse_stmt.proofs.+statement.Given as goal

abbrev pub decreases-stmt::statement : goal.decreases-stmt::statement
decreases-stmt::statement l = l.room * 20 + 11

abbrev pub decreases-branch::if_statement : goal.decreases-branch::if_statement
decreases-branch::if_statement l = l.room * 20 + 10

abbrev pub decreases-stmt::statement_by_kind : goal.decreases-stmt::statement_by_kind
decreases-stmt::statement_by_kind l = l.room * 20 + 9

abbrev pub decreases-stmt::block_statement : goal.decreases-stmt::block_statement
decreases-stmt::block_statement l = l.room * 20 + 8

abbrev pub decreases-stmt::labelled_statement : goal.decreases-stmt::labelled_statement
decreases-stmt::labelled_statement l = l.room * 20 + 8

abbrev pub decreases-stmt::within_statement : goal.decreases-stmt::within_statement
decreases-stmt::within_statement l = l.room * 20 + 8

abbrev pub decreases-lists::block : goal.decreases-lists::block
decreases-lists::block l = l.room * 20 + 7

abbrev pub decreases-lists::statements : goal.decreases-lists::statements
decreases-lists::statements l = l.room * 20 + 12

abbrev pub decreases-branch::case_clause : goal.decreases-branch::case_clause
decreases-branch::case_clause l = l.room * 20 + 13

abbrev pub decreases-branch::case_clauses : goal.decreases-branch::case_clauses
decreases-branch::case_clauses l = l.room * 20 + 14

abbrev pub decreases-branch::branch : goal.decreases-branch::branch
decreases-branch::branch l = l.room * 20 + 12

abbrev pub decreases-iteration::for_rest : goal.decreases-iteration::for_rest
decreases-iteration::for_rest l = l.room * 20 + 12

abbrev pub decreases-iteration::while_statement : goal.decreases-iteration::while_statement
decreases-iteration::while_statement l = l.room * 20 + 8

abbrev pub decreases-iteration::do_while_statement : goal.decreases-iteration::do_while_statement
decreases-iteration::do_while_statement l = l.room * 20 + 8

abbrev pub decreases-iteration::for_statement : goal.decreases-iteration::for_statement
decreases-iteration::for_statement l = l.room * 20 + 8

abbrev pub decreases-iteration::for_without_var : goal.decreases-iteration::for_without_var
decreases-iteration::for_without_var l = l.room * 20 + 7

abbrev pub decreases-iteration::for_with_variables : goal.decreases-iteration::for_with_variables
decreases-iteration::for_with_variables l = l.room * 20 + 6

abbrev pub decreases-iteration::for_var_in : goal.decreases-iteration::for_var_in
decreases-iteration::for_var_in l = l.room * 20 + 6

abbrev pub decreases-iteration::for_in : goal.decreases-iteration::for_in
decreases-iteration::for_in l = l.room * 20 + 6

abbrev pub decreases-iteration::for_with_expression : goal.decreases-iteration::for_with_expression
decreases-iteration::for_with_expression l = l.room * 20 + 6

abbrev pub decreases-iteration::for_without_first : goal.decreases-iteration::for_without_first
decreases-iteration::for_without_first l = l.room * 20 + 6

abbrev pub decreases-branch::switch_statement : goal.decreases-branch::switch_statement
decreases-branch::switch_statement l = l.room * 20 + 8

abbrev pub decreases-branch::try_statement : goal.decreases-branch::try_statement
decreases-branch::try_statement l = l.room * 20 + 8

abbrev pub decreases-branch::try_with_catch : goal.decreases-branch::try_with_catch
decreases-branch::try_with_catch l = l.room * 20 + 7

abbrev pub decreases-branch::catch_clause : goal.decreases-branch::catch_clause
decreases-branch::catch_clause l = l.room * 20 + 8

abbrev pub invariant-lists::statements-loop-alloc : goal.invariant-lists::statements-loop-alloc
invariant-lists::statements-loop-alloc l = Gathered l.toks l.room l.at l.nodes l.list.items l.place × Keeps l.fn.nodes l.nodes × (l.at ≤ l.place) × AreBelow (length l.nodes) l.list.items × StmtsMade l.functions l.fn.nodes l.nodes l.at l.list.items l.place

abbrev pub decreases-lists::statements-loop-alloc : goal.decreases-lists::statements-loop-alloc
decreases-lists::statements-loop-alloc l = length l.toks - l.place

abbrev pub invariant-branch::case_clauses-loop-alloc : goal.invariant-branch::case_clauses-loop-alloc
invariant-branch::case_clauses-loop-alloc l = GatheredArms l.toks l.room l.at l.nodes l.list.items l.place × Keeps l.fn.nodes l.nodes × (l.at ≤ l.place) × ClausesBelow (length l.nodes) l.list.items × ClausesMade l.functions l.fn.nodes l.nodes l.at l.list.items l.place

abbrev pub decreases-branch::case_clauses-loop-alloc : goal.decreases-branch::case_clauses-loop-alloc
decreases-branch::case_clauses-loop-alloc l = length l.toks - l.place

abbrev pub invariant-branch::if_statement-loop-nodes : goal.invariant-branch::if_statement-loop-nodes
invariant-branch::if_statement-loop-nodes l = Linked l.toks l.room l.at l.nodes l.heads.items l.place × Keeps l.fn.nodes l.nodes × (l.at ≤ l.place) × BranchesBelow (length l.nodes) l.heads.items × HeadsMade l.functions l.fn.nodes l.nodes l.at l.heads.items l.place

abbrev pub decreases-branch::if_statement-loop-nodes : goal.decreases-branch::if_statement-loop-nodes
decreases-branch::if_statement-loop-nodes l = length l.toks - l.place
