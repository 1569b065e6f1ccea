mod Expressions
mod Statements
mod Stores
mod Members
mod Targets
mod Choices
mod Prefixes
mod Variables
mod Bodies
mod Calls
mod Loops
mod Objects
mod Arrays
mod News
mod Within
mod Tries
mod Switches
mod Labels
mod DoLoops
mod Operands
mod ForIns
use Rattle.wjs_direct.proofs.+direct.Answers.Expressions as expressions
use Rattle.wjs_direct.proofs.+direct.Answers.Statements as statements
use Rattle.wjs_direct.proofs.+direct.Answers.Stores as stores
use Rattle.wjs_direct.proofs.+direct.Answers.Members as members
use Rattle.wjs_direct.proofs.+direct.Answers.Targets as targets
use Rattle.wjs_direct.proofs.+direct.Answers.Choices as choices
use Rattle.wjs_direct.proofs.+direct.Answers.Prefixes as prefixes
use Rattle.wjs_direct.proofs.+direct.Answers.Variables as variables
use Rattle.wjs_direct.proofs.+direct.Answers.Bodies as bodies
use Rattle.wjs_direct.proofs.+direct.Answers.Calls as calls
use Rattle.wjs_direct.proofs.+direct.Answers.Loops as loops
use Rattle.wjs_direct.proofs.+direct.Answers.Objects as objects
use Rattle.wjs_direct.proofs.+direct.Answers.Arrays as arrays
use Rattle.wjs_direct.proofs.+direct.Answers.News as news
use Rattle.wjs_direct.proofs.+direct.Answers.Within as within
use Rattle.wjs_direct.proofs.+direct.Answers.Tries as tries
use Rattle.wjs_direct.proofs.+direct.Answers.Switches as switches
use Rattle.wjs_direct.proofs.+direct.Answers.Labels as labels
use Rattle.wjs_direct.proofs.+direct.Answers.DoLoops as do_loops
use Rattle.wjs_direct.proofs.+direct.Answers.Operands as operands
use Rattle.wjs_direct.proofs.+direct.Answers.ForIns as for_ins
use Rattle.wjs_direct.proofs.+direct.Goals as goal

-- ---- `expressions`

pub expressions::value-returns-in-Some-clause-does : goal.expressions::value-returns-in-Some-clause-does
expressions::value-returns-in-Some-clause-does = expressions.value-returns-in-Some-clause-does

pub expressions::value-returns-then-not-may_evaluate-clause-later : goal.expressions::value-returns-then-not-may_evaluate-clause-later
expressions::value-returns-then-not-may_evaluate-clause-later = expressions.value-returns-then-not-may_evaluate-clause-later

pub expressions::value-returns-then-not-may_evaluate-clause-does : goal.expressions::value-returns-then-not-may_evaluate-clause-does
expressions::value-returns-then-not-may_evaluate-clause-does = expressions.value-returns-then-not-may_evaluate-clause-does

pub expressions::value-form-requires : goal.expressions::value-form-requires
expressions::value-form-requires = expressions.value-form-requires

pub expressions::value-returns-clause-later : goal.expressions::value-returns-clause-later
expressions::value-returns-clause-later = expressions.value-returns-clause-later

pub expressions::value-returns-clause-does : goal.expressions::value-returns-clause-does
expressions::value-returns-clause-does = expressions.value-returns-clause-does

pub expressions::form-value-requires : goal.expressions::form-value-requires
expressions::form-value-requires = expressions.form-value-requires

pub expressions::form-returns-in-Some-Paren-clause-does : goal.expressions::form-returns-in-Some-Paren-clause-does
expressions::form-returns-in-Some-Paren-clause-does = expressions.form-returns-in-Some-Paren-clause-does

pub expressions::form-returns-in-Some-Binary-clause-does : goal.expressions::form-returns-in-Some-Binary-clause-does
expressions::form-returns-in-Some-Binary-clause-does = expressions.form-returns-in-Some-Binary-clause-does

pub expressions::form-call-requires : goal.expressions::form-call-requires
expressions::form-call-requires = expressions.form-call-requires

pub expressions::form-function-requires : goal.expressions::form-function-requires
expressions::form-function-requires = expressions.form-function-requires

pub expressions::form-returns-in_default-clause-later : goal.expressions::form-returns-in_default-clause-later
expressions::form-returns-in_default-clause-later = expressions.form-returns-in_default-clause-later

pub expressions::form-returns-in_default-clause-found : goal.expressions::form-returns-in_default-clause-found
expressions::form-returns-in_default-clause-found = expressions.form-returns-in_default-clause-found

pub expressions::form-returns-in_default-clause-does : goal.expressions::form-returns-in_default-clause-does
expressions::form-returns-in_default-clause-does = expressions.form-returns-in_default-clause-does

pub expressions::binary-value-requires : goal.expressions::binary-value-requires
expressions::binary-value-requires = expressions.binary-value-requires

pub expressions::and_right-returns-then-to_boolean-clause-does : goal.expressions::and_right-returns-then-to_boolean-clause-does
expressions::and_right-returns-then-to_boolean-clause-does = expressions.and_right-returns-then-to_boolean-clause-does

pub expressions::and_right-returns-else-to_boolean-clause-does : goal.expressions::and_right-returns-else-to_boolean-clause-does
expressions::and_right-returns-else-to_boolean-clause-does = expressions.and_right-returns-else-to_boolean-clause-does

pub expressions::or_right-returns-then-to_boolean-clause-does : goal.expressions::or_right-returns-then-to_boolean-clause-does
expressions::or_right-returns-then-to_boolean-clause-does = expressions.or_right-returns-then-to_boolean-clause-does

pub expressions::or_right-returns-else-to_boolean-clause-does : goal.expressions::or_right-returns-else-to_boolean-clause-does
expressions::or_right-returns-else-to_boolean-clause-does = expressions.or_right-returns-else-to_boolean-clause-does

pub expressions::both-operation-requires : goal.expressions::both-operation-requires
expressions::both-operation-requires = expressions.both-operation-requires

pub expressions::both-returns-in-Ok-clause-later : goal.expressions::both-returns-in-Ok-clause-later
expressions::both-returns-in-Ok-clause-later = expressions.both-returns-in-Ok-clause-later

pub expressions::both-returns-in-Ok-clause-does : goal.expressions::both-returns-in-Ok-clause-does
expressions::both-returns-in-Ok-clause-does = expressions.both-returns-in-Ok-clause-does

pub expressions::binary-returns-in-Err-clause-later : goal.expressions::binary-returns-in-Err-clause-later
expressions::binary-returns-in-Err-clause-later = expressions.binary-returns-in-Err-clause-later

pub expressions::binary-returns-in-Err-clause-found : goal.expressions::binary-returns-in-Err-clause-found
expressions::binary-returns-in-Err-clause-found = expressions.binary-returns-in-Err-clause-found

pub expressions::binary-returns-in-Err-clause-does : goal.expressions::binary-returns-in-Err-clause-does
expressions::binary-returns-in-Err-clause-does = expressions.binary-returns-in-Err-clause-does

pub expressions::both-returns-in-Err-clause-later : goal.expressions::both-returns-in-Err-clause-later
expressions::both-returns-in-Err-clause-later = expressions.both-returns-in-Err-clause-later

pub expressions::both-returns-in-Err-clause-found : goal.expressions::both-returns-in-Err-clause-found
expressions::both-returns-in-Err-clause-found = expressions.both-returns-in-Err-clause-found

pub expressions::both-returns-in-Err-clause-does : goal.expressions::both-returns-in-Err-clause-does
expressions::both-returns-in-Err-clause-does = expressions.both-returns-in-Err-clause-does

pub expressions::form-returns-in-Some-Dot-clause-does : goal.expressions::form-returns-in-Some-Dot-clause-does
expressions::form-returns-in-Some-Dot-clause-does = expressions.form-returns-in-Some-Dot-clause-does

pub expressions::form-returns-in-Some-At-clause-does : goal.expressions::form-returns-in-Some-At-clause-does
expressions::form-returns-in-Some-At-clause-does = expressions.form-returns-in-Some-At-clause-does

pub expressions::form-returns-in-Some-Cond-clause-does : goal.expressions::form-returns-in-Some-Cond-clause-does
expressions::form-returns-in-Some-Cond-clause-does = expressions.form-returns-in-Some-Cond-clause-does

pub expressions::form-returns-in-Some-Comma-clause-does : goal.expressions::form-returns-in-Some-Comma-clause-does
expressions::form-returns-in-Some-Comma-clause-does = expressions.form-returns-in-Some-Comma-clause-does

pub expressions::form-update-requires : goal.expressions::form-update-requires
expressions::form-update-requires = expressions.form-update-requires

pub expressions::form-returns-in-Some-Postfix-clause-does : goal.expressions::form-returns-in-Some-Postfix-clause-does
expressions::form-returns-in-Some-Postfix-clause-does = expressions.form-returns-in-Some-Postfix-clause-does

pub expressions::form-returns-in-Some-Assign-clause-does : goal.expressions::form-returns-in-Some-Assign-clause-does
expressions::form-returns-in-Some-Assign-clause-does = expressions.form-returns-in-Some-Assign-clause-does

pub expressions::form-object-requires : goal.expressions::form-object-requires
expressions::form-object-requires = expressions.form-object-requires

pub expressions::form-array-requires : goal.expressions::form-array-requires
expressions::form-array-requires = expressions.form-array-requires

pub expressions::form-new_object-requires : goal.expressions::form-new_object-requires
expressions::form-new_object-requires = expressions.form-new_object-requires

pub expressions::form-new_object-requires-in-Some-NewBare : goal.expressions::form-new_object-requires-in-Some-NewBare
expressions::form-new_object-requires-in-Some-NewBare = expressions.form-new_object-requires-in-Some-NewBare

pub expressions::form-returns-in-Some-NewWith-clause-does : goal.expressions::form-returns-in-Some-NewWith-clause-does
expressions::form-returns-in-Some-NewWith-clause-does = expressions.form-returns-in-Some-NewWith-clause-does

pub expressions::form-returns-in-Some-NewBare-clause-does : goal.expressions::form-returns-in-Some-NewBare-clause-does
expressions::form-returns-in-Some-NewBare-clause-does = expressions.form-returns-in-Some-NewBare-clause-does

pub expressions::value-read-requires : goal.expressions::value-read-requires
expressions::value-read-requires = expressions.value-read-requires

-- ---- `statements`

pub statements::statement-returns-in-Some-clause-does : goal.statements::statement-returns-in-Some-clause-does
statements::statement-returns-in-Some-clause-does = statements.statement-returns-in-Some-clause-does

pub statements::statement-returns-in-Some-clause-later : goal.statements::statement-returns-in-Some-clause-later
statements::statement-returns-in-Some-clause-later = statements.statement-returns-in-Some-clause-later

pub statements::statement-returns-in-Some-clause-found : goal.statements::statement-returns-in-Some-clause-found
statements::statement-returns-in-Some-clause-found = statements.statement-returns-in-Some-clause-found

pub statements::statement-by_form-requires : goal.statements::statement-by_form-requires
statements::statement-by_form-requires = statements.statement-by_form-requires

pub statements::statement-returns-clause-later : goal.statements::statement-returns-clause-later
statements::statement-returns-clause-later = statements.statement-returns-clause-later

pub statements::statement-returns-clause-does : goal.statements::statement-returns-clause-does
statements::statement-returns-clause-does = statements.statement-returns-clause-does

pub statements::by_form-returns-then-not-may_evaluate-clause-later : goal.statements::by_form-returns-then-not-may_evaluate-clause-later
statements::by_form-returns-then-not-may_evaluate-clause-later = statements.by_form-returns-then-not-may_evaluate-clause-later

pub statements::by_form-returns-then-not-may_evaluate-clause-found : goal.statements::by_form-returns-then-not-may_evaluate-clause-found
statements::by_form-returns-then-not-may_evaluate-clause-found = statements.by_form-returns-then-not-may_evaluate-clause-found

pub statements::by_form-returns-then-not-may_evaluate-clause-does : goal.statements::by_form-returns-then-not-may_evaluate-clause-does
statements::by_form-returns-then-not-may_evaluate-clause-does = statements.by_form-returns-then-not-may_evaluate-clause-does

pub statements::by_form-statement_form-requires : goal.statements::by_form-statement_form-requires
statements::by_form-statement_form-requires = statements.by_form-statement_form-requires

pub statements::by_form-returns-clause-later : goal.statements::by_form-returns-clause-later
statements::by_form-returns-clause-later = statements.by_form-returns-clause-later

pub statements::by_form-returns-clause-does : goal.statements::by_form-returns-clause-does
statements::by_form-returns-clause-does = statements.by_form-returns-clause-does

pub statements::statement_form-expression-requires : goal.statements::statement_form-expression-requires
statements::statement_form-expression-requires = statements.statement_form-expression-requires

pub statements::statement_form-returns-in-Some-Expr-clause-does : goal.statements::statement_form-returns-in-Some-Expr-clause-does
statements::statement_form-returns-in-Some-Expr-clause-does = statements.statement_form-returns-in-Some-Expr-clause-does

pub statements::statement_form-returns-in-Some-If-clause-does : goal.statements::statement_form-returns-in-Some-If-clause-does
statements::statement_form-returns-in-Some-If-clause-does = statements.statement_form-returns-in-Some-If-clause-does

pub statements::statement_form-result_of-requires : goal.statements::statement_form-result_of-requires
statements::statement_form-result_of-requires = statements.statement_form-result_of-requires

pub statements::statement_form-returns-in-Some-Return-Some-default-clause-does : goal.statements::statement_form-returns-in-Some-Return-Some-default-clause-does
statements::statement_form-returns-in-Some-Return-Some-default-clause-does = statements.statement_form-returns-in-Some-Return-Some-default-clause-does

pub statements::statement_form-returns-in-Some-Block-clause-does : goal.statements::statement_form-returns-in-Some-Block-clause-does
statements::statement_form-returns-in-Some-Block-clause-does = statements.statement_form-returns-in-Some-Block-clause-does

pub statements::statement_form-returns-in_default-clause-later : goal.statements::statement_form-returns-in_default-clause-later
statements::statement_form-returns-in_default-clause-later = statements.statement_form-returns-in_default-clause-later

pub statements::statement_form-returns-in_default-clause-found : goal.statements::statement_form-returns-in_default-clause-found
statements::statement_form-returns-in_default-clause-found = statements.statement_form-returns-in_default-clause-found

pub statements::statement_form-returns-in_default-clause-does : goal.statements::statement_form-returns-in_default-clause-does
statements::statement_form-returns-in_default-clause-does = statements.statement_form-returns-in_default-clause-does

pub statements::condition-value-requires : goal.statements::condition-value-requires
statements::condition-value-requires = statements.condition-value-requires

pub statements::condition-to_boolean-requires : goal.statements::condition-to_boolean-requires
statements::condition-to_boolean-requires = statements.condition-to_boolean-requires

pub statements::condition-statement-requires : goal.statements::condition-statement-requires
statements::condition-statement-requires = statements.condition-statement-requires

pub statements::condition-returns-then-to_boolean-clause-later : goal.statements::condition-returns-then-to_boolean-clause-later
statements::condition-returns-then-to_boolean-clause-later = statements.condition-returns-then-to_boolean-clause-later

pub statements::condition-returns-then-to_boolean-clause-does : goal.statements::condition-returns-then-to_boolean-clause-does
statements::condition-returns-then-to_boolean-clause-does = statements.condition-returns-then-to_boolean-clause-does

pub statements::condition-statement-requires-in-Some : goal.statements::condition-statement-requires-in-Some
statements::condition-statement-requires-in-Some = statements.condition-statement-requires-in-Some

pub statements::condition-returns-in-Some-clause-later : goal.statements::condition-returns-in-Some-clause-later
statements::condition-returns-in-Some-clause-later = statements.condition-returns-in-Some-clause-later

pub statements::condition-returns-in-Some-clause-does : goal.statements::condition-returns-in-Some-clause-does
statements::condition-returns-in-Some-clause-does = statements.condition-returns-in-Some-clause-does

pub statements::condition-returns-in-None-clause-later : goal.statements::condition-returns-in-None-clause-later
statements::condition-returns-in-None-clause-later = statements.condition-returns-in-None-clause-later

pub statements::condition-returns-in-None-clause-found : goal.statements::condition-returns-in-None-clause-found
statements::condition-returns-in-None-clause-found = statements.condition-returns-in-None-clause-found

pub statements::condition-returns-in-None-clause-does : goal.statements::condition-returns-in-None-clause-does
statements::condition-returns-in-None-clause-does = statements.condition-returns-in-None-clause-does

pub statements::run_block-loop-part-init : goal.statements::run_block-loop-part-init
statements::run_block-loop-part-init = statements.run_block-loop-part-init

pub statements::run_block-statement-requires : goal.statements::run_block-statement-requires
statements::run_block-statement-requires = statements.run_block-statement-requires

pub statements::run_block-loop-part-preserved : goal.statements::run_block-loop-part-preserved
statements::run_block-loop-part-preserved = statements.run_block-loop-part-preserved

pub statements::run_block-returns-in_default-end-clause-later : goal.statements::run_block-returns-in_default-end-clause-later
statements::run_block-returns-in_default-end-clause-later = statements.run_block-returns-in_default-end-clause-later

pub statements::run_block-returns-in_default-end-clause-does : goal.statements::run_block-returns-in_default-end-clause-does
statements::run_block-returns-in_default-end-clause-does = statements.run_block-returns-in_default-end-clause-does

pub statements::run_block-returns-in-Err-clause-later : goal.statements::run_block-returns-in-Err-clause-later
statements::run_block-returns-in-Err-clause-later = statements.run_block-returns-in-Err-clause-later

pub statements::run_block-returns-in-Err-clause-found : goal.statements::run_block-returns-in-Err-clause-found
statements::run_block-returns-in-Err-clause-found = statements.run_block-returns-in-Err-clause-found

pub statements::run_block-returns-in-Err-clause-does : goal.statements::run_block-returns-in-Err-clause-does
statements::run_block-returns-in-Err-clause-does = statements.run_block-returns-in-Err-clause-does

pub statements::run_block-returns-clause-does : goal.statements::run_block-returns-clause-does
statements::run_block-returns-clause-does = statements.run_block-returns-clause-does

pub statements::condition-returns-in-Err-clause-later : goal.statements::condition-returns-in-Err-clause-later
statements::condition-returns-in-Err-clause-later = statements.condition-returns-in-Err-clause-later

pub statements::condition-returns-in-Err-clause-found : goal.statements::condition-returns-in-Err-clause-found
statements::condition-returns-in-Err-clause-found = statements.condition-returns-in-Err-clause-found

pub statements::condition-returns-in-Err-clause-does : goal.statements::condition-returns-in-Err-clause-does
statements::condition-returns-in-Err-clause-does = statements.condition-returns-in-Err-clause-does

pub statements::expression-returns-in-Ok-clause-does : goal.statements::expression-returns-in-Ok-clause-does
statements::expression-returns-in-Ok-clause-does = statements.expression-returns-in-Ok-clause-does

pub statements::expression-returns-in-Ok-clause-found : goal.statements::expression-returns-in-Ok-clause-found
statements::expression-returns-in-Ok-clause-found = statements.expression-returns-in-Ok-clause-found

pub statements::expression-returns-in-Err-clause-later : goal.statements::expression-returns-in-Err-clause-later
statements::expression-returns-in-Err-clause-later = statements.expression-returns-in-Err-clause-later

pub statements::expression-returns-in-Err-clause-found : goal.statements::expression-returns-in-Err-clause-found
statements::expression-returns-in-Err-clause-found = statements.expression-returns-in-Err-clause-found

pub statements::expression-returns-in-Err-clause-does : goal.statements::expression-returns-in-Err-clause-does
statements::expression-returns-in-Err-clause-does = statements.expression-returns-in-Err-clause-does

pub statements::result_of-returns-in-Ok-clause-does : goal.statements::result_of-returns-in-Ok-clause-does
statements::result_of-returns-in-Ok-clause-does = statements.result_of-returns-in-Ok-clause-does

pub statements::result_of-returns-in-Ok-clause-found : goal.statements::result_of-returns-in-Ok-clause-found
statements::result_of-returns-in-Ok-clause-found = statements.result_of-returns-in-Ok-clause-found

pub statements::result_of-returns-in-Err-clause-later : goal.statements::result_of-returns-in-Err-clause-later
statements::result_of-returns-in-Err-clause-later = statements.result_of-returns-in-Err-clause-later

pub statements::result_of-returns-in-Err-clause-found : goal.statements::result_of-returns-in-Err-clause-found
statements::result_of-returns-in-Err-clause-found = statements.result_of-returns-in-Err-clause-found

pub statements::result_of-returns-in-Err-clause-does : goal.statements::result_of-returns-in-Err-clause-does
statements::result_of-returns-in-Err-clause-does = statements.result_of-returns-in-Err-clause-does

pub statements::statement_form-returns-in-Some-Var-clause-does : goal.statements::statement_form-returns-in-Some-Var-clause-does
statements::statement_form-returns-in-Some-Var-clause-does = statements.statement_form-returns-in-Some-Var-clause-does

pub statements::statement_form-for_variables-requires : goal.statements::statement_form-for_variables-requires
statements::statement_form-for_variables-requires = statements.statement_form-for_variables-requires

pub statements::statement_form-returns-in-Some-For-Var-default-default-default-clause-does : goal.statements::statement_form-returns-in-Some-For-Var-default-default-default-clause-does
statements::statement_form-returns-in-Some-For-Var-default-default-default-clause-does = statements.statement_form-returns-in-Some-For-Var-default-default-default-clause-does

pub statements::statement_form-run_loop-requires : goal.statements::statement_form-run_loop-requires
statements::statement_form-run_loop-requires = statements.statement_form-run_loop-requires

pub statements::statement_form-returns-in-Some-While-clause-does : goal.statements::statement_form-returns-in-Some-While-clause-does
statements::statement_form-returns-in-Some-While-clause-does = statements.statement_form-returns-in-Some-While-clause-does

pub statements::statement_form-run_loop-requires-in-Some-For-Nothing-default-default-default : goal.statements::statement_form-run_loop-requires-in-Some-For-Nothing-default-default-default
statements::statement_form-run_loop-requires-in-Some-For-Nothing-default-default-default = statements.statement_form-run_loop-requires-in-Some-For-Nothing-default-default-default

pub statements::statement_form-returns-in-Some-For-Nothing-default-default-default-clause-does : goal.statements::statement_form-returns-in-Some-For-Nothing-default-default-default-clause-does
statements::statement_form-returns-in-Some-For-Nothing-default-default-default-clause-does = statements.statement_form-returns-in-Some-For-Nothing-default-default-default-clause-does

pub statements::statement_form-for_expression-requires : goal.statements::statement_form-for_expression-requires
statements::statement_form-for_expression-requires = statements.statement_form-for_expression-requires

pub statements::statement_form-returns-in-Some-For-Expr-default-default-default-clause-does : goal.statements::statement_form-returns-in-Some-For-Expr-default-default-default-clause-does
statements::statement_form-returns-in-Some-For-Expr-default-default-default-clause-does = statements.statement_form-returns-in-Some-For-Expr-default-default-default-clause-does

pub statements::statement_form-returns-in-Some-Within-clause-does : goal.statements::statement_form-returns-in-Some-Within-clause-does
statements::statement_form-returns-in-Some-Within-clause-does = statements.statement_form-returns-in-Some-Within-clause-does

pub statements::statement_form-throw_of-requires : goal.statements::statement_form-throw_of-requires
statements::statement_form-throw_of-requires = statements.statement_form-throw_of-requires

pub statements::statement_form-returns-in-Some-Throw-clause-does : goal.statements::statement_form-returns-in-Some-Throw-clause-does
statements::statement_form-returns-in-Some-Throw-clause-does = statements.statement_form-returns-in-Some-Throw-clause-does

pub statements::statement_form-attempt-requires : goal.statements::statement_form-attempt-requires
statements::statement_form-attempt-requires = statements.statement_form-attempt-requires

pub statements::statement_form-returns-in-Some-Try-clause-does : goal.statements::statement_form-returns-in-Some-Try-clause-does
statements::statement_form-returns-in-Some-Try-clause-does = statements.statement_form-returns-in-Some-Try-clause-does

pub statements::statement_form-switch-requires : goal.statements::statement_form-switch-requires
statements::statement_form-switch-requires = statements.statement_form-switch-requires

pub statements::statement_form-returns-in-Some-Switch-clause-does : goal.statements::statement_form-returns-in-Some-Switch-clause-does
statements::statement_form-returns-in-Some-Switch-clause-does = statements.statement_form-returns-in-Some-Switch-clause-does

-- ---- `stores`

pub stores::effect-returns-in-Some-clause-does : goal.stores::effect-returns-in-Some-clause-does
stores::effect-returns-in-Some-clause-does = stores.effect-returns-in-Some-clause-does

pub stores::effect-returns-in-Some-clause-later : goal.stores::effect-returns-in-Some-clause-later
stores::effect-returns-in-Some-clause-later = stores.effect-returns-in-Some-clause-later

pub stores::effect-returns-in-Some-clause-found : goal.stores::effect-returns-in-Some-clause-found
stores::effect-returns-in-Some-clause-found = stores.effect-returns-in-Some-clause-found

pub stores::assign-target-requires : goal.stores::assign-target-requires
stores::assign-target-requires = stores.assign-target-requires

pub stores::assign-returns-in-Err-clause-later : goal.stores::assign-returns-in-Err-clause-later
stores::assign-returns-in-Err-clause-later = stores.assign-returns-in-Err-clause-later

pub stores::assign-returns-in-Err-clause-found : goal.stores::assign-returns-in-Err-clause-found
stores::assign-returns-in-Err-clause-found = stores.assign-returns-in-Err-clause-found

pub stores::assign-returns-in-Err-clause-does : goal.stores::assign-returns-in-Err-clause-does
stores::assign-returns-in-Err-clause-does = stores.assign-returns-in-Err-clause-does

pub stores::assigned-stored-requires : goal.stores::assigned-stored-requires
stores::assigned-stored-requires = stores.assigned-stored-requires

pub stores::assigned-returns-in-Ok-clause-later : goal.stores::assigned-returns-in-Ok-clause-later
stores::assigned-returns-in-Ok-clause-later = stores.assigned-returns-in-Ok-clause-later

pub stores::assigned-returns-in-Ok-clause-does : goal.stores::assigned-returns-in-Ok-clause-does
stores::assigned-returns-in-Ok-clause-does = stores.assigned-returns-in-Ok-clause-does

pub stores::assigned-returns-in-Err-clause-later : goal.stores::assigned-returns-in-Err-clause-later
stores::assigned-returns-in-Err-clause-later = stores.assigned-returns-in-Err-clause-later

pub stores::assigned-returns-in-Err-clause-found : goal.stores::assigned-returns-in-Err-clause-found
stores::assigned-returns-in-Err-clause-found = stores.assigned-returns-in-Err-clause-found

pub stores::assigned-returns-in-Err-clause-does : goal.stores::assigned-returns-in-Err-clause-does
stores::assigned-returns-in-Err-clause-does = stores.assigned-returns-in-Err-clause-does

pub stores::compound_right-compound_stored-requires : goal.stores::compound_right-compound_stored-requires
stores::compound_right-compound_stored-requires = stores.compound_right-compound_stored-requires

pub stores::compound_right-returns-in-Ok-clause-later : goal.stores::compound_right-returns-in-Ok-clause-later
stores::compound_right-returns-in-Ok-clause-later = stores.compound_right-returns-in-Ok-clause-later

pub stores::compound_right-returns-in-Ok-clause-does : goal.stores::compound_right-returns-in-Ok-clause-does
stores::compound_right-returns-in-Ok-clause-does = stores.compound_right-returns-in-Ok-clause-does

pub stores::compound_right-returns-in-Err-clause-later : goal.stores::compound_right-returns-in-Err-clause-later
stores::compound_right-returns-in-Err-clause-later = stores.compound_right-returns-in-Err-clause-later

pub stores::compound_right-returns-in-Err-clause-found : goal.stores::compound_right-returns-in-Err-clause-found
stores::compound_right-returns-in-Err-clause-found = stores.compound_right-returns-in-Err-clause-found

pub stores::compound_right-returns-in-Err-clause-does : goal.stores::compound_right-returns-in-Err-clause-does
stores::compound_right-returns-in-Err-clause-does = stores.compound_right-returns-in-Err-clause-does

pub stores::compounded-compound_right-requires : goal.stores::compounded-compound_right-requires
stores::compounded-compound_right-requires = stores.compounded-compound_right-requires

pub stores::compounded-returns-in-Ok-clause-later : goal.stores::compounded-returns-in-Ok-clause-later
stores::compounded-returns-in-Ok-clause-later = stores.compounded-returns-in-Ok-clause-later

pub stores::compounded-returns-in-Ok-clause-does : goal.stores::compounded-returns-in-Ok-clause-does
stores::compounded-returns-in-Ok-clause-does = stores.compounded-returns-in-Ok-clause-does

pub stores::compounded-returns-in-Err-clause-later : goal.stores::compounded-returns-in-Err-clause-later
stores::compounded-returns-in-Err-clause-later = stores.compounded-returns-in-Err-clause-later

pub stores::compounded-returns-in-Err-clause-found : goal.stores::compounded-returns-in-Err-clause-found
stores::compounded-returns-in-Err-clause-found = stores.compounded-returns-in-Err-clause-found

pub stores::compounded-returns-in-Err-clause-does : goal.stores::compounded-returns-in-Err-clause-does
stores::compounded-returns-in-Err-clause-does = stores.compounded-returns-in-Err-clause-does

pub stores::update-target_updated-requires : goal.stores::update-target_updated-requires
stores::update-target_updated-requires = stores.update-target_updated-requires

pub stores::update-returns-in-Ok-clause-later : goal.stores::update-returns-in-Ok-clause-later
stores::update-returns-in-Ok-clause-later = stores.update-returns-in-Ok-clause-later

pub stores::update-returns-in-Ok-clause-does : goal.stores::update-returns-in-Ok-clause-does
stores::update-returns-in-Ok-clause-does = stores.update-returns-in-Ok-clause-does

pub stores::update-returns-in-Err-clause-later : goal.stores::update-returns-in-Err-clause-later
stores::update-returns-in-Err-clause-later = stores.update-returns-in-Err-clause-later

pub stores::update-returns-in-Err-clause-found : goal.stores::update-returns-in-Err-clause-found
stores::update-returns-in-Err-clause-found = stores.update-returns-in-Err-clause-found

pub stores::update-returns-in-Err-clause-does : goal.stores::update-returns-in-Err-clause-does
stores::update-returns-in-Err-clause-does = stores.update-returns-in-Err-clause-does

-- ---- `members`

pub members::dot-value-requires : goal.members::dot-value-requires
members::dot-value-requires = members.dot-value-requires

pub members::dot-member_by_name-requires : goal.members::dot-member_by_name-requires
members::dot-member_by_name-requires = members.dot-member_by_name-requires

pub members::dot-returns-in-Ok-clause-later : goal.members::dot-returns-in-Ok-clause-later
members::dot-returns-in-Ok-clause-later = members.dot-returns-in-Ok-clause-later

pub members::dot-returns-in-Ok-clause-does : goal.members::dot-returns-in-Ok-clause-does
members::dot-returns-in-Ok-clause-does = members.dot-returns-in-Ok-clause-does

pub members::dot-returns-in-Err-clause-later : goal.members::dot-returns-in-Err-clause-later
members::dot-returns-in-Err-clause-later = members.dot-returns-in-Err-clause-later

pub members::dot-returns-in-Err-clause-found : goal.members::dot-returns-in-Err-clause-found
members::dot-returns-in-Err-clause-found = members.dot-returns-in-Err-clause-found

pub members::dot-returns-in-Err-clause-does : goal.members::dot-returns-in-Err-clause-does
members::dot-returns-in-Err-clause-does = members.dot-returns-in-Err-clause-does

pub members::at-value-requires : goal.members::at-value-requires
members::at-value-requires = members.at-value-requires

pub members::at-index_of_base-requires : goal.members::at-index_of_base-requires
members::at-index_of_base-requires = members.at-index_of_base-requires

pub members::at-returns-in-Ok-clause-later : goal.members::at-returns-in-Ok-clause-later
members::at-returns-in-Ok-clause-later = members.at-returns-in-Ok-clause-later

pub members::at-returns-in-Ok-clause-does : goal.members::at-returns-in-Ok-clause-does
members::at-returns-in-Ok-clause-does = members.at-returns-in-Ok-clause-does

pub members::at-returns-in-Err-clause-later : goal.members::at-returns-in-Err-clause-later
members::at-returns-in-Err-clause-later = members.at-returns-in-Err-clause-later

pub members::at-returns-in-Err-clause-found : goal.members::at-returns-in-Err-clause-found
members::at-returns-in-Err-clause-found = members.at-returns-in-Err-clause-found

pub members::at-returns-in-Err-clause-does : goal.members::at-returns-in-Err-clause-does
members::at-returns-in-Err-clause-does = members.at-returns-in-Err-clause-does

pub members::index_of_base-value-requires : goal.members::index_of_base-value-requires
members::index_of_base-value-requires = members.index_of_base-value-requires

pub members::index_of_base-member_by_value-requires : goal.members::index_of_base-member_by_value-requires
members::index_of_base-member_by_value-requires = members.index_of_base-member_by_value-requires

pub members::index_of_base-returns-in-Ok-clause-later : goal.members::index_of_base-returns-in-Ok-clause-later
members::index_of_base-returns-in-Ok-clause-later = members.index_of_base-returns-in-Ok-clause-later

pub members::index_of_base-returns-in-Ok-clause-does : goal.members::index_of_base-returns-in-Ok-clause-does
members::index_of_base-returns-in-Ok-clause-does = members.index_of_base-returns-in-Ok-clause-does

pub members::index_of_base-returns-in-Err-clause-later : goal.members::index_of_base-returns-in-Err-clause-later
members::index_of_base-returns-in-Err-clause-later = members.index_of_base-returns-in-Err-clause-later

pub members::index_of_base-returns-in-Err-clause-found : goal.members::index_of_base-returns-in-Err-clause-found
members::index_of_base-returns-in-Err-clause-found = members.index_of_base-returns-in-Err-clause-found

pub members::index_of_base-returns-in-Err-clause-does : goal.members::index_of_base-returns-in-Err-clause-does
members::index_of_base-returns-in-Err-clause-does = members.index_of_base-returns-in-Err-clause-does

-- ---- `targets`

pub targets::target-returns-in-Some-clause-does : goal.targets::target-returns-in-Some-clause-does
targets::target-returns-in-Some-clause-does = targets.target-returns-in-Some-clause-does

pub targets::target-returns-then-not-may_refer-clause-later : goal.targets::target-returns-then-not-may_refer-clause-later
targets::target-returns-then-not-may_refer-clause-later = targets.target-returns-then-not-may_refer-clause-later

pub targets::target-returns-then-not-may_refer-clause-found : goal.targets::target-returns-then-not-may_refer-clause-found
targets::target-returns-then-not-may_refer-clause-found = targets.target-returns-then-not-may_refer-clause-found

pub targets::target-returns-then-not-may_refer-clause-does : goal.targets::target-returns-then-not-may_refer-clause-does
targets::target-returns-then-not-may_refer-clause-does = targets.target-returns-then-not-may_refer-clause-does

pub targets::target-member-requires : goal.targets::target-member-requires
targets::target-member-requires = targets.target-member-requires

pub targets::target-returns-clause-later : goal.targets::target-returns-clause-later
targets::target-returns-clause-later = targets.target-returns-clause-later

pub targets::target-returns-clause-does : goal.targets::target-returns-clause-does
targets::target-returns-clause-does = targets.target-returns-clause-does

pub targets::member-returns-in-Some-Dot-clause-does : goal.targets::member-returns-in-Some-Dot-clause-does
targets::member-returns-in-Some-Dot-clause-does = targets.member-returns-in-Some-Dot-clause-does

pub targets::member-returns-in-Some-At-clause-does : goal.targets::member-returns-in-Some-At-clause-does
targets::member-returns-in-Some-At-clause-does = targets.member-returns-in-Some-At-clause-does

pub targets::member-returns-in_default-clause-later : goal.targets::member-returns-in_default-clause-later
targets::member-returns-in_default-clause-later = targets.member-returns-in_default-clause-later

pub targets::member-returns-in_default-clause-found : goal.targets::member-returns-in_default-clause-found
targets::member-returns-in_default-clause-found = targets.member-returns-in_default-clause-found

pub targets::member-returns-in_default-clause-does : goal.targets::member-returns-in_default-clause-does
targets::member-returns-in_default-clause-does = targets.member-returns-in_default-clause-does

pub targets::dot-value-requires : goal.targets::dot-value-requires
targets::dot-value-requires = targets.dot-value-requires

pub targets::dot-referred_by_name-requires : goal.targets::dot-referred_by_name-requires
targets::dot-referred_by_name-requires = targets.dot-referred_by_name-requires

pub targets::dot-returns-in-Ok-clause-later : goal.targets::dot-returns-in-Ok-clause-later
targets::dot-returns-in-Ok-clause-later = targets.dot-returns-in-Ok-clause-later

pub targets::dot-returns-in-Ok-clause-does : goal.targets::dot-returns-in-Ok-clause-does
targets::dot-returns-in-Ok-clause-does = targets.dot-returns-in-Ok-clause-does

pub targets::dot-returns-in-Err-clause-later : goal.targets::dot-returns-in-Err-clause-later
targets::dot-returns-in-Err-clause-later = targets.dot-returns-in-Err-clause-later

pub targets::dot-returns-in-Err-clause-found : goal.targets::dot-returns-in-Err-clause-found
targets::dot-returns-in-Err-clause-found = targets.dot-returns-in-Err-clause-found

pub targets::dot-returns-in-Err-clause-does : goal.targets::dot-returns-in-Err-clause-does
targets::dot-returns-in-Err-clause-does = targets.dot-returns-in-Err-clause-does

pub targets::at-value-requires : goal.targets::at-value-requires
targets::at-value-requires = targets.at-value-requires

pub targets::at-index_of_base-requires : goal.targets::at-index_of_base-requires
targets::at-index_of_base-requires = targets.at-index_of_base-requires

pub targets::at-returns-in-Ok-clause-later : goal.targets::at-returns-in-Ok-clause-later
targets::at-returns-in-Ok-clause-later = targets.at-returns-in-Ok-clause-later

pub targets::at-returns-in-Ok-clause-does : goal.targets::at-returns-in-Ok-clause-does
targets::at-returns-in-Ok-clause-does = targets.at-returns-in-Ok-clause-does

pub targets::at-returns-in-Err-clause-later : goal.targets::at-returns-in-Err-clause-later
targets::at-returns-in-Err-clause-later = targets.at-returns-in-Err-clause-later

pub targets::at-returns-in-Err-clause-found : goal.targets::at-returns-in-Err-clause-found
targets::at-returns-in-Err-clause-found = targets.at-returns-in-Err-clause-found

pub targets::at-returns-in-Err-clause-does : goal.targets::at-returns-in-Err-clause-does
targets::at-returns-in-Err-clause-does = targets.at-returns-in-Err-clause-does

pub targets::index_of_base-value-requires : goal.targets::index_of_base-value-requires
targets::index_of_base-value-requires = targets.index_of_base-value-requires

pub targets::index_of_base-referred_by_value-requires : goal.targets::index_of_base-referred_by_value-requires
targets::index_of_base-referred_by_value-requires = targets.index_of_base-referred_by_value-requires

pub targets::index_of_base-returns-in-Ok-clause-later : goal.targets::index_of_base-returns-in-Ok-clause-later
targets::index_of_base-returns-in-Ok-clause-later = targets.index_of_base-returns-in-Ok-clause-later

pub targets::index_of_base-returns-in-Ok-clause-does : goal.targets::index_of_base-returns-in-Ok-clause-does
targets::index_of_base-returns-in-Ok-clause-does = targets.index_of_base-returns-in-Ok-clause-does

pub targets::index_of_base-returns-in-Err-clause-later : goal.targets::index_of_base-returns-in-Err-clause-later
targets::index_of_base-returns-in-Err-clause-later = targets.index_of_base-returns-in-Err-clause-later

pub targets::index_of_base-returns-in-Err-clause-found : goal.targets::index_of_base-returns-in-Err-clause-found
targets::index_of_base-returns-in-Err-clause-found = targets.index_of_base-returns-in-Err-clause-found

pub targets::index_of_base-returns-in-Err-clause-does : goal.targets::index_of_base-returns-in-Err-clause-does
targets::index_of_base-returns-in-Err-clause-does = targets.index_of_base-returns-in-Err-clause-does

-- ---- `choices`

pub choices::choice-value-requires : goal.choices::choice-value-requires
choices::choice-value-requires = choices.choice-value-requires

pub choices::choice-picked-next-requires : goal.choices::choice-picked-next-requires
choices::choice-picked-next-requires = choices.choice-picked-next-requires

pub choices::choice-value-requires-in-Ok : goal.choices::choice-value-requires-in-Ok
choices::choice-value-requires-in-Ok = choices.choice-value-requires-in-Ok

pub choices::choice-returns-in-Ok-clause-later : goal.choices::choice-returns-in-Ok-clause-later
choices::choice-returns-in-Ok-clause-later = choices.choice-returns-in-Ok-clause-later

pub choices::choice-returns-in-Ok-clause-does : goal.choices::choice-returns-in-Ok-clause-does
choices::choice-returns-in-Ok-clause-does = choices.choice-returns-in-Ok-clause-does

pub choices::choice-returns-in-Err-clause-later : goal.choices::choice-returns-in-Err-clause-later
choices::choice-returns-in-Err-clause-later = choices.choice-returns-in-Err-clause-later

pub choices::choice-returns-in-Err-clause-found : goal.choices::choice-returns-in-Err-clause-found
choices::choice-returns-in-Err-clause-found = choices.choice-returns-in-Err-clause-found

pub choices::choice-returns-in-Err-clause-does : goal.choices::choice-returns-in-Err-clause-does
choices::choice-returns-in-Err-clause-does = choices.choice-returns-in-Err-clause-does

pub choices::comma-value-requires : goal.choices::comma-value-requires
choices::comma-value-requires = choices.comma-value-requires

pub choices::comma-value-requires-in-Ok : goal.choices::comma-value-requires-in-Ok
choices::comma-value-requires-in-Ok = choices.comma-value-requires-in-Ok

pub choices::comma-returns-in-Ok-clause-later : goal.choices::comma-returns-in-Ok-clause-later
choices::comma-returns-in-Ok-clause-later = choices.comma-returns-in-Ok-clause-later

pub choices::comma-returns-in-Ok-clause-does : goal.choices::comma-returns-in-Ok-clause-does
choices::comma-returns-in-Ok-clause-does = choices.comma-returns-in-Ok-clause-does

pub choices::comma-returns-in-Err-clause-later : goal.choices::comma-returns-in-Err-clause-later
choices::comma-returns-in-Err-clause-later = choices.comma-returns-in-Err-clause-later

pub choices::comma-returns-in-Err-clause-found : goal.choices::comma-returns-in-Err-clause-found
choices::comma-returns-in-Err-clause-found = choices.comma-returns-in-Err-clause-found

pub choices::comma-returns-in-Err-clause-does : goal.choices::comma-returns-in-Err-clause-does
choices::comma-returns-in-Err-clause-does = choices.comma-returns-in-Err-clause-does

-- ---- `prefixes`

pub prefixes::prefix-operand-requires : goal.prefixes::prefix-operand-requires
prefixes::prefix-operand-requires = prefixes.prefix-operand-requires

pub prefixes::prefix-returns-then-is_of_value-clause-does : goal.prefixes::prefix-returns-then-is_of_value-clause-does
prefixes::prefix-returns-then-is_of_value-clause-does = prefixes.prefix-returns-then-is_of_value-clause-does

pub prefixes::on_target-returns-in_default-clause-later : goal.prefixes::on_target-returns-in_default-clause-later
prefixes::on_target-returns-in_default-clause-later = prefixes.on_target-returns-in_default-clause-later

pub prefixes::on_target-returns-in_default-clause-found : goal.prefixes::on_target-returns-in_default-clause-found
prefixes::on_target-returns-in_default-clause-found = prefixes.on_target-returns-in_default-clause-found

pub prefixes::on_target-returns-in_default-clause-does : goal.prefixes::on_target-returns-in_default-clause-does
prefixes::on_target-returns-in_default-clause-does = prefixes.on_target-returns-in_default-clause-does

pub prefixes::operand-value-requires : goal.prefixes::operand-value-requires
prefixes::operand-value-requires = prefixes.operand-value-requires

pub prefixes::operand-after_operand-requires : goal.prefixes::operand-after_operand-requires
prefixes::operand-after_operand-requires = prefixes.operand-after_operand-requires

pub prefixes::operand-returns-in-Ok-clause-later : goal.prefixes::operand-returns-in-Ok-clause-later
prefixes::operand-returns-in-Ok-clause-later = prefixes.operand-returns-in-Ok-clause-later

pub prefixes::operand-returns-in-Ok-clause-does : goal.prefixes::operand-returns-in-Ok-clause-does
prefixes::operand-returns-in-Ok-clause-does = prefixes.operand-returns-in-Ok-clause-does

pub prefixes::operand-returns-in-Err-clause-later : goal.prefixes::operand-returns-in-Err-clause-later
prefixes::operand-returns-in-Err-clause-later = prefixes.operand-returns-in-Err-clause-later

pub prefixes::operand-returns-in-Err-clause-found : goal.prefixes::operand-returns-in-Err-clause-found
prefixes::operand-returns-in-Err-clause-found = prefixes.operand-returns-in-Err-clause-found

pub prefixes::operand-returns-in-Err-clause-does : goal.prefixes::operand-returns-in-Err-clause-does
prefixes::operand-returns-in-Err-clause-does = prefixes.operand-returns-in-Err-clause-does

pub prefixes::on_target-update-requires : goal.prefixes::on_target-update-requires
prefixes::on_target-update-requires = prefixes.on_target-update-requires

pub prefixes::on_target-update-requires-in-Decrement : goal.prefixes::on_target-update-requires-in-Decrement
prefixes::on_target-update-requires-in-Decrement = prefixes.on_target-update-requires-in-Decrement

pub prefixes::on_target-returns-in-Increment-clause-does : goal.prefixes::on_target-returns-in-Increment-clause-does
prefixes::on_target-returns-in-Increment-clause-does = prefixes.on_target-returns-in-Increment-clause-does

pub prefixes::on_target-returns-in-Decrement-clause-does : goal.prefixes::on_target-returns-in-Decrement-clause-does
prefixes::on_target-returns-in-Decrement-clause-does = prefixes.on_target-returns-in-Decrement-clause-does

-- ---- `variables`

pub variables::run_variables-loop-variable-init : goal.variables::run_variables-loop-variable-init
variables::run_variables-loop-variable-init = variables.run_variables-loop-variable-init

pub variables::run_variables-variable_at-requires : goal.variables::run_variables-variable_at-requires
variables::run_variables-variable_at-requires = variables.run_variables-variable_at-requires

pub variables::run_variables-declared-requires : goal.variables::run_variables-declared-requires
variables::run_variables-declared-requires = variables.run_variables-declared-requires

pub variables::run_variables-loop-variable-preserved : goal.variables::run_variables-loop-variable-preserved
variables::run_variables-loop-variable-preserved = variables.run_variables-loop-variable-preserved

pub variables::run_variables-returns-in_default-end-clause-later : goal.variables::run_variables-returns-in_default-end-clause-later
variables::run_variables-returns-in_default-end-clause-later = variables.run_variables-returns-in_default-end-clause-later

pub variables::run_variables-returns-in_default-end-clause-does : goal.variables::run_variables-returns-in_default-end-clause-does
variables::run_variables-returns-in_default-end-clause-does = variables.run_variables-returns-in_default-end-clause-does

pub variables::run_variables-returns-in-Err-clause-later : goal.variables::run_variables-returns-in-Err-clause-later
variables::run_variables-returns-in-Err-clause-later = variables.run_variables-returns-in-Err-clause-later

pub variables::run_variables-returns-in-Err-clause-does : goal.variables::run_variables-returns-in-Err-clause-does
variables::run_variables-returns-in-Err-clause-does = variables.run_variables-returns-in-Err-clause-does

pub variables::run_variables-returns-clause-does : goal.variables::run_variables-returns-clause-does
variables::run_variables-returns-clause-does = variables.run_variables-returns-clause-does

pub variables::declared-value-requires : goal.variables::declared-value-requires
variables::declared-value-requires = variables.declared-value-requires

pub variables::declared-variable_stored-requires : goal.variables::declared-variable_stored-requires
variables::declared-variable_stored-requires = variables.declared-variable_stored-requires

pub variables::declared-returns-in-Ok-clause-later : goal.variables::declared-returns-in-Ok-clause-later
variables::declared-returns-in-Ok-clause-later = variables.declared-returns-in-Ok-clause-later

pub variables::declared-returns-in-Ok-clause-does : goal.variables::declared-returns-in-Ok-clause-does
variables::declared-returns-in-Ok-clause-does = variables.declared-returns-in-Ok-clause-does

pub variables::declared-returns-in-Err-clause-later : goal.variables::declared-returns-in-Err-clause-later
variables::declared-returns-in-Err-clause-later = variables.declared-returns-in-Err-clause-later

pub variables::declared-returns-in-Err-clause-found : goal.variables::declared-returns-in-Err-clause-found
variables::declared-returns-in-Err-clause-found = variables.declared-returns-in-Err-clause-found

pub variables::declared-returns-in-Err-clause-does : goal.variables::declared-returns-in-Err-clause-does
variables::declared-returns-in-Err-clause-does = variables.declared-returns-in-Err-clause-does

pub variables::declared-returns-in-None-clause-does : goal.variables::declared-returns-in-None-clause-does
variables::declared-returns-in-None-clause-does = variables.declared-returns-in-None-clause-does

pub variables::for_variables-run_loop-requires : goal.variables::for_variables-run_loop-requires
variables::for_variables-run_loop-requires = variables.for_variables-run_loop-requires

pub variables::for_variables-returns-in-Normal-clause-later : goal.variables::for_variables-returns-in-Normal-clause-later
variables::for_variables-returns-in-Normal-clause-later = variables.for_variables-returns-in-Normal-clause-later

pub variables::for_variables-returns-in-Normal-clause-does : goal.variables::for_variables-returns-in-Normal-clause-does
variables::for_variables-returns-in-Normal-clause-does = variables.for_variables-returns-in-Normal-clause-does

pub variables::for_variables-returns-in_default-clause-later : goal.variables::for_variables-returns-in_default-clause-later
variables::for_variables-returns-in_default-clause-later = variables.for_variables-returns-in_default-clause-later

pub variables::for_variables-returns-in_default-clause-found : goal.variables::for_variables-returns-in_default-clause-found
variables::for_variables-returns-in_default-clause-found = variables.for_variables-returns-in_default-clause-found

pub variables::for_variables-returns-in_default-clause-does : goal.variables::for_variables-returns-in_default-clause-does
variables::for_variables-returns-in_default-clause-does = variables.for_variables-returns-in_default-clause-does

pub variables::for_variables-returns-in-Err-clause-later : goal.variables::for_variables-returns-in-Err-clause-later
variables::for_variables-returns-in-Err-clause-later = variables.for_variables-returns-in-Err-clause-later

pub variables::for_variables-returns-in-Err-clause-found : goal.variables::for_variables-returns-in-Err-clause-found
variables::for_variables-returns-in-Err-clause-found = variables.for_variables-returns-in-Err-clause-found

pub variables::for_variables-returns-in-Err-clause-does : goal.variables::for_variables-returns-in-Err-clause-does
variables::for_variables-returns-in-Err-clause-does = variables.for_variables-returns-in-Err-clause-does

-- ---- `bodies`

pub bodies::run_body-loop-element-init : goal.bodies::run_body-loop-element-init
bodies::run_body-loop-element-init = bodies.run_body-loop-element-init

pub bodies::run_body-statement-requires : goal.bodies::run_body-statement-requires
bodies::run_body-statement-requires = bodies.run_body-statement-requires

pub bodies::run_body-loop-element-preserved : goal.bodies::run_body-loop-element-preserved
bodies::run_body-loop-element-preserved = bodies.run_body-loop-element-preserved

pub bodies::run_body-body_ended-requires : goal.bodies::run_body-body_ended-requires
bodies::run_body-body_ended-requires = bodies.run_body-body_ended-requires

pub bodies::run_body-returns-in-Ok-clause-later : goal.bodies::run_body-returns-in-Ok-clause-later
bodies::run_body-returns-in-Ok-clause-later = bodies.run_body-returns-in-Ok-clause-later

pub bodies::run_body-returns-in-Ok-clause-does : goal.bodies::run_body-returns-in-Ok-clause-does
bodies::run_body-returns-in-Ok-clause-does = bodies.run_body-returns-in-Ok-clause-does

pub bodies::run_body-returns-in-Err-clause-later : goal.bodies::run_body-returns-in-Err-clause-later
bodies::run_body-returns-in-Err-clause-later = bodies.run_body-returns-in-Err-clause-later

pub bodies::run_body-returns-in-Err-clause-found : goal.bodies::run_body-returns-in-Err-clause-found
bodies::run_body-returns-in-Err-clause-found = bodies.run_body-returns-in-Err-clause-found

pub bodies::run_body-returns-in-Err-clause-does : goal.bodies::run_body-returns-in-Err-clause-does
bodies::run_body-returns-in-Err-clause-does = bodies.run_body-returns-in-Err-clause-does

pub bodies::run_body-returns-clause-does : goal.bodies::run_body-returns-clause-does
bodies::run_body-returns-clause-does = bodies.run_body-returns-clause-does

pub bodies::body_called-returns-in-Some-clause-does : goal.bodies::body_called-returns-in-Some-clause-does
bodies::body_called-returns-in-Some-clause-does = bodies.body_called-returns-in-Some-clause-does

pub bodies::body_called-returns-in-None-clause-later : goal.bodies::body_called-returns-in-None-clause-later
bodies::body_called-returns-in-None-clause-later = bodies.body_called-returns-in-None-clause-later

pub bodies::body_called-returns-in-None-clause-found : goal.bodies::body_called-returns-in-None-clause-found
bodies::body_called-returns-in-None-clause-found = bodies.body_called-returns-in-None-clause-found

pub bodies::body_called-returns-in-None-clause-does : goal.bodies::body_called-returns-in-None-clause-does
bodies::body_called-returns-in-None-clause-does = bodies.body_called-returns-in-None-clause-does

pub bodies::body_inside-enter_scope-requires-clause-base : goal.bodies::body_inside-enter_scope-requires-clause-base
bodies::body_inside-enter_scope-requires-clause-base = bodies.body_inside-enter_scope-requires-clause-base

pub bodies::body_inside-enter_scope-requires-clause-there : goal.bodies::body_inside-enter_scope-requires-clause-there
bodies::body_inside-enter_scope-requires-clause-there = bodies.body_inside-enter_scope-requires-clause-there

pub bodies::body_inside-returns-clause-later : goal.bodies::body_inside-returns-clause-later
bodies::body_inside-returns-clause-later = bodies.body_inside-returns-clause-later

pub bodies::body_inside-returns-clause-found : goal.bodies::body_inside-returns-clause-found
bodies::body_inside-returns-clause-found = bodies.body_inside-returns-clause-found

pub bodies::body_inside-returns-clause-does : goal.bodies::body_inside-returns-clause-does
bodies::body_inside-returns-clause-does = bodies.body_inside-returns-clause-does

pub bodies::body_called-body_inside-requires : goal.bodies::body_called-body_inside-requires
bodies::body_called-body_inside-requires = bodies.body_called-body_inside-requires

-- ---- `calls`

pub calls::call-target_called-requires : goal.calls::call-target_called-requires
calls::call-target_called-requires = calls.call-target_called-requires

pub calls::call-returns-then-is_target-clause-does : goal.calls::call-returns-then-is_target-clause-does
calls::call-returns-then-is_target-clause-does = calls.call-returns-then-is_target-clause-does

pub calls::call-value_called-requires : goal.calls::call-value_called-requires
calls::call-value_called-requires = calls.call-value_called-requires

pub calls::call-returns-else-is_target-clause-does : goal.calls::call-returns-else-is_target-clause-does
calls::call-returns-else-is_target-clause-does = calls.call-returns-else-is_target-clause-does

pub calls::target_called-returns-in-Err-clause-found : goal.calls::target_called-returns-in-Err-clause-found
calls::target_called-returns-in-Err-clause-found = calls.target_called-returns-in-Err-clause-found

pub calls::target_called-returns-in-Err-clause-does : goal.calls::target_called-returns-in-Err-clause-does
calls::target_called-returns-in-Err-clause-does = calls.target_called-returns-in-Err-clause-does

pub calls::callee_read-evaluate_arguments-requires : goal.calls::callee_read-evaluate_arguments-requires
calls::callee_read-evaluate_arguments-requires = calls.callee_read-evaluate_arguments-requires

pub calls::callee_read-returns-in-Ok-clause-later : goal.calls::callee_read-returns-in-Ok-clause-later
calls::callee_read-returns-in-Ok-clause-later = calls.callee_read-returns-in-Ok-clause-later

pub calls::callee_read-returns-in-Ok-clause-does : goal.calls::callee_read-returns-in-Ok-clause-does
calls::callee_read-returns-in-Ok-clause-does = calls.callee_read-returns-in-Ok-clause-does

pub calls::callee_read-returns-in-Err-clause-later : goal.calls::callee_read-returns-in-Err-clause-later
calls::callee_read-returns-in-Err-clause-later = calls.callee_read-returns-in-Err-clause-later

pub calls::callee_read-returns-in-Err-clause-found : goal.calls::callee_read-returns-in-Err-clause-found
calls::callee_read-returns-in-Err-clause-found = calls.callee_read-returns-in-Err-clause-found

pub calls::callee_read-returns-in-Err-clause-does : goal.calls::callee_read-returns-in-Err-clause-does
calls::callee_read-returns-in-Err-clause-does = calls.callee_read-returns-in-Err-clause-does

pub calls::value_called-callee_given-requires : goal.calls::value_called-callee_given-requires
calls::value_called-callee_given-requires = calls.value_called-callee_given-requires

pub calls::value_called-returns-in-Ok-clause-later : goal.calls::value_called-returns-in-Ok-clause-later
calls::value_called-returns-in-Ok-clause-later = calls.value_called-returns-in-Ok-clause-later

pub calls::value_called-returns-in-Ok-clause-does : goal.calls::value_called-returns-in-Ok-clause-does
calls::value_called-returns-in-Ok-clause-does = calls.value_called-returns-in-Ok-clause-does

pub calls::value_called-returns-in-Err-clause-found : goal.calls::value_called-returns-in-Err-clause-found
calls::value_called-returns-in-Err-clause-found = calls.value_called-returns-in-Err-clause-found

pub calls::value_called-returns-in-Err-clause-does : goal.calls::value_called-returns-in-Err-clause-does
calls::value_called-returns-in-Err-clause-does = calls.value_called-returns-in-Err-clause-does

pub calls::callee_given-evaluate_arguments-requires : goal.calls::callee_given-evaluate_arguments-requires
calls::callee_given-evaluate_arguments-requires = calls.callee_given-evaluate_arguments-requires

pub calls::callee_given-returns-in-Ok-clause-later : goal.calls::callee_given-returns-in-Ok-clause-later
calls::callee_given-returns-in-Ok-clause-later = calls.callee_given-returns-in-Ok-clause-later

pub calls::callee_given-returns-in-Ok-clause-does : goal.calls::callee_given-returns-in-Ok-clause-does
calls::callee_given-returns-in-Ok-clause-does = calls.callee_given-returns-in-Ok-clause-does

pub calls::callee_given-returns-in-Err-clause-later : goal.calls::callee_given-returns-in-Err-clause-later
calls::callee_given-returns-in-Err-clause-later = calls.callee_given-returns-in-Err-clause-later

pub calls::callee_given-returns-in-Err-clause-found : goal.calls::callee_given-returns-in-Err-clause-found
calls::callee_given-returns-in-Err-clause-found = calls.callee_given-returns-in-Err-clause-found

pub calls::callee_given-returns-in-Err-clause-does : goal.calls::callee_given-returns-in-Err-clause-does
calls::callee_given-returns-in-Err-clause-does = calls.callee_given-returns-in-Err-clause-does

pub calls::evaluate_arguments-loop-next-init : goal.calls::evaluate_arguments-loop-next-init
calls::evaluate_arguments-loop-next-init = calls.evaluate_arguments-loop-next-init

pub calls::evaluate_arguments-value-requires : goal.calls::evaluate_arguments-value-requires
calls::evaluate_arguments-value-requires = calls.evaluate_arguments-value-requires

pub calls::evaluate_arguments-returns-in-Err-clause-later : goal.calls::evaluate_arguments-returns-in-Err-clause-later
calls::evaluate_arguments-returns-in-Err-clause-later = calls.evaluate_arguments-returns-in-Err-clause-later

pub calls::evaluate_arguments-returns-in-Err-clause-found : goal.calls::evaluate_arguments-returns-in-Err-clause-found
calls::evaluate_arguments-returns-in-Err-clause-found = calls.evaluate_arguments-returns-in-Err-clause-found

pub calls::evaluate_arguments-returns-in-Err-clause-does : goal.calls::evaluate_arguments-returns-in-Err-clause-does
calls::evaluate_arguments-returns-in-Err-clause-does = calls.evaluate_arguments-returns-in-Err-clause-does

pub calls::evaluate_arguments-loop-next-preserved : goal.calls::evaluate_arguments-loop-next-preserved
calls::evaluate_arguments-loop-next-preserved = calls.evaluate_arguments-loop-next-preserved

pub calls::evaluate_arguments-called-requires : goal.calls::evaluate_arguments-called-requires
calls::evaluate_arguments-called-requires = calls.evaluate_arguments-called-requires

pub calls::evaluate_arguments-returns-clause-later : goal.calls::evaluate_arguments-returns-clause-later
calls::evaluate_arguments-returns-clause-later = calls.evaluate_arguments-returns-clause-later

pub calls::evaluate_arguments-returns-clause-does : goal.calls::evaluate_arguments-returns-clause-does
calls::evaluate_arguments-returns-clause-does = calls.evaluate_arguments-returns-clause-does

pub calls::called-returns-in-Script-clause-does : goal.calls::called-returns-in-Script-clause-does
calls::called-returns-in-Script-clause-does = calls.called-returns-in-Script-clause-does

pub calls::called-returns-in-Native-clause-does : goal.calls::called-returns-in-Native-clause-does
calls::called-returns-in-Native-clause-does = calls.called-returns-in-Native-clause-does

pub calls::called-returns-in-None : goal.calls::called-returns-in-None
calls::called-returns-in-None = calls.called-returns-in-None

pub calls::script_called-returns-in-Object-clause-does : goal.calls::script_called-returns-in-Object-clause-does
calls::script_called-returns-in-Object-clause-does = calls.script_called-returns-in-Object-clause-does

pub calls::script_called-returns-in_default : goal.calls::script_called-returns-in_default
calls::script_called-returns-in_default = calls.script_called-returns-in_default

pub calls::body_entered-returns-then-not-may_enter-clause-found : goal.calls::body_entered-returns-then-not-may_enter-clause-found
calls::body_entered-returns-then-not-may_enter-clause-found = calls.body_entered-returns-then-not-may_enter-clause-found

pub calls::body_entered-returns-then-not-may_enter-clause-does : goal.calls::body_entered-returns-then-not-may_enter-clause-does
calls::body_entered-returns-then-not-may_enter-clause-does = calls.body_entered-returns-then-not-may_enter-clause-does

pub calls::body_entered-body_called-requires : goal.calls::body_entered-body_called-requires
calls::body_entered-body_called-requires = calls.body_entered-body_called-requires

pub calls::body_entered-returns-clause-later : goal.calls::body_entered-returns-clause-later
calls::body_entered-returns-clause-later = calls.body_entered-returns-clause-later

pub calls::body_entered-returns-clause-does : goal.calls::body_entered-returns-clause-does
calls::body_entered-returns-clause-does = calls.body_entered-returns-clause-does

-- ---- `loops`

pub loops::for_expression-run_loop-requires : goal.loops::for_expression-run_loop-requires
loops::for_expression-run_loop-requires = loops.for_expression-run_loop-requires

pub loops::for_expression-returns-in-Gives-clause-later : goal.loops::for_expression-returns-in-Gives-clause-later
loops::for_expression-returns-in-Gives-clause-later = loops.for_expression-returns-in-Gives-clause-later

pub loops::for_expression-returns-in-Gives-clause-does : goal.loops::for_expression-returns-in-Gives-clause-does
loops::for_expression-returns-in-Gives-clause-does = loops.for_expression-returns-in-Gives-clause-does

pub loops::for_expression-returns-in_default-clause-later : goal.loops::for_expression-returns-in_default-clause-later
loops::for_expression-returns-in_default-clause-later = loops.for_expression-returns-in_default-clause-later

pub loops::for_expression-returns-in_default-clause-found : goal.loops::for_expression-returns-in_default-clause-found
loops::for_expression-returns-in_default-clause-found = loops.for_expression-returns-in_default-clause-found

pub loops::for_expression-returns-in_default-clause-does : goal.loops::for_expression-returns-in_default-clause-does
loops::for_expression-returns-in_default-clause-does = loops.for_expression-returns-in_default-clause-does

pub loops::for_expression-returns-in-Err-clause-later : goal.loops::for_expression-returns-in-Err-clause-later
loops::for_expression-returns-in-Err-clause-later = loops.for_expression-returns-in-Err-clause-later

pub loops::for_expression-returns-in-Err-clause-found : goal.loops::for_expression-returns-in-Err-clause-found
loops::for_expression-returns-in-Err-clause-found = loops.for_expression-returns-in-Err-clause-found

pub loops::for_expression-returns-in-Err-clause-does : goal.loops::for_expression-returns-in-Err-clause-does
loops::for_expression-returns-in-Err-clause-does = loops.for_expression-returns-in-Err-clause-does

pub loops::run_loop-iterations-requires : goal.loops::run_loop-iterations-requires
loops::run_loop-iterations-requires = loops.run_loop-iterations-requires

pub loops::run_loop-returns-in-Some-clause-later : goal.loops::run_loop-returns-in-Some-clause-later
loops::run_loop-returns-in-Some-clause-later = loops.run_loop-returns-in-Some-clause-later

pub loops::run_loop-returns-in-Some-clause-found : goal.loops::run_loop-returns-in-Some-clause-found
loops::run_loop-returns-in-Some-clause-found = loops.run_loop-returns-in-Some-clause-found

pub loops::run_loop-returns-in-Some-clause-does : goal.loops::run_loop-returns-in-Some-clause-does
loops::run_loop-returns-in-Some-clause-does = loops.run_loop-returns-in-Some-clause-does

pub loops::run_loop-returns-in-None-clause-later : goal.loops::run_loop-returns-in-None-clause-later
loops::run_loop-returns-in-None-clause-later = loops.run_loop-returns-in-None-clause-later

pub loops::run_loop-returns-in-None-clause-does : goal.loops::run_loop-returns-in-None-clause-does
loops::run_loop-returns-in-None-clause-does = loops.run_loop-returns-in-None-clause-does

pub loops::run_loop-returns-in-Err-clause-later : goal.loops::run_loop-returns-in-Err-clause-later
loops::run_loop-returns-in-Err-clause-later = loops.run_loop-returns-in-Err-clause-later

pub loops::run_loop-returns-in-Err-clause-does : goal.loops::run_loop-returns-in-Err-clause-does
loops::run_loop-returns-in-Err-clause-does = loops.run_loop-returns-in-Err-clause-does

pub loops::first-value-requires : goal.loops::first-value-requires
loops::first-value-requires = loops.first-value-requires

pub loops::first-tested-requires : goal.loops::first-tested-requires
loops::first-tested-requires = loops.first-tested-requires

pub loops::first-returns-in-Ok-clause-later : goal.loops::first-returns-in-Ok-clause-later
loops::first-returns-in-Ok-clause-later = loops.first-returns-in-Ok-clause-later

pub loops::first-returns-in-Ok-clause-does : goal.loops::first-returns-in-Ok-clause-does
loops::first-returns-in-Ok-clause-does = loops.first-returns-in-Ok-clause-does

pub loops::first-returns-in-Err-clause-later : goal.loops::first-returns-in-Err-clause-later
loops::first-returns-in-Err-clause-later = loops.first-returns-in-Err-clause-later

pub loops::first-returns-in-Err-clause-found : goal.loops::first-returns-in-Err-clause-found
loops::first-returns-in-Err-clause-found = loops.first-returns-in-Err-clause-found

pub loops::first-returns-in-Err-clause-does : goal.loops::first-returns-in-Err-clause-does
loops::first-returns-in-Err-clause-does = loops.first-returns-in-Err-clause-does

pub loops::first-returns-in-None-clause-does : goal.loops::first-returns-in-None-clause-does
loops::first-returns-in-None-clause-does = loops.first-returns-in-None-clause-does

pub loops::iterations-loop-test-init : goal.loops::iterations-loop-test-init
loops::iterations-loop-test-init = loops.iterations-loop-test-init

pub loops::iterations-iteration-requires : goal.loops::iterations-iteration-requires
loops::iterations-iteration-requires = loops.iterations-iteration-requires

pub loops::iterations-loop-test-preserved : goal.loops::iterations-loop-test-preserved
loops::iterations-loop-test-preserved = loops.iterations-loop-test-preserved

pub loops::iterations-returns-in-Some-clause-later : goal.loops::iterations-returns-in-Some-clause-later
loops::iterations-returns-in-Some-clause-later = loops.iterations-returns-in-Some-clause-later

pub loops::iterations-returns-in-Some-clause-found : goal.loops::iterations-returns-in-Some-clause-found
loops::iterations-returns-in-Some-clause-found = loops.iterations-returns-in-Some-clause-found

pub loops::iterations-returns-in-Some-clause-does : goal.loops::iterations-returns-in-Some-clause-does
loops::iterations-returns-in-Some-clause-does = loops.iterations-returns-in-Some-clause-does

pub loops::iterations-returns-in-Err-clause-later : goal.loops::iterations-returns-in-Err-clause-later
loops::iterations-returns-in-Err-clause-later = loops.iterations-returns-in-Err-clause-later

pub loops::iterations-returns-in-Err-clause-does : goal.loops::iterations-returns-in-Err-clause-does
loops::iterations-returns-in-Err-clause-does = loops.iterations-returns-in-Err-clause-does

pub loops::iterations-returns-clause-later : goal.loops::iterations-returns-clause-later
loops::iterations-returns-clause-later = loops.iterations-returns-clause-later

pub loops::iterations-returns-clause-found : goal.loops::iterations-returns-clause-found
loops::iterations-returns-clause-found = loops.iterations-returns-clause-found

pub loops::iterations-returns-clause-does : goal.loops::iterations-returns-clause-does
loops::iterations-returns-clause-does = loops.iterations-returns-clause-does

pub loops::iteration-entered-requires : goal.loops::iteration-entered-requires
loops::iteration-entered-requires = loops.iteration-entered-requires

pub loops::iteration-tested-requires : goal.loops::iteration-tested-requires
loops::iteration-tested-requires = loops.iteration-tested-requires

pub loops::iteration-returns-in-Ok-clause-later : goal.loops::iteration-returns-in-Ok-clause-later
loops::iteration-returns-in-Ok-clause-later = loops.iteration-returns-in-Ok-clause-later

pub loops::iteration-returns-in-Ok-clause-does : goal.loops::iteration-returns-in-Ok-clause-does
loops::iteration-returns-in-Ok-clause-does = loops.iteration-returns-in-Ok-clause-does

pub loops::iteration-returns-in-Err-clause-later : goal.loops::iteration-returns-in-Err-clause-later
loops::iteration-returns-in-Err-clause-later = loops.iteration-returns-in-Err-clause-later

pub loops::iteration-returns-in-Err-clause-found : goal.loops::iteration-returns-in-Err-clause-found
loops::iteration-returns-in-Err-clause-found = loops.iteration-returns-in-Err-clause-found

pub loops::iteration-returns-in-Err-clause-does : goal.loops::iteration-returns-in-Err-clause-does
loops::iteration-returns-in-Err-clause-does = loops.iteration-returns-in-Err-clause-does

pub loops::iteration-returns-in-None-clause-does : goal.loops::iteration-returns-in-None-clause-does
loops::iteration-returns-in-None-clause-does = loops.iteration-returns-in-None-clause-does

pub loops::entered-returns-in-Some-clause-does : goal.loops::entered-returns-in-Some-clause-does
loops::entered-returns-in-Some-clause-does = loops.entered-returns-in-Some-clause-does

pub loops::entered-form-requires : goal.loops::entered-form-requires
loops::entered-form-requires = loops.entered-form-requires

pub loops::entered-returns-clause-later : goal.loops::entered-returns-clause-later
loops::entered-returns-clause-later = loops.entered-returns-clause-later

pub loops::entered-returns-clause-does : goal.loops::entered-returns-clause-does
loops::entered-returns-clause-does = loops.entered-returns-clause-does

pub loops::body_entered-body_ended-requires : goal.loops::body_entered-body_ended-requires
loops::body_entered-body_ended-requires = loops.body_entered-body_ended-requires

pub loops::body_entered-returns-in-Ok-clause-later : goal.loops::body_entered-returns-in-Ok-clause-later
loops::body_entered-returns-in-Ok-clause-later = loops.body_entered-returns-in-Ok-clause-later

pub loops::body_entered-returns-in-Ok-clause-does : goal.loops::body_entered-returns-in-Ok-clause-does
loops::body_entered-returns-in-Ok-clause-does = loops.body_entered-returns-in-Ok-clause-does

pub loops::body_entered-returns-in-Err-clause-later : goal.loops::body_entered-returns-in-Err-clause-later
loops::body_entered-returns-in-Err-clause-later = loops.body_entered-returns-in-Err-clause-later

pub loops::body_entered-returns-in-Err-clause-found : goal.loops::body_entered-returns-in-Err-clause-found
loops::body_entered-returns-in-Err-clause-found = loops.body_entered-returns-in-Err-clause-found

pub loops::body_entered-returns-in-Err-clause-does : goal.loops::body_entered-returns-in-Err-clause-does
loops::body_entered-returns-in-Err-clause-does = loops.body_entered-returns-in-Err-clause-does

pub loops::tested-returns-then-to_boolean-clause-does : goal.loops::tested-returns-then-to_boolean-clause-does
loops::tested-returns-then-to_boolean-clause-does = loops.tested-returns-then-to_boolean-clause-does

pub loops::tested-returns-else-to_boolean-clause-does : goal.loops::tested-returns-else-to_boolean-clause-does
loops::tested-returns-else-to_boolean-clause-does = loops.tested-returns-else-to_boolean-clause-does

pub loops::body_run-body_ended-requires : goal.loops::body_run-body_ended-requires
loops::body_run-body_ended-requires = loops.body_run-body_ended-requires

pub loops::body_run-returns-in-Ok-clause-later : goal.loops::body_run-returns-in-Ok-clause-later
loops::body_run-returns-in-Ok-clause-later = loops.body_run-returns-in-Ok-clause-later

pub loops::body_run-returns-in-Ok-clause-does : goal.loops::body_run-returns-in-Ok-clause-does
loops::body_run-returns-in-Ok-clause-does = loops.body_run-returns-in-Ok-clause-does

pub loops::body_run-returns-in-Err-clause-later : goal.loops::body_run-returns-in-Err-clause-later
loops::body_run-returns-in-Err-clause-later = loops.body_run-returns-in-Err-clause-later

pub loops::body_run-returns-in-Err-clause-found : goal.loops::body_run-returns-in-Err-clause-found
loops::body_run-returns-in-Err-clause-found = loops.body_run-returns-in-Err-clause-found

pub loops::body_run-returns-in-Err-clause-does : goal.loops::body_run-returns-in-Err-clause-does
loops::body_run-returns-in-Err-clause-does = loops.body_run-returns-in-Err-clause-does

pub loops::body_ended-update_run-requires : goal.loops::body_ended-update_run-requires
loops::body_ended-update_run-requires = loops.body_ended-update_run-requires

pub loops::body_ended-returns-in-Some-clause-does : goal.loops::body_ended-returns-in-Some-clause-does
loops::body_ended-returns-in-Some-clause-does = loops.body_ended-returns-in-Some-clause-does

pub loops::body_ended-returns-in-None-clause-later : goal.loops::body_ended-returns-in-None-clause-later
loops::body_ended-returns-in-None-clause-later = loops.body_ended-returns-in-None-clause-later

pub loops::body_ended-returns-in-None-clause-does : goal.loops::body_ended-returns-in-None-clause-does
loops::body_ended-returns-in-None-clause-does = loops.body_ended-returns-in-None-clause-does

pub loops::body_ended-returns-in-Ends-clause-found : goal.loops::body_ended-returns-in-Ends-clause-found
loops::body_ended-returns-in-Ends-clause-found = loops.body_ended-returns-in-Ends-clause-found

pub loops::body_ended-returns-in-Ends-clause-does : goal.loops::body_ended-returns-in-Ends-clause-does
loops::body_ended-returns-in-Ends-clause-does = loops.body_ended-returns-in-Ends-clause-does

pub loops::update_run-returns-in-Ok-clause-found : goal.loops::update_run-returns-in-Ok-clause-found
loops::update_run-returns-in-Ok-clause-found = loops.update_run-returns-in-Ok-clause-found

pub loops::update_run-returns-in-Ok-clause-does : goal.loops::update_run-returns-in-Ok-clause-does
loops::update_run-returns-in-Ok-clause-does = loops.update_run-returns-in-Ok-clause-does

pub loops::update_run-returns-in-Err-clause-later : goal.loops::update_run-returns-in-Err-clause-later
loops::update_run-returns-in-Err-clause-later = loops.update_run-returns-in-Err-clause-later

pub loops::update_run-returns-in-Err-clause-found : goal.loops::update_run-returns-in-Err-clause-found
loops::update_run-returns-in-Err-clause-found = loops.update_run-returns-in-Err-clause-found

pub loops::update_run-returns-in-Err-clause-does : goal.loops::update_run-returns-in-Err-clause-does
loops::update_run-returns-in-Err-clause-does = loops.update_run-returns-in-Err-clause-does

-- ---- `objects`

pub objects::object-run_properties-requires : goal.objects::object-run_properties-requires
objects::object-run_properties-requires = objects.object-run_properties-requires

pub objects::object-returns-clause-later : goal.objects::object-returns-clause-later
objects::object-returns-clause-later = objects.object-returns-clause-later

pub objects::object-returns-clause-does : goal.objects::object-returns-clause-does
objects::object-returns-clause-does = objects.object-returns-clause-does

pub objects::run_properties-loop-next-init : goal.objects::run_properties-loop-next-init
objects::run_properties-loop-next-init = objects.run_properties-loop-next-init

pub objects::run_properties-value-requires : goal.objects::run_properties-value-requires
objects::run_properties-value-requires = objects.run_properties-value-requires

pub objects::run_properties-write_property-requires : goal.objects::run_properties-write_property-requires
objects::run_properties-write_property-requires = objects.run_properties-write_property-requires

pub objects::run_properties-loop-next-preserved : goal.objects::run_properties-loop-next-preserved
objects::run_properties-loop-next-preserved = objects.run_properties-loop-next-preserved

pub objects::run_properties-returns-in-Err-clause-later : goal.objects::run_properties-returns-in-Err-clause-later
objects::run_properties-returns-in-Err-clause-later = objects.run_properties-returns-in-Err-clause-later

pub objects::run_properties-returns-in-Err-clause-found : goal.objects::run_properties-returns-in-Err-clause-found
objects::run_properties-returns-in-Err-clause-found = objects.run_properties-returns-in-Err-clause-found

pub objects::run_properties-returns-in-Err-clause-does : goal.objects::run_properties-returns-in-Err-clause-does
objects::run_properties-returns-in-Err-clause-does = objects.run_properties-returns-in-Err-clause-does

pub objects::run_properties-returns-clause-found : goal.objects::run_properties-returns-clause-found
objects::run_properties-returns-clause-found = objects.run_properties-returns-clause-found

pub objects::run_properties-returns-clause-does : goal.objects::run_properties-returns-clause-does
objects::run_properties-returns-clause-does = objects.run_properties-returns-clause-does

-- ---- `arrays`

pub arrays::array-run_items-requires : goal.arrays::array-run_items-requires
arrays::array-run_items-requires = arrays.array-run_items-requires

pub arrays::array-returns-clause-later : goal.arrays::array-returns-clause-later
arrays::array-returns-clause-later = arrays.array-returns-clause-later

pub arrays::array-returns-clause-does : goal.arrays::array-returns-clause-does
arrays::array-returns-clause-does = arrays.array-returns-clause-does

pub arrays::run_items-loop-turn-init : goal.arrays::run_items-loop-turn-init
arrays::run_items-loop-turn-init = arrays.run_items-loop-turn-init

pub arrays::run_items-value-requires : goal.arrays::run_items-value-requires
arrays::run_items-value-requires = arrays.run_items-value-requires

pub arrays::run_items-write-requires : goal.arrays::run_items-write-requires
arrays::run_items-write-requires = arrays.run_items-write-requires

pub arrays::run_items-loop-turn-preserved : goal.arrays::run_items-loop-turn-preserved
arrays::run_items-loop-turn-preserved = arrays.run_items-loop-turn-preserved

pub arrays::run_items-returns-in-Err-clause-later : goal.arrays::run_items-returns-in-Err-clause-later
arrays::run_items-returns-in-Err-clause-later = arrays.run_items-returns-in-Err-clause-later

pub arrays::run_items-returns-in-Err-clause-found : goal.arrays::run_items-returns-in-Err-clause-found
arrays::run_items-returns-in-Err-clause-found = arrays.run_items-returns-in-Err-clause-found

pub arrays::run_items-returns-in-Err-clause-does : goal.arrays::run_items-returns-in-Err-clause-does
arrays::run_items-returns-in-Err-clause-does = arrays.run_items-returns-in-Err-clause-does

pub arrays::run_items-last_item-requires : goal.arrays::run_items-last_item-requires
arrays::run_items-last_item-requires = arrays.run_items-last_item-requires

pub arrays::run_items-returns-in-Last-clause-later : goal.arrays::run_items-returns-in-Last-clause-later
arrays::run_items-returns-in-Last-clause-later = arrays.run_items-returns-in-Last-clause-later

pub arrays::run_items-returns-in-Last-clause-does : goal.arrays::run_items-returns-in-Last-clause-does
arrays::run_items-returns-in-Last-clause-does = arrays.run_items-returns-in-Last-clause-does

pub arrays::run_items-write_length-requires : goal.arrays::run_items-write_length-requires
arrays::run_items-write_length-requires = arrays.run_items-write_length-requires

pub arrays::run_items-returns-in-End-clause-later : goal.arrays::run_items-returns-in-End-clause-later
arrays::run_items-returns-in-End-clause-later = arrays.run_items-returns-in-End-clause-later

pub arrays::run_items-returns-in-End-clause-found : goal.arrays::run_items-returns-in-End-clause-found
arrays::run_items-returns-in-End-clause-found = arrays.run_items-returns-in-End-clause-found

pub arrays::run_items-returns-in-End-clause-does : goal.arrays::run_items-returns-in-End-clause-does
arrays::run_items-returns-in-End-clause-does = arrays.run_items-returns-in-End-clause-does

pub arrays::last_item-value-requires : goal.arrays::last_item-value-requires
arrays::last_item-value-requires = arrays.last_item-value-requires

pub arrays::last_item-write_last-requires : goal.arrays::last_item-write_last-requires
arrays::last_item-write_last-requires = arrays.last_item-write_last-requires

pub arrays::last_item-returns-in_ok-write_last-in-Ok-clause-later : goal.arrays::last_item-returns-in_ok-write_last-in-Ok-clause-later
arrays::last_item-returns-in_ok-write_last-in-Ok-clause-later = arrays.last_item-returns-in_ok-write_last-in-Ok-clause-later

pub arrays::last_item-returns-in_ok-write_last-in-Ok-clause-found : goal.arrays::last_item-returns-in_ok-write_last-in-Ok-clause-found
arrays::last_item-returns-in_ok-write_last-in-Ok-clause-found = arrays.last_item-returns-in_ok-write_last-in-Ok-clause-found

pub arrays::last_item-returns-in_ok-write_last-in-Ok-clause-does : goal.arrays::last_item-returns-in_ok-write_last-in-Ok-clause-does
arrays::last_item-returns-in_ok-write_last-in-Ok-clause-does = arrays.last_item-returns-in_ok-write_last-in-Ok-clause-does

pub arrays::last_item-returns-in-Err-clause-later : goal.arrays::last_item-returns-in-Err-clause-later
arrays::last_item-returns-in-Err-clause-later = arrays.last_item-returns-in-Err-clause-later

pub arrays::last_item-returns-in-Err-clause-found : goal.arrays::last_item-returns-in-Err-clause-found
arrays::last_item-returns-in-Err-clause-found = arrays.last_item-returns-in-Err-clause-found

pub arrays::last_item-returns-in-Err-clause-does : goal.arrays::last_item-returns-in-Err-clause-does
arrays::last_item-returns-in-Err-clause-does = arrays.last_item-returns-in-Err-clause-does

-- ---- `news`

pub news::new_object-returns-in-Err-clause-later : goal.news::new_object-returns-in-Err-clause-later
news::new_object-returns-in-Err-clause-later = news.new_object-returns-in-Err-clause-later

pub news::new_object-returns-in-Err-clause-found : goal.news::new_object-returns-in-Err-clause-found
news::new_object-returns-in-Err-clause-found = news.new_object-returns-in-Err-clause-found

pub news::new_object-returns-in-Err-clause-does : goal.news::new_object-returns-in-Err-clause-does
news::new_object-returns-in-Err-clause-does = news.new_object-returns-in-Err-clause-does

pub news::new_function-returns-in_default-clause-later : goal.news::new_function-returns-in_default-clause-later
news::new_function-returns-in_default-clause-later = news.new_function-returns-in_default-clause-later

pub news::new_function-returns-in_default-clause-found : goal.news::new_function-returns-in_default-clause-found
news::new_function-returns-in_default-clause-found = news.new_function-returns-in_default-clause-found

pub news::new_function-returns-in_default-clause-does : goal.news::new_function-returns-in_default-clause-does
news::new_function-returns-in_default-clause-does = news.new_function-returns-in_default-clause-does

pub news::new_arguments-loop-next-init : goal.news::new_arguments-loop-next-init
news::new_arguments-loop-next-init = news.new_arguments-loop-next-init

pub news::new_arguments-value-requires : goal.news::new_arguments-value-requires
news::new_arguments-value-requires = news.new_arguments-value-requires

pub news::new_arguments-returns-in-Err-clause-later : goal.news::new_arguments-returns-in-Err-clause-later
news::new_arguments-returns-in-Err-clause-later = news.new_arguments-returns-in-Err-clause-later

pub news::new_arguments-returns-in-Err-clause-found : goal.news::new_arguments-returns-in-Err-clause-found
news::new_arguments-returns-in-Err-clause-found = news.new_arguments-returns-in-Err-clause-found

pub news::new_arguments-returns-in-Err-clause-does : goal.news::new_arguments-returns-in-Err-clause-does
news::new_arguments-returns-in-Err-clause-does = news.new_arguments-returns-in-Err-clause-does

pub news::new_arguments-loop-next-preserved : goal.news::new_arguments-loop-next-preserved
news::new_arguments-loop-next-preserved = news.new_arguments-loop-next-preserved

pub news::new_arguments-constructed-requires : goal.news::new_arguments-constructed-requires
news::new_arguments-constructed-requires = news.new_arguments-constructed-requires

pub news::new_arguments-returns-clause-later : goal.news::new_arguments-returns-clause-later
news::new_arguments-returns-clause-later = news.new_arguments-returns-clause-later

pub news::new_arguments-returns-clause-does : goal.news::new_arguments-returns-clause-does
news::new_arguments-returns-clause-does = news.new_arguments-returns-clause-does

-- ---- `within`

pub within::within-value-requires : goal.within::within-value-requires
within::within-value-requires = within.within-value-requires

pub within::within-opened-requires : goal.within::within-opened-requires
within::within-opened-requires = within.within-opened-requires

pub within::within-returns-in-Ok-clause-later : goal.within::within-returns-in-Ok-clause-later
within::within-returns-in-Ok-clause-later = within.within-returns-in-Ok-clause-later

pub within::within-returns-in-Ok-clause-does : goal.within::within-returns-in-Ok-clause-does
within::within-returns-in-Ok-clause-does = within.within-returns-in-Ok-clause-does

pub within::within-returns-in-Err-clause-later : goal.within::within-returns-in-Err-clause-later
within::within-returns-in-Err-clause-later = within.within-returns-in-Err-clause-later

pub within::within-returns-in-Err-clause-found : goal.within::within-returns-in-Err-clause-found
within::within-returns-in-Err-clause-found = within.within-returns-in-Err-clause-found

pub within::within-returns-in-Err-clause-does : goal.within::within-returns-in-Err-clause-does
within::within-returns-in-Err-clause-does = within.within-returns-in-Err-clause-does

pub within::opened-statement-done-requires : goal.within::opened-statement-done-requires
within::opened-statement-done-requires = within.opened-statement-done-requires

pub within::opened-returns-in_ok-inner-in-Some-clause-later : goal.within::opened-returns-in_ok-inner-in-Some-clause-later
within::opened-returns-in_ok-inner-in-Some-clause-later = within.opened-returns-in_ok-inner-in-Some-clause-later

pub within::opened-returns-in_ok-inner-in-Some-clause-found : goal.within::opened-returns-in_ok-inner-in-Some-clause-found
within::opened-returns-in_ok-inner-in-Some-clause-found = within.opened-returns-in_ok-inner-in-Some-clause-found

pub within::opened-returns-in_ok-inner-in-Some-clause-does : goal.within::opened-returns-in_ok-inner-in-Some-clause-does
within::opened-returns-in_ok-inner-in-Some-clause-does = within.opened-returns-in_ok-inner-in-Some-clause-does

pub within::opened-returns-in-None-clause-later : goal.within::opened-returns-in-None-clause-later
within::opened-returns-in-None-clause-later = within.opened-returns-in-None-clause-later

pub within::opened-returns-in-None-clause-found : goal.within::opened-returns-in-None-clause-found
within::opened-returns-in-None-clause-found = within.opened-returns-in-None-clause-found

pub within::opened-returns-in-None-clause-does : goal.within::opened-returns-in-None-clause-does
within::opened-returns-in-None-clause-does = within.opened-returns-in-None-clause-does

-- ---- `tries`

pub tries::throw_of-returns-in-Ok-clause-does : goal.tries::throw_of-returns-in-Ok-clause-does
tries::throw_of-returns-in-Ok-clause-does = tries.throw_of-returns-in-Ok-clause-does

pub tries::throw_of-returns-in-Ok-clause-found : goal.tries::throw_of-returns-in-Ok-clause-found
tries::throw_of-returns-in-Ok-clause-found = tries.throw_of-returns-in-Ok-clause-found

pub tries::throw_of-returns-in-Err-clause-later : goal.tries::throw_of-returns-in-Err-clause-later
tries::throw_of-returns-in-Err-clause-later = tries.throw_of-returns-in-Err-clause-later

pub tries::throw_of-returns-in-Err-clause-found : goal.tries::throw_of-returns-in-Err-clause-found
tries::throw_of-returns-in-Err-clause-found = tries.throw_of-returns-in-Err-clause-found

pub tries::throw_of-returns-in-Err-clause-does : goal.tries::throw_of-returns-in-Err-clause-does
tries::throw_of-returns-in-Err-clause-does = tries.throw_of-returns-in-Err-clause-does

pub tries::attempt-returns-in-Err-clause-later : goal.tries::attempt-returns-in-Err-clause-later
tries::attempt-returns-in-Err-clause-later = tries.attempt-returns-in-Err-clause-later

pub tries::attempt-returns-in-Err-clause-found : goal.tries::attempt-returns-in-Err-clause-found
tries::attempt-returns-in-Err-clause-found = tries.attempt-returns-in-Err-clause-found

pub tries::attempt-returns-in-Err-clause-does : goal.tries::attempt-returns-in-Err-clause-does
tries::attempt-returns-in-Err-clause-does = tries.attempt-returns-in-Err-clause-does

pub tries::attempted-returns-clause-later : goal.tries::attempted-returns-clause-later
tries::attempted-returns-clause-later = tries.attempted-returns-clause-later

pub tries::attempted-returns-clause-found : goal.tries::attempted-returns-clause-found
tries::attempted-returns-clause-found = tries.attempted-returns-clause-found

pub tries::attempted-returns-clause-does : goal.tries::attempted-returns-clause-does
tries::attempted-returns-clause-does = tries.attempted-returns-clause-does

pub tries::attempted-returns-clause-caught : goal.tries::attempted-returns-clause-caught
tries::attempted-returns-clause-caught = tries.attempted-returns-clause-caught

pub tries::caught-catch-requires : goal.tries::caught-catch-requires
tries::caught-catch-requires = tries.caught-catch-requires

pub tries::caught-returns-in-Some-clause-does : goal.tries::caught-returns-in-Some-clause-does
tries::caught-returns-in-Some-clause-does = tries.caught-returns-in-Some-clause-does

pub tries::caught-returns-in-None-clause-does : goal.tries::caught-returns-in-None-clause-does
tries::caught-returns-in-None-clause-does = tries.caught-returns-in-None-clause-does

pub tries::catch-write-requires : goal.tries::catch-write-requires
tries::catch-write-requires = tries.catch-write-requires

pub tries::in_scope-attempted-done-requires : goal.tries::in_scope-attempted-done-requires
tries::in_scope-attempted-done-requires = tries.in_scope-attempted-done-requires

pub tries::in_scope-returns-clause-later : goal.tries::in_scope-returns-clause-later
tries::in_scope-returns-clause-later = tries.in_scope-returns-clause-later

pub tries::in_scope-returns-clause-found : goal.tries::in_scope-returns-clause-found
tries::in_scope-returns-clause-found = tries.in_scope-returns-clause-found

pub tries::in_scope-returns-clause-does : goal.tries::in_scope-returns-clause-does
tries::in_scope-returns-clause-does = tries.in_scope-returns-clause-does

pub tries::lastly-returns-in-None-clause-does : goal.tries::lastly-returns-in-None-clause-does
tries::lastly-returns-in-None-clause-does = tries.lastly-returns-in-None-clause-does

-- ---- `switches`

pub switches::switch-cases-requires : goal.switches::switch-cases-requires
switches::switch-cases-requires = switches.switch-cases-requires

pub switches::switch-returns-in-Ok-clause-later : goal.switches::switch-returns-in-Ok-clause-later
switches::switch-returns-in-Ok-clause-later = switches.switch-returns-in-Ok-clause-later

pub switches::switch-returns-in-Ok-clause-does : goal.switches::switch-returns-in-Ok-clause-does
switches::switch-returns-in-Ok-clause-does = switches.switch-returns-in-Ok-clause-does

pub switches::switch-returns-in-Err-clause-later : goal.switches::switch-returns-in-Err-clause-later
switches::switch-returns-in-Err-clause-later = switches.switch-returns-in-Err-clause-later

pub switches::switch-returns-in-Err-clause-found : goal.switches::switch-returns-in-Err-clause-found
switches::switch-returns-in-Err-clause-found = switches.switch-returns-in-Err-clause-found

pub switches::switch-returns-in-Err-clause-does : goal.switches::switch-returns-in-Err-clause-does
switches::switch-returns-in-Err-clause-does = switches.switch-returns-in-Err-clause-does

pub switches::cases-loop-case-init : goal.switches::cases-loop-case-init
switches::cases-loop-case-init = switches.cases-loop-case-init

pub switches::cases-value-requires : goal.switches::cases-value-requires
switches::cases-value-requires = switches.cases-value-requires

pub switches::cases-strictly_equal-requires : goal.switches::cases-strictly_equal-requires
switches::cases-strictly_equal-requires = switches.cases-strictly_equal-requires

pub switches::cases-loop-case-preserved : goal.switches::cases-loop-case-preserved
switches::cases-loop-case-preserved = switches.cases-loop-case-preserved

pub switches::cases-loop-case-smaller : goal.switches::cases-loop-case-smaller
switches::cases-loop-case-smaller = switches.cases-loop-case-smaller

pub switches::cases-run_clauses-requires : goal.switches::cases-run_clauses-requires
switches::cases-run_clauses-requires = switches.cases-run_clauses-requires

pub switches::cases-returns-then-strictly_equal-clause-later : goal.switches::cases-returns-then-strictly_equal-clause-later
switches::cases-returns-then-strictly_equal-clause-later = switches.cases-returns-then-strictly_equal-clause-later

pub switches::cases-returns-then-strictly_equal-clause-does : goal.switches::cases-returns-then-strictly_equal-clause-does
switches::cases-returns-then-strictly_equal-clause-does = switches.cases-returns-then-strictly_equal-clause-does

pub switches::cases-returns-in-Err-clause-later : goal.switches::cases-returns-in-Err-clause-later
switches::cases-returns-in-Err-clause-later = switches.cases-returns-in-Err-clause-later

pub switches::cases-returns-in-Err-clause-found : goal.switches::cases-returns-in-Err-clause-found
switches::cases-returns-in-Err-clause-found = switches.cases-returns-in-Err-clause-found

pub switches::cases-returns-in-Err-clause-does : goal.switches::cases-returns-in-Err-clause-does
switches::cases-returns-in-Err-clause-does = switches.cases-returns-in-Err-clause-does

pub switches::cases-run_statements-requires : goal.switches::cases-run_statements-requires
switches::cases-run_statements-requires = switches.cases-run_statements-requires

pub switches::cases-returns-clause-later : goal.switches::cases-returns-clause-later
switches::cases-returns-clause-later = switches.cases-returns-clause-later

pub switches::cases-returns-clause-does : goal.switches::cases-returns-clause-does
switches::cases-returns-clause-does = switches.cases-returns-clause-does

pub switches::run_clauses-returns-clause-does : goal.switches::run_clauses-returns-clause-does
switches::run_clauses-returns-clause-does = switches.run_clauses-returns-clause-does

pub switches::run_statements-loop-part-init : goal.switches::run_statements-loop-part-init
switches::run_statements-loop-part-init = switches.run_statements-loop-part-init

pub switches::run_statements-statement-requires : goal.switches::run_statements-statement-requires
switches::run_statements-statement-requires = switches.run_statements-statement-requires

pub switches::run_statements-loop-part-preserved : goal.switches::run_statements-loop-part-preserved
switches::run_statements-loop-part-preserved = switches.run_statements-loop-part-preserved

pub switches::run_statements-returns-in_default-end-clause-later : goal.switches::run_statements-returns-in_default-end-clause-later
switches::run_statements-returns-in_default-end-clause-later = switches.run_statements-returns-in_default-end-clause-later

pub switches::run_statements-returns-in_default-end-clause-found : goal.switches::run_statements-returns-in_default-end-clause-found
switches::run_statements-returns-in_default-end-clause-found = switches.run_statements-returns-in_default-end-clause-found

pub switches::run_statements-returns-in_default-end-clause-does : goal.switches::run_statements-returns-in_default-end-clause-does
switches::run_statements-returns-in_default-end-clause-does = switches.run_statements-returns-in_default-end-clause-does

pub switches::run_statements-returns-in-Err-clause-later : goal.switches::run_statements-returns-in-Err-clause-later
switches::run_statements-returns-in-Err-clause-later = switches.run_statements-returns-in-Err-clause-later

pub switches::run_statements-returns-in-Err-clause-found : goal.switches::run_statements-returns-in-Err-clause-found
switches::run_statements-returns-in-Err-clause-found = switches.run_statements-returns-in-Err-clause-found

pub switches::run_statements-returns-in-Err-clause-does : goal.switches::run_statements-returns-in-Err-clause-does
switches::run_statements-returns-in-Err-clause-does = switches.run_statements-returns-in-Err-clause-does

pub switches::run_statements-returns-clause-does : goal.switches::run_statements-returns-clause-does
switches::run_statements-returns-clause-does = switches.run_statements-returns-clause-does

-- ---- `labels`

pub labels::labelled-statement-requires : goal.labels::labelled-statement-requires
labels::labelled-statement-requires = labels.labelled-statement-requires

pub labels::labelled-behind_label-requires : goal.labels::labelled-behind_label-requires
labels::labelled-behind_label-requires = labels.labelled-behind_label-requires

pub labels::labelled-returns-in-Ok-clause-found : goal.labels::labelled-returns-in-Ok-clause-found
labels::labelled-returns-in-Ok-clause-found = labels.labelled-returns-in-Ok-clause-found

pub labels::labelled-returns-in-Ok-clause-does : goal.labels::labelled-returns-in-Ok-clause-does
labels::labelled-returns-in-Ok-clause-does = labels.labelled-returns-in-Ok-clause-does

pub labels::labelled-returns-in-Err-clause-later : goal.labels::labelled-returns-in-Err-clause-later
labels::labelled-returns-in-Err-clause-later = labels.labelled-returns-in-Err-clause-later

pub labels::labelled-returns-in-Err-clause-found : goal.labels::labelled-returns-in-Err-clause-found
labels::labelled-returns-in-Err-clause-found = labels.labelled-returns-in-Err-clause-found

pub labels::labelled-returns-in-Err-clause-does : goal.labels::labelled-returns-in-Err-clause-does
labels::labelled-returns-in-Err-clause-does = labels.labelled-returns-in-Err-clause-does

-- ---- `do_loops`

pub do_loops::run_do-iterations-requires : goal.do_loops::run_do-iterations-requires
do_loops::run_do-iterations-requires = do_loops.run_do-iterations-requires

pub do_loops::run_do-returns-in-Some-clause-later : goal.do_loops::run_do-returns-in-Some-clause-later
do_loops::run_do-returns-in-Some-clause-later = do_loops.run_do-returns-in-Some-clause-later

pub do_loops::run_do-returns-in-Some-clause-found : goal.do_loops::run_do-returns-in-Some-clause-found
do_loops::run_do-returns-in-Some-clause-found = do_loops.run_do-returns-in-Some-clause-found

pub do_loops::run_do-returns-in-Some-clause-does : goal.do_loops::run_do-returns-in-Some-clause-does
do_loops::run_do-returns-in-Some-clause-does = do_loops.run_do-returns-in-Some-clause-does

pub do_loops::run_do-returns-in-None-clause-later : goal.do_loops::run_do-returns-in-None-clause-later
do_loops::run_do-returns-in-None-clause-later = do_loops.run_do-returns-in-None-clause-later

pub do_loops::run_do-returns-in-None-clause-does : goal.do_loops::run_do-returns-in-None-clause-does
do_loops::run_do-returns-in-None-clause-does = do_loops.run_do-returns-in-None-clause-does

pub do_loops::run_do-returns-in-Err-clause-later : goal.do_loops::run_do-returns-in-Err-clause-later
do_loops::run_do-returns-in-Err-clause-later = do_loops.run_do-returns-in-Err-clause-later

pub do_loops::run_do-returns-in-Err-clause-does : goal.do_loops::run_do-returns-in-Err-clause-does
do_loops::run_do-returns-in-Err-clause-does = do_loops.run_do-returns-in-Err-clause-does

pub do_loops::iterations-rounds-init : goal.do_loops::iterations-rounds-init
do_loops::iterations-rounds-init = do_loops.iterations-rounds-init

pub do_loops::iterations-iteration-requires : goal.do_loops::iterations-iteration-requires
do_loops::iterations-iteration-requires = do_loops.iterations-iteration-requires

pub do_loops::iterations-rounds-preserved : goal.do_loops::iterations-rounds-preserved
do_loops::iterations-rounds-preserved = do_loops.iterations-rounds-preserved

pub do_loops::iterations-returns-in-Some-clause-later : goal.do_loops::iterations-returns-in-Some-clause-later
do_loops::iterations-returns-in-Some-clause-later = do_loops.iterations-returns-in-Some-clause-later

pub do_loops::iterations-returns-in-Some-clause-found : goal.do_loops::iterations-returns-in-Some-clause-found
do_loops::iterations-returns-in-Some-clause-found = do_loops.iterations-returns-in-Some-clause-found

pub do_loops::iterations-returns-in-Some-clause-does : goal.do_loops::iterations-returns-in-Some-clause-does
do_loops::iterations-returns-in-Some-clause-does = do_loops.iterations-returns-in-Some-clause-does

pub do_loops::iterations-returns-in-Err-clause-later : goal.do_loops::iterations-returns-in-Err-clause-later
do_loops::iterations-returns-in-Err-clause-later = do_loops.iterations-returns-in-Err-clause-later

pub do_loops::iterations-returns-in-Err-clause-does : goal.do_loops::iterations-returns-in-Err-clause-does
do_loops::iterations-returns-in-Err-clause-does = do_loops.iterations-returns-in-Err-clause-does

pub do_loops::iterations-returns-clause-later : goal.do_loops::iterations-returns-clause-later
do_loops::iterations-returns-clause-later = do_loops.iterations-returns-clause-later

pub do_loops::iterations-returns-clause-found : goal.do_loops::iterations-returns-clause-found
do_loops::iterations-returns-clause-found = do_loops.iterations-returns-clause-found

pub do_loops::iterations-returns-clause-does : goal.do_loops::iterations-returns-clause-does
do_loops::iterations-returns-clause-does = do_loops.iterations-returns-clause-does

pub do_loops::first-body_ended-requires : goal.do_loops::first-body_ended-requires
do_loops::first-body_ended-requires = do_loops.first-body_ended-requires

pub do_loops::first-returns-in-Ok-clause-later : goal.do_loops::first-returns-in-Ok-clause-later
do_loops::first-returns-in-Ok-clause-later = do_loops.first-returns-in-Ok-clause-later

pub do_loops::first-returns-in-Ok-clause-does : goal.do_loops::first-returns-in-Ok-clause-does
do_loops::first-returns-in-Ok-clause-does = do_loops.first-returns-in-Ok-clause-does

pub do_loops::first-returns-in-Err-clause-later : goal.do_loops::first-returns-in-Err-clause-later
do_loops::first-returns-in-Err-clause-later = do_loops.first-returns-in-Err-clause-later

pub do_loops::first-returns-in-Err-clause-found : goal.do_loops::first-returns-in-Err-clause-found
do_loops::first-returns-in-Err-clause-found = do_loops.first-returns-in-Err-clause-found

pub do_loops::first-returns-in-Err-clause-does : goal.do_loops::first-returns-in-Err-clause-does
do_loops::first-returns-in-Err-clause-does = do_loops.first-returns-in-Err-clause-does

pub do_loops::iteration-body_ended-requires : goal.do_loops::iteration-body_ended-requires
do_loops::iteration-body_ended-requires = do_loops.iteration-body_ended-requires

pub do_loops::iteration-returns-in-Ok-clause-later : goal.do_loops::iteration-returns-in-Ok-clause-later
do_loops::iteration-returns-in-Ok-clause-later = do_loops.iteration-returns-in-Ok-clause-later

pub do_loops::iteration-returns-in-Ok-clause-does : goal.do_loops::iteration-returns-in-Ok-clause-does
do_loops::iteration-returns-in-Ok-clause-does = do_loops.iteration-returns-in-Ok-clause-does

pub do_loops::iteration-returns-in-Err-clause-later : goal.do_loops::iteration-returns-in-Err-clause-later
do_loops::iteration-returns-in-Err-clause-later = do_loops.iteration-returns-in-Err-clause-later

pub do_loops::iteration-returns-in-Err-clause-found : goal.do_loops::iteration-returns-in-Err-clause-found
do_loops::iteration-returns-in-Err-clause-found = do_loops.iteration-returns-in-Err-clause-found

pub do_loops::iteration-returns-in-Err-clause-does : goal.do_loops::iteration-returns-in-Err-clause-does
do_loops::iteration-returns-in-Err-clause-does = do_loops.iteration-returns-in-Err-clause-does

pub do_loops::body_ended-returns-in-Again-clause-does : goal.do_loops::body_ended-returns-in-Again-clause-does
do_loops::body_ended-returns-in-Again-clause-does = do_loops.body_ended-returns-in-Again-clause-does

pub do_loops::body_ended-returns-in-Ends-clause-found : goal.do_loops::body_ended-returns-in-Ends-clause-found
do_loops::body_ended-returns-in-Ends-clause-found = do_loops.body_ended-returns-in-Ends-clause-found

pub do_loops::body_ended-returns-in-Ends-clause-does : goal.do_loops::body_ended-returns-in-Ends-clause-does
do_loops::body_ended-returns-in-Ends-clause-does = do_loops.body_ended-returns-in-Ends-clause-does

pub do_loops::asked-tested-requires : goal.do_loops::asked-tested-requires
do_loops::asked-tested-requires = do_loops.asked-tested-requires

pub do_loops::asked-returns-in-Ok-clause-found : goal.do_loops::asked-returns-in-Ok-clause-found
do_loops::asked-returns-in-Ok-clause-found = do_loops.asked-returns-in-Ok-clause-found

pub do_loops::asked-returns-in-Ok-clause-does : goal.do_loops::asked-returns-in-Ok-clause-does
do_loops::asked-returns-in-Ok-clause-does = do_loops.asked-returns-in-Ok-clause-does

pub do_loops::asked-returns-in-Err-clause-later : goal.do_loops::asked-returns-in-Err-clause-later
do_loops::asked-returns-in-Err-clause-later = do_loops.asked-returns-in-Err-clause-later

pub do_loops::asked-returns-in-Err-clause-found : goal.do_loops::asked-returns-in-Err-clause-found
do_loops::asked-returns-in-Err-clause-found = do_loops.asked-returns-in-Err-clause-found

pub do_loops::asked-returns-in-Err-clause-does : goal.do_loops::asked-returns-in-Err-clause-does
do_loops::asked-returns-in-Err-clause-does = do_loops.asked-returns-in-Err-clause-does

-- ---- `statements`: labels and `do`

pub statements::statement_form-returns-in-Some-Label-clause-does : goal.statements::statement_form-returns-in-Some-Label-clause-does
statements::statement_form-returns-in-Some-Label-clause-does = statements.statement_form-returns-in-Some-Label-clause-does

pub statements::statement_form-run_do-requires : goal.statements::statement_form-run_do-requires
statements::statement_form-run_do-requires = statements.statement_form-run_do-requires

pub statements::statement_form-returns-in-Some-DoWhile-clause-does : goal.statements::statement_form-returns-in-Some-DoWhile-clause-does
statements::statement_form-returns-in-Some-DoWhile-clause-does = statements.statement_form-returns-in-Some-DoWhile-clause-does

pub statements::statement_form-returns-in-Some-Empty-clause-later : goal.statements::statement_form-returns-in-Some-Empty-clause-later
statements::statement_form-returns-in-Some-Empty-clause-later = statements.statement_form-returns-in-Some-Empty-clause-later

pub statements::statement_form-returns-in-Some-Empty-clause-found : goal.statements::statement_form-returns-in-Some-Empty-clause-found
statements::statement_form-returns-in-Some-Empty-clause-found = statements.statement_form-returns-in-Some-Empty-clause-found

pub statements::statement_form-returns-in-Some-Empty-clause-does : goal.statements::statement_form-returns-in-Some-Empty-clause-does
statements::statement_form-returns-in-Some-Empty-clause-does = statements.statement_form-returns-in-Some-Empty-clause-does

pub statements::statement_form-returns-in-Some-Break-clause-later : goal.statements::statement_form-returns-in-Some-Break-clause-later
statements::statement_form-returns-in-Some-Break-clause-later = statements.statement_form-returns-in-Some-Break-clause-later

pub statements::statement_form-returns-in-Some-Break-clause-found : goal.statements::statement_form-returns-in-Some-Break-clause-found
statements::statement_form-returns-in-Some-Break-clause-found = statements.statement_form-returns-in-Some-Break-clause-found

pub statements::statement_form-returns-in-Some-Break-clause-does : goal.statements::statement_form-returns-in-Some-Break-clause-does
statements::statement_form-returns-in-Some-Break-clause-does = statements.statement_form-returns-in-Some-Break-clause-does

pub statements::statement_form-returns-in-Some-Continue-clause-later : goal.statements::statement_form-returns-in-Some-Continue-clause-later
statements::statement_form-returns-in-Some-Continue-clause-later = statements.statement_form-returns-in-Some-Continue-clause-later

pub statements::statement_form-returns-in-Some-Continue-clause-found : goal.statements::statement_form-returns-in-Some-Continue-clause-found
statements::statement_form-returns-in-Some-Continue-clause-found = statements.statement_form-returns-in-Some-Continue-clause-found

pub statements::statement_form-returns-in-Some-Continue-clause-does : goal.statements::statement_form-returns-in-Some-Continue-clause-does
statements::statement_form-returns-in-Some-Continue-clause-does = statements.statement_form-returns-in-Some-Continue-clause-does

pub statements::statement_form-returns-in-Some-Return-None-default-clause-later : goal.statements::statement_form-returns-in-Some-Return-None-default-clause-later
statements::statement_form-returns-in-Some-Return-None-default-clause-later = statements.statement_form-returns-in-Some-Return-None-default-clause-later

pub statements::statement_form-returns-in-Some-Return-None-default-clause-found : goal.statements::statement_form-returns-in-Some-Return-None-default-clause-found
statements::statement_form-returns-in-Some-Return-None-default-clause-found = statements.statement_form-returns-in-Some-Return-None-default-clause-found

pub statements::statement_form-returns-in-Some-Return-None-default-clause-does : goal.statements::statement_form-returns-in-Some-Return-None-default-clause-does
statements::statement_form-returns-in-Some-Return-None-default-clause-does = statements.statement_form-returns-in-Some-Return-None-default-clause-does

-- ---- `operands`

pub operands::asked-target_asked-requires : goal.operands::asked-target_asked-requires
operands::asked-target_asked-requires = operands.asked-target_asked-requires

pub operands::asked-returns-then-is_target-clause-does : goal.operands::asked-returns-then-is_target-clause-does
operands::asked-returns-then-is_target-clause-does = operands.asked-returns-then-is_target-clause-does

pub operands::asked-value-requires : goal.operands::asked-value-requires
operands::asked-value-requires = operands.asked-value-requires

pub operands::asked-value_told-requires : goal.operands::asked-value_told-requires
operands::asked-value_told-requires = operands.asked-value_told-requires

pub operands::asked-returns-in-Ok-clause-later : goal.operands::asked-returns-in-Ok-clause-later
operands::asked-returns-in-Ok-clause-later = operands.asked-returns-in-Ok-clause-later

pub operands::asked-returns-in-Ok-clause-does : goal.operands::asked-returns-in-Ok-clause-does
operands::asked-returns-in-Ok-clause-does = operands.asked-returns-in-Ok-clause-does

pub operands::asked-returns-in-Err-clause-later : goal.operands::asked-returns-in-Err-clause-later
operands::asked-returns-in-Err-clause-later = operands.asked-returns-in-Err-clause-later

pub operands::asked-returns-in-Err-clause-found : goal.operands::asked-returns-in-Err-clause-found
operands::asked-returns-in-Err-clause-found = operands.asked-returns-in-Err-clause-found

pub operands::asked-returns-in-Err-clause-does : goal.operands::asked-returns-in-Err-clause-does
operands::asked-returns-in-Err-clause-does = operands.asked-returns-in-Err-clause-does

pub operands::target_asked-reference_told-requires : goal.operands::target_asked-reference_told-requires
operands::target_asked-reference_told-requires = operands.target_asked-reference_told-requires

pub operands::target_asked-returns-in-Ok-clause-later : goal.operands::target_asked-returns-in-Ok-clause-later
operands::target_asked-returns-in-Ok-clause-later = operands.target_asked-returns-in-Ok-clause-later

pub operands::target_asked-returns-in-Ok-clause-does : goal.operands::target_asked-returns-in-Ok-clause-does
operands::target_asked-returns-in-Ok-clause-does = operands.target_asked-returns-in-Ok-clause-does

pub operands::target_asked-returns-in-Err-clause-later : goal.operands::target_asked-returns-in-Err-clause-later
operands::target_asked-returns-in-Err-clause-later = operands.target_asked-returns-in-Err-clause-later

pub operands::target_asked-returns-in-Err-clause-found : goal.operands::target_asked-returns-in-Err-clause-found
operands::target_asked-returns-in-Err-clause-found = operands.target_asked-returns-in-Err-clause-found

pub operands::target_asked-returns-in-Err-clause-does : goal.operands::target_asked-returns-in-Err-clause-does
operands::target_asked-returns-in-Err-clause-does = operands.target_asked-returns-in-Err-clause-does

pub prefixes::on_target-asked-requires : goal.prefixes::on_target-asked-requires
prefixes::on_target-asked-requires = prefixes.on_target-asked-requires

pub prefixes::on_target-asked-requires-in-Typeof : goal.prefixes::on_target-asked-requires-in-Typeof
prefixes::on_target-asked-requires-in-Typeof = prefixes.on_target-asked-requires-in-Typeof

-- ---- `for_ins`

pub for_ins::for_in-returns-in-Err-clause-later : goal.for_ins::for_in-returns-in-Err-clause-later
for_ins::for_in-returns-in-Err-clause-later = for_ins.for_in-returns-in-Err-clause-later

pub for_ins::for_in-returns-in-Err-clause-found : goal.for_ins::for_in-returns-in-Err-clause-found
for_ins::for_in-returns-in-Err-clause-found = for_ins.for_in-returns-in-Err-clause-found

pub for_ins::for_in-returns-in-Err-clause-does : goal.for_ins::for_in-returns-in-Err-clause-does
for_ins::for_in-returns-in-Err-clause-does = for_ins.for_in-returns-in-Err-clause-does

pub for_ins::for_in-list_visits-requires : goal.for_ins::for_in-list_visits-requires
for_ins::for_in-list_visits-requires = for_ins.for_in-list_visits-requires

pub for_ins::for_in-run_visits-done-requires : goal.for_ins::for_in-run_visits-done-requires
for_ins::for_in-run_visits-done-requires = for_ins.for_in-run_visits-done-requires

pub for_ins::for_in-returns-in-Ok-listed-clause-later : goal.for_ins::for_in-returns-in-Ok-listed-clause-later
for_ins::for_in-returns-in-Ok-listed-clause-later = for_ins.for_in-returns-in-Ok-listed-clause-later

pub for_ins::for_in-returns-in-Ok-listed-clause-found : goal.for_ins::for_in-returns-in-Ok-listed-clause-found
for_ins::for_in-returns-in-Ok-listed-clause-found = for_ins.for_in-returns-in-Ok-listed-clause-found

pub for_ins::for_in-returns-in-Ok-listed-clause-does : goal.for_ins::for_in-returns-in-Ok-listed-clause-does
for_ins::for_in-returns-in-Ok-listed-clause-does = for_ins.for_in-returns-in-Ok-listed-clause-does

pub for_ins::for_in-returns-in-Err-listed-clause-later : goal.for_ins::for_in-returns-in-Err-listed-clause-later
for_ins::for_in-returns-in-Err-listed-clause-later = for_ins.for_in-returns-in-Err-listed-clause-later

pub for_ins::for_in-returns-in-Err-listed-clause-found : goal.for_ins::for_in-returns-in-Err-listed-clause-found
for_ins::for_in-returns-in-Err-listed-clause-found = for_ins.for_in-returns-in-Err-listed-clause-found

pub for_ins::for_in-returns-in-Err-listed-clause-does : goal.for_ins::for_in-returns-in-Err-listed-clause-does
for_ins::for_in-returns-in-Err-listed-clause-does = for_ins.for_in-returns-in-Err-listed-clause-does

pub for_ins::run_visits-rounds-init : goal.for_ins::run_visits-rounds-init
for_ins::run_visits-rounds-init = for_ins.run_visits-rounds-init

pub for_ins::run_visits-visit_next-requires : goal.for_ins::run_visits-visit_next-requires
for_ins::run_visits-visit_next-requires = for_ins.run_visits-visit_next-requires

pub for_ins::run_visits-rounds-preserved : goal.for_ins::run_visits-rounds-preserved
for_ins::run_visits-rounds-preserved = for_ins.run_visits-rounds-preserved

pub for_ins::run_visits-returns-in-Some-clause-later : goal.for_ins::run_visits-returns-in-Some-clause-later
for_ins::run_visits-returns-in-Some-clause-later = for_ins.run_visits-returns-in-Some-clause-later

pub for_ins::run_visits-returns-in-Some-clause-found : goal.for_ins::run_visits-returns-in-Some-clause-found
for_ins::run_visits-returns-in-Some-clause-found = for_ins.run_visits-returns-in-Some-clause-found

pub for_ins::run_visits-returns-in-Some-clause-does : goal.for_ins::run_visits-returns-in-Some-clause-does
for_ins::run_visits-returns-in-Some-clause-does = for_ins.run_visits-returns-in-Some-clause-does

pub for_ins::run_visits-returns-in-Err-clause-later : goal.for_ins::run_visits-returns-in-Err-clause-later
for_ins::run_visits-returns-in-Err-clause-later = for_ins.run_visits-returns-in-Err-clause-later

pub for_ins::run_visits-returns-in-Err-clause-does : goal.for_ins::run_visits-returns-in-Err-clause-does
for_ins::run_visits-returns-in-Err-clause-does = for_ins.run_visits-returns-in-Err-clause-does

pub for_ins::visit_next-next_present-requires : goal.for_ins::visit_next-next_present-requires
for_ins::visit_next-next_present-requires = for_ins.visit_next-next_present-requires

pub for_ins::visit_next-visit_target-requires : goal.for_ins::visit_next-visit_target-requires
for_ins::visit_next-visit_target-requires = for_ins.visit_next-visit_target-requires

pub for_ins::visit_next-returns-in-Target-clause-later : goal.for_ins::visit_next-returns-in-Target-clause-later
for_ins::visit_next-returns-in-Target-clause-later = for_ins.visit_next-returns-in-Target-clause-later

pub for_ins::visit_next-returns-in-Target-clause-does : goal.for_ins::visit_next-returns-in-Target-clause-does
for_ins::visit_next-returns-in-Target-clause-does = for_ins.visit_next-returns-in-Target-clause-does

pub for_ins::visit_next-reference_at-reference-requires : goal.for_ins::visit_next-reference_at-reference-requires
for_ins::visit_next-reference_at-reference-requires = for_ins.visit_next-reference_at-reference-requires

pub for_ins::visit_next-named-requires : goal.for_ins::visit_next-named-requires
for_ins::visit_next-named-requires = for_ins.visit_next-named-requires

pub for_ins::visit_next-returns-in-Variable-clause-later : goal.for_ins::visit_next-returns-in-Variable-clause-later
for_ins::visit_next-returns-in-Variable-clause-later = for_ins.visit_next-returns-in-Variable-clause-later

pub for_ins::visit_next-returns-in-Variable-clause-does : goal.for_ins::visit_next-returns-in-Variable-clause-does
for_ins::visit_next-returns-in-Variable-clause-does = for_ins.visit_next-returns-in-Variable-clause-does

pub for_ins::visit_next-returns-in-None-clause-later : goal.for_ins::visit_next-returns-in-None-clause-later
for_ins::visit_next-returns-in-None-clause-later = for_ins.visit_next-returns-in-None-clause-later

pub for_ins::visit_next-returns-in-None-clause-found : goal.for_ins::visit_next-returns-in-None-clause-found
for_ins::visit_next-returns-in-None-clause-found = for_ins.visit_next-returns-in-None-clause-found

pub for_ins::visit_next-returns-in-None-clause-visits : goal.for_ins::visit_next-returns-in-None-clause-visits
for_ins::visit_next-returns-in-None-clause-visits = for_ins.visit_next-returns-in-None-clause-visits

pub for_ins::visit_next-returns-in-None-clause-does : goal.for_ins::visit_next-returns-in-None-clause-does
for_ins::visit_next-returns-in-None-clause-does = for_ins.visit_next-returns-in-None-clause-does

pub for_ins::visit_target-named-requires : goal.for_ins::visit_target-named-requires
for_ins::visit_target-named-requires = for_ins.visit_target-named-requires

pub for_ins::visit_target-returns-in-Ok-clause-later : goal.for_ins::visit_target-returns-in-Ok-clause-later
for_ins::visit_target-returns-in-Ok-clause-later = for_ins.visit_target-returns-in-Ok-clause-later

pub for_ins::visit_target-returns-in-Ok-clause-does : goal.for_ins::visit_target-returns-in-Ok-clause-does
for_ins::visit_target-returns-in-Ok-clause-does = for_ins.visit_target-returns-in-Ok-clause-does

pub for_ins::visit_target-returns-in-Err-clause-later : goal.for_ins::visit_target-returns-in-Err-clause-later
for_ins::visit_target-returns-in-Err-clause-later = for_ins.visit_target-returns-in-Err-clause-later

pub for_ins::visit_target-returns-in-Err-clause-found : goal.for_ins::visit_target-returns-in-Err-clause-found
for_ins::visit_target-returns-in-Err-clause-found = for_ins.visit_target-returns-in-Err-clause-found

pub for_ins::visit_target-returns-in-Err-clause-does : goal.for_ins::visit_target-returns-in-Err-clause-does
for_ins::visit_target-returns-in-Err-clause-does = for_ins.visit_target-returns-in-Err-clause-does

pub for_ins::named-statement-requires : goal.for_ins::named-statement-requires
for_ins::named-statement-requires = for_ins.named-statement-requires

pub for_ins::named-body_ended-requires : goal.for_ins::named-body_ended-requires
for_ins::named-body_ended-requires = for_ins.named-body_ended-requires

pub for_ins::named-returns-in-Ok-clause-later : goal.for_ins::named-returns-in-Ok-clause-later
for_ins::named-returns-in-Ok-clause-later = for_ins.named-returns-in-Ok-clause-later

pub for_ins::named-returns-in-Ok-clause-found : goal.for_ins::named-returns-in-Ok-clause-found
for_ins::named-returns-in-Ok-clause-found = for_ins.named-returns-in-Ok-clause-found

pub for_ins::named-returns-in-Ok-clause-visits : goal.for_ins::named-returns-in-Ok-clause-visits
for_ins::named-returns-in-Ok-clause-visits = for_ins.named-returns-in-Ok-clause-visits

pub for_ins::named-returns-in-Ok-clause-does : goal.for_ins::named-returns-in-Ok-clause-does
for_ins::named-returns-in-Ok-clause-does = for_ins.named-returns-in-Ok-clause-does

pub for_ins::named-returns-in-Err-clause-later : goal.for_ins::named-returns-in-Err-clause-later
for_ins::named-returns-in-Err-clause-later = for_ins.named-returns-in-Err-clause-later

pub for_ins::named-returns-in-Err-clause-found : goal.for_ins::named-returns-in-Err-clause-found
for_ins::named-returns-in-Err-clause-found = for_ins.named-returns-in-Err-clause-found

pub for_ins::named-returns-in-Err-clause-does : goal.for_ins::named-returns-in-Err-clause-does
for_ins::named-returns-in-Err-clause-does = for_ins.named-returns-in-Err-clause-does

pub for_ins::named-returns-in_default-clause-later : goal.for_ins::named-returns-in_default-clause-later
for_ins::named-returns-in_default-clause-later = for_ins.named-returns-in_default-clause-later

pub for_ins::named-returns-in_default-clause-found : goal.for_ins::named-returns-in_default-clause-found
for_ins::named-returns-in_default-clause-found = for_ins.named-returns-in_default-clause-found

pub for_ins::named-returns-in_default-clause-visits : goal.for_ins::named-returns-in_default-clause-visits
for_ins::named-returns-in_default-clause-visits = for_ins.named-returns-in_default-clause-visits

pub for_ins::named-returns-in_default-clause-does : goal.for_ins::named-returns-in_default-clause-does
for_ins::named-returns-in_default-clause-does = for_ins.named-returns-in_default-clause-does

-- ---- `statements`: `for`-`in`

pub statements::statement_form-for_in-requires : goal.statements::statement_form-for_in-requires
statements::statement_form-for_in-requires = statements.statement_form-for_in-requires

pub statements::statement_form-returns-in-Some-ForIn-clause-does : goal.statements::statement_form-returns-in-Some-ForIn-clause-does
statements::statement_form-returns-in-Some-ForIn-clause-does = statements.statement_form-returns-in-Some-ForIn-clause-does

pub statements::statement_form-for_in-requires-in-Some-ForVarIn : goal.statements::statement_form-for_in-requires-in-Some-ForVarIn
statements::statement_form-for_in-requires-in-Some-ForVarIn = statements.statement_form-for_in-requires-in-Some-ForVarIn

pub statements::statement_form-returns-in-Some-ForVarIn-clause-does : goal.statements::statement_form-returns-in-Some-ForVarIn-clause-does
statements::statement_form-returns-in-Some-ForVarIn-clause-does = statements.statement_form-returns-in-Some-ForVarIn-clause-does

-- ---- `stores`

pub stores::effect-value-requires : goal.stores::effect-value-requires
stores::effect-value-requires = stores.effect-value-requires

pub stores::effect-returns-in-Ok-clause-later : goal.stores::effect-returns-in-Ok-clause-later
stores::effect-returns-in-Ok-clause-later = stores.effect-returns-in-Ok-clause-later

pub stores::effect-returns-in-Ok-clause-does : goal.stores::effect-returns-in-Ok-clause-does
stores::effect-returns-in-Ok-clause-does = stores.effect-returns-in-Ok-clause-does

pub stores::effect-returns-in-Err-clause-later : goal.stores::effect-returns-in-Err-clause-later
stores::effect-returns-in-Err-clause-later = stores.effect-returns-in-Err-clause-later

pub stores::effect-returns-in-Err-clause-does : goal.stores::effect-returns-in-Err-clause-does
stores::effect-returns-in-Err-clause-does = stores.effect-returns-in-Err-clause-does

-- ---- `news`

pub news::constructed-create-requires : goal.news::constructed-create-requires
news::constructed-create-requires = news.constructed-create-requires

pub news::constructed-body_entered-requires : goal.news::constructed-body_entered-requires
news::constructed-body_entered-requires = news.constructed-body_entered-requires

pub news::constructed-result_of_new-requires : goal.news::constructed-result_of_new-requires
news::constructed-result_of_new-requires = news.constructed-result_of_new-requires

pub news::constructed-returns-in-Ok-clause-later : goal.news::constructed-returns-in-Ok-clause-later
news::constructed-returns-in-Ok-clause-later = news.constructed-returns-in-Ok-clause-later

pub news::constructed-returns-in-Ok-clause-found : goal.news::constructed-returns-in-Ok-clause-found
news::constructed-returns-in-Ok-clause-found = news.constructed-returns-in-Ok-clause-found

pub news::constructed-returns-in-Ok-clause-does : goal.news::constructed-returns-in-Ok-clause-does
news::constructed-returns-in-Ok-clause-does = news.constructed-returns-in-Ok-clause-does

pub news::constructed-returns-in-Err-clause-later : goal.news::constructed-returns-in-Err-clause-later
news::constructed-returns-in-Err-clause-later = news.constructed-returns-in-Err-clause-later

pub news::constructed-returns-in-Err-clause-found : goal.news::constructed-returns-in-Err-clause-found
news::constructed-returns-in-Err-clause-found = news.constructed-returns-in-Err-clause-found

pub news::constructed-returns-in-Err-clause-does : goal.news::constructed-returns-in-Err-clause-does
news::constructed-returns-in-Err-clause-does = news.constructed-returns-in-Err-clause-does

-- ---- `tries`

pub tries::catch-in_scope-requires : goal.tries::catch-in_scope-requires
tries::catch-in_scope-requires = tries.catch-in_scope-requires

pub tries::catch-lastly-requires : goal.tries::catch-lastly-requires
tries::catch-lastly-requires = tries.catch-lastly-requires

pub tries::catch-returns-in-Ok-clause-later : goal.tries::catch-returns-in-Ok-clause-later
tries::catch-returns-in-Ok-clause-later = tries.catch-returns-in-Ok-clause-later

pub tries::catch-returns-in-Ok-clause-does : goal.tries::catch-returns-in-Ok-clause-does
tries::catch-returns-in-Ok-clause-does = tries.catch-returns-in-Ok-clause-does

pub tries::catch-returns-in-Err-clause-later : goal.tries::catch-returns-in-Err-clause-later
tries::catch-returns-in-Err-clause-later = tries.catch-returns-in-Err-clause-later

pub tries::catch-returns-in-Err-clause-found : goal.tries::catch-returns-in-Err-clause-found
tries::catch-returns-in-Err-clause-found = tries.catch-returns-in-Err-clause-found

pub tries::catch-returns-in-Err-clause-does : goal.tries::catch-returns-in-Err-clause-does
tries::catch-returns-in-Err-clause-does = tries.catch-returns-in-Err-clause-does

-- ---- `stores`

pub stores::assign-assigned-requires : goal.stores::assign-assigned-requires
stores::assign-assigned-requires = stores.assign-assigned-requires

pub stores::assign-compounded-requires : goal.stores::assign-compounded-requires
stores::assign-compounded-requires = stores.assign-compounded-requires

pub stores::assign-returns-in-None-clause-later : goal.stores::assign-returns-in-None-clause-later
stores::assign-returns-in-None-clause-later = stores.assign-returns-in-None-clause-later

pub stores::assign-returns-in-None-clause-does : goal.stores::assign-returns-in-None-clause-does
stores::assign-returns-in-None-clause-does = stores.assign-returns-in-None-clause-does

pub stores::assign-returns-in-Some-clause-later : goal.stores::assign-returns-in-Some-clause-later
stores::assign-returns-in-Some-clause-later = stores.assign-returns-in-Some-clause-later

pub stores::assign-returns-in-Some-clause-does : goal.stores::assign-returns-in-Some-clause-does
stores::assign-returns-in-Some-clause-does = stores.assign-returns-in-Some-clause-does

-- ---- `tries`

pub tries::attempt-caught-requires : goal.tries::attempt-caught-requires
tries::attempt-caught-requires = tries.attempt-caught-requires

pub tries::attempt-lastly-requires : goal.tries::attempt-lastly-requires
tries::attempt-lastly-requires = tries.attempt-lastly-requires

pub tries::attempt-returns-in-Throws-clause-later : goal.tries::attempt-returns-in-Throws-clause-later
tries::attempt-returns-in-Throws-clause-later = tries.attempt-returns-in-Throws-clause-later

pub tries::attempt-returns-in-Throws-clause-does : goal.tries::attempt-returns-in-Throws-clause-does
tries::attempt-returns-in-Throws-clause-does = tries.attempt-returns-in-Throws-clause-does

pub tries::attempt-returns-in_default-clause-later : goal.tries::attempt-returns-in_default-clause-later
tries::attempt-returns-in_default-clause-later = tries.attempt-returns-in_default-clause-later

pub tries::attempt-returns-in_default-clause-does : goal.tries::attempt-returns-in_default-clause-does
tries::attempt-returns-in_default-clause-does = tries.attempt-returns-in_default-clause-does

-- ---- `expressions`

pub expressions::binary-and_right-requires : goal.expressions::binary-and_right-requires
expressions::binary-and_right-requires = expressions.binary-and_right-requires

pub expressions::binary-or_right-requires : goal.expressions::binary-or_right-requires
expressions::binary-or_right-requires = expressions.binary-or_right-requires

pub expressions::binary-both-requires : goal.expressions::binary-both-requires
expressions::binary-both-requires = expressions.binary-both-requires

pub expressions::binary-returns-in-And-clause-later : goal.expressions::binary-returns-in-And-clause-later
expressions::binary-returns-in-And-clause-later = expressions.binary-returns-in-And-clause-later

pub expressions::binary-returns-in-And-clause-does : goal.expressions::binary-returns-in-And-clause-does
expressions::binary-returns-in-And-clause-does = expressions.binary-returns-in-And-clause-does

pub expressions::binary-returns-in-Or-clause-later : goal.expressions::binary-returns-in-Or-clause-later
expressions::binary-returns-in-Or-clause-later = expressions.binary-returns-in-Or-clause-later

pub expressions::binary-returns-in-Or-clause-does : goal.expressions::binary-returns-in-Or-clause-does
expressions::binary-returns-in-Or-clause-does = expressions.binary-returns-in-Or-clause-does

pub expressions::binary-returns-in_default-clause-later : goal.expressions::binary-returns-in_default-clause-later
expressions::binary-returns-in_default-clause-later = expressions.binary-returns-in_default-clause-later

pub expressions::binary-returns-in_default-clause-does : goal.expressions::binary-returns-in_default-clause-does
expressions::binary-returns-in_default-clause-does = expressions.binary-returns-in_default-clause-does

-- ---- `tries`

pub tries::lastly-statement-requires : goal.tries::lastly-statement-requires
tries::lastly-statement-requires = tries.lastly-statement-requires

pub tries::lastly-returns-in-Ok-clause-does : goal.tries::lastly-returns-in-Ok-clause-does
tries::lastly-returns-in-Ok-clause-does = tries.lastly-returns-in-Ok-clause-does

pub tries::lastly-returns-in-Ok-clause-found : goal.tries::lastly-returns-in-Ok-clause-found
tries::lastly-returns-in-Ok-clause-found = tries.lastly-returns-in-Ok-clause-found

pub tries::lastly-returns-in-Err-clause-later : goal.tries::lastly-returns-in-Err-clause-later
tries::lastly-returns-in-Err-clause-later = tries.lastly-returns-in-Err-clause-later

pub tries::lastly-returns-in-Err-clause-found : goal.tries::lastly-returns-in-Err-clause-found
tries::lastly-returns-in-Err-clause-found = tries.lastly-returns-in-Err-clause-found

pub tries::lastly-returns-in-Err-clause-does : goal.tries::lastly-returns-in-Err-clause-does
tries::lastly-returns-in-Err-clause-does = tries.lastly-returns-in-Err-clause-does

-- ---- `news`

pub news::new_object-new_function-requires : goal.news::new_object-new_function-requires
news::new_object-new_function-requires = news.new_object-new_function-requires

pub news::new_object-returns-in-Object-clause-later : goal.news::new_object-returns-in-Object-clause-later
news::new_object-returns-in-Object-clause-later = news.new_object-returns-in-Object-clause-later

pub news::new_object-returns-in-Object-clause-does : goal.news::new_object-returns-in-Object-clause-does
news::new_object-returns-in-Object-clause-does = news.new_object-returns-in-Object-clause-does

pub news::new_object-returns-in_default-clause-later : goal.news::new_object-returns-in_default-clause-later
news::new_object-returns-in_default-clause-later = news.new_object-returns-in_default-clause-later

pub news::new_object-returns-in_default-clause-found : goal.news::new_object-returns-in_default-clause-found
news::new_object-returns-in_default-clause-found = news.new_object-returns-in_default-clause-found

pub news::new_object-returns-in_default-clause-does : goal.news::new_object-returns-in_default-clause-does
news::new_object-returns-in_default-clause-does = news.new_object-returns-in_default-clause-does

-- ---- `calls`

pub calls::target_called-peek_value_of-requires : goal.calls::target_called-peek_value_of-requires
calls::target_called-peek_value_of-requires = calls.target_called-peek_value_of-requires

pub calls::target_called-evaluate_arguments-requires : goal.calls::target_called-evaluate_arguments-requires
calls::target_called-evaluate_arguments-requires = calls.target_called-evaluate_arguments-requires

pub calls::target_called-callee_read-requires : goal.calls::target_called-callee_read-requires
calls::target_called-callee_read-requires = calls.target_called-callee_read-requires

pub calls::target_called-returns-in-Some-Object-clause-later : goal.calls::target_called-returns-in-Some-Object-clause-later
calls::target_called-returns-in-Some-Object-clause-later = calls.target_called-returns-in-Some-Object-clause-later

pub calls::target_called-returns-in-Some-Object-clause-does : goal.calls::target_called-returns-in-Some-Object-clause-does
calls::target_called-returns-in-Some-Object-clause-does = calls.target_called-returns-in-Some-Object-clause-does

pub calls::target_called-returns-in_default-clause-later : goal.calls::target_called-returns-in_default-clause-later
calls::target_called-returns-in_default-clause-later = calls.target_called-returns-in_default-clause-later

pub calls::target_called-returns-in_default-clause-does : goal.calls::target_called-returns-in_default-clause-does
calls::target_called-returns-in_default-clause-does = calls.target_called-returns-in_default-clause-does

-- ---- `calls`

pub calls::target_called-base_of-this-requires : goal.calls::target_called-base_of-this-requires
calls::target_called-base_of-this-requires = calls.target_called-base_of-this-requires
