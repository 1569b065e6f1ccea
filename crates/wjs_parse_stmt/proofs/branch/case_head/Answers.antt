use Rattle.std.proofs.Common.{◌+◌, ◌<◌, length, arith, rules}
use Rattle.wjs_tree.specs.declared.tokens.Token.TheVariants as tokens
use Rattle.wjs_tree.specs.declared.keys.Key.TheVariants as keys
use Rattle.wjs_parse_expr.proofs.Readings.{token_within}
use Rattle.wjs_parse_stmt.proofs.Arms.{default_found, case_found}
use Rattle.wjs_parse_simple.proofs.Making.{absent, present}
use Rattle.wjs_parse_expr.proofs.Places.{behind_key}
use Rattle.wjs_parse_stmt.proofs.branch.case_head.Goals as goal

pub returns-then-has_key-clause-answer : goal.returns-then-has_key-clause-answer
returns-then-has_key-clause-answer c = default_found c.args.toks.now c.args.room c.args.at c.args.nodes.now (c.has_key.ensures.0 c.if-has_key.true) (c.has_sign.ensures.0 c.if-not-has_sign.false)

pub overflow_add-at-2 : goal.overflow_add-at-2
overflow_add-at-2 c =
    let h : c.args.at < length c.args.toks.now = token_within c.args.toks.now c.args.at (tokens.Key keys.Case) (c.has_key-2.ensures.0 c.if-not-has_key.false) in search rules

pub returns-clause-answer : goal.returns-clause-answer
returns-clause-answer c =
    let f = rw c.in-Some.is at c.in_ok-value.ensures.answer in
    case_found c.args.toks.now c.args.room c.args.at c.expression_up_to.new.nodes c.in-Some.value (c.has_key-2.ensures.0 c.if-not-has_key.false) f

pub returns-then-has_key-clause-own : goal.returns-then-has_key-clause-own
returns-then-has_key-clause-own c =
    absent c.args.functions.now c.args.nodes.now c.args.at (c.args.at + 2) (omega arith)

pub returns-clause-own : goal.returns-clause-own
returns-clause-own c =
    let f = rw c.in-Some.is at c.in_ok-value.ensures.own in
    present c.args.functions.now c.args.nodes.now c.expression_up_to.new.nodes (c.args.at + 1) c.args.at c.in-Some.value.next (c.in-Some.value.next + 1) c.in-Some.value.node (omega arith) (omega arith) f

pub expression_up_to-requires-clause-may_begin : goal.expression_up_to-requires-clause-may_begin
expression_up_to-requires-clause-may_begin c = behind_key c.args.toks.now c.args.at keys.Case (c.has_key-2.ensures.0 c.if-not-has_key.false)
