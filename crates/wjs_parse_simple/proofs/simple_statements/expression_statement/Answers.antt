use Rattle.std.proofs.Common.{arith}
use Rattle.wjs_parse_simple.proofs.Forms.{told_no_function}
use Rattle.wjs_parse_simple.proofs.Simple.{plain_found, plain_none}
use Rattle.wjs_parse_simple.proofs.Making.{expr_stmt_made}
use Rattle.wjs_parse_expr.proofs.Places.{no_function}
use Rattle.wjs_parse_simple.proofs.simple_statements.expression_statement.Goals as goal

pub returns-in_default-clause-answer : goal.returns-in_default-clause-answer
returns-in_default-clause-answer c =
    let f = rw c.in_default.is at c.in_ok-value.ensures.answer in
    plain_none c.args.toks.now c.args.room c.args.at c.requires.kind f

pub returns-clause-ends : goal.returns-clause-ends
returns-clause-ends c =
    let e = rw c.in-Some.is at c.in_ok-value.ensures.ends in
    let x = e.0 in
    let y = e.1 in
    let k = c.in_ok-node.ensures.ok in
    let n = c.in_ok-node.ensures.longer in
    (omega arith, omega arith, omega arith)

pub returns-clause-answer : goal.returns-clause-answer
returns-clause-answer c =
    let f = rw c.in-Some.is at c.in_ok-value.ensures.answer in
    plain_found c.args.toks.now c.args.room c.args.at c.expression_and_end.new.nodes c.add.new.self c.in-Some.value c.in_ok-node.node c.requires.below c.requires.kind f c.in_ok-node.ensures.keeps c.in_ok-node.ensures.has

pub returns-clause-own : goal.returns-clause-own
returns-clause-own c =
    let f = rw c.in-Some.is at c.in_ok-value.ensures.own in
    expr_stmt_made c.args.toks.now c.args.functions.now c.args.at c.args.room c.args.nodes.now c.requires.held c.expression_and_end.new.nodes c.add.new.self c.args.at c.args.at c.in-Some.value.next c.in-Some.value.next c.in_ok-node.node (omega arith) (omega arith) c.in-Some.value.node c.in-Some.value.end f (record { has = c.in_ok-node.ensures.has; is = c.in_ok-node.ensures.ok; keeps = c.in_ok-node.ensures.keeps })

pub expression_and_end-requires-clause-may_begin : goal.expression_and_end-requires-clause-may_begin
expression_and_end-requires-clause-may_begin c = no_function c.args.toks.now c.args.at (told_no_function c.args.toks.now c.args.at c.requires.kind)
