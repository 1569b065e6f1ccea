use Rattle.std.proofs.Common.{false, arith}
use Rattle.wjs_parse_expr.specs.Answers.{from}
use Rattle.wjs_tree.specs.Ends.{InExpr}
use Rattle.wjs_parse_simple.proofs.Expressions.{value_found, value_open}
use Rattle.wjs_parse_simple.proofs.Bounds.{ends_within}
use Rattle.wjs_parse_simple.proofs.Making.{expr_found, expr_wide}
use Rattle.wjs_parse_simple.proofs.values.expression_and_end.Goals as goal

pub returns-in_default-end_at-clause-answer : goal.returns-in_default-end_at-clause-answer
returns-in_default-end_at-clause-answer c =
    let f = rw c.in-Some.is at c.in_ok-value.ensures.answer in
    value_open (from c.args.toks.now c.args.functions.now c.args.nodes.now c.args.at) c.args.toks.now c.args.room c.args.at c.comma_expression.new.nodes c.in-Some.value f c.ends_in_update.result c.ends_in_update.ensures c.in_default-end_at.ensures

pub returns-clause-ends : goal.returns-clause-ends
returns-clause-ends c =
    let e = rw c.in-Some.is at c.in_ok-value.ensures.ends in
    let w = ends_within c.args.toks.now (InExpr c.ends_in_update.result) c.in-Some-end_at.ended.end c.in-Some.value.next c.in-Some-end_at.ended.next e.1 c.in-Some-end_at.ensures in
    ((let x = e.0 in let y = w.0 in omega arith), w.1, e.2)

pub returns-clause-answer : goal.returns-clause-answer
returns-clause-answer c =
    let f = rw c.in-Some.is at c.in_ok-value.ensures.answer in
    value_found (from c.args.toks.now c.args.functions.now c.args.nodes.now c.args.at) c.args.toks.now c.args.room c.args.at c.comma_expression.new.nodes c.in-Some.value f c.ends_in_update.result c.in-Some-end_at.ended c.ends_in_update.ensures c.in-Some-end_at.ensures

pub returns-clause-own : goal.returns-clause-own
returns-clause-own c =
    let f = rw c.in-Some.is at c.in_ok-value.ensures.answer in
    let e = rw c.in-Some.is at c.in_ok-value.ensures.ends in
    let e0 = e.0 in
    let w = ends_within c.args.toks.now (InExpr c.ends_in_update.result) c.in-Some-end_at.ended.end c.in-Some.value.next c.in-Some-end_at.ended.next e.1 c.in-Some-end_at.ensures in
    let w0 = w.0 in
    let g = expr_found c.args.toks.now c.args.functions.now c.args.nodes.now c.comma_expression.new.nodes c.args.at 0 false c.args.room c.in-Some.value f c.in_ok-value.ensures.keeps (omega arith) in
    expr_wide c.args.functions.now c.args.nodes.now c.comma_expression.new.nodes c.args.at c.args.at c.in-Some.value.next c.in-Some-end_at.ended.next c.in-Some.value.node (omega arith) (omega arith) g
