use Rattle.std.proofs.Common.{false, arith}
use Rattle.wjs_parse_simple.proofs.Making.{expr_found}
use Rattle.wjs_parse_simple.proofs.values.expression_up_to.Goals as goal

pub returns-clause-own : goal.returns-clause-own
returns-clause-own c =
    let f = rw c.in-Some.is at c.in_ok-value.ensures.answer in
    let e = rw c.in-Some.is at c.in_ok-value.ensures.ends in
    let e0 = e.0 in
    expr_found c.args.toks.now c.args.functions.now c.args.nodes.now c.comma_expression.new.nodes c.args.at 0 false c.args.room c.in-Some.value f c.in_ok-value.ensures.keeps (omega arith)
