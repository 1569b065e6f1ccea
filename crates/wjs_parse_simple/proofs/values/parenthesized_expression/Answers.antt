use Rattle.std.proofs.Common.{◌+◌, arith}
use Rattle.wjs_parse_simple.proofs.Making.{expr_wide}
use Rattle.wjs_tree.specs.declared.signs.Sign.TheVariants as signs
use Rattle.wjs_parse_expr.proofs.Places.{behind_sign}
use Rattle.wjs_parse_simple.proofs.values.parenthesized_expression.Goals as goal

pub returns-clause-own : goal.returns-clause-own
returns-clause-own c =
    let f = rw c.in-Some.is at c.in_ok-value.ensures.own in
    expr_wide c.args.functions.now c.args.nodes.now c.expression_up_to.new.nodes (c.args.at + 1) c.args.at c.in-Some.value.next (c.in-Some.value.next + 1) c.in-Some.value.node (omega arith) (omega arith) f

pub expression_up_to-requires-clause-may_begin : goal.expression_up_to-requires-clause-may_begin
expression_up_to-requires-clause-may_begin c = behind_sign c.args.toks.now c.args.at signs.OpenParen (c.has_sign.ensures.0 c.if-not-has_sign.false) (λ e. cc)
