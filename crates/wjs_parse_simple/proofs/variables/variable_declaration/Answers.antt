use Rattle.std.proofs.Common.{◌+◌, ◌<◌, length, arith, rules}
use Rattle.wjs_tree.specs.declared.tokens.Token.TheVariants as tokens
use Rattle.wjs_tree.specs.declared.signs.Sign.TheVariants as signs
use Rattle.wjs_parse_expr.specs.Answers.{from}
use Rattle.wjs_parse_expr.proofs.Readings.{token_within}
use Rattle.wjs_parse_simple.proofs.Declaring.{bare_variable, value_variable, value_missing}
use Rattle.wjs_parse_simple.proofs.Making.{expr_found, absent, present}
use Rattle.wjs_parse_expr.proofs.Places.{behind}
use Rattle.wjs_parse_simple.proofs.variables.variable_declaration.Goals as goal

pub returns-then-not-has_sign-clause-answer : goal.returns-then-not-has_sign-clause-answer
returns-then-not-has_sign-clause-answer c =
    bare_variable c.args.toks.now c.args.no_in c.args.room c.args.at c.args.nodes.now c.in-Some.name c.in-Some.ensures (λ h. absurd (let a = c.has_sign.ensures.1 h in let b = c.if-not-has_sign.true in cc))

pub overflow_add-at-2 : goal.overflow_add-at-2
overflow_add-at-2 c =
    let h : c.args.at + 1 < length c.args.toks.now = token_within c.args.toks.now (c.args.at + 1) (tokens.Sign signs.Assign) (c.has_sign.ensures.0 c.if-not-has_sign.false) in search rules

pub returns-in_default-2-clause-answer : goal.returns-in_default-2-clause-answer
returns-in_default-2-clause-answer c =
    let f = rw c.in_default-2.is at c.in_ok-value.ensures.answer in
    value_missing c.args.toks.now c.args.no_in c.args.room c.args.at (c.has_sign.ensures.0 c.if-not-has_sign.false) f

pub returns-clause-answer : goal.returns-clause-answer
returns-clause-answer c =
    let f = rw c.in-Some-2.is at c.in_ok-value.ensures.answer in
    value_variable (from c.args.toks.now c.args.functions.now c.args.nodes.now (c.args.at + 2)) c.args.toks.now c.args.no_in c.args.room c.args.at c.assignment_expression.new.nodes c.in-Some.name c.in-Some-2.value c.ends_in_update.result c.in-Some.ensures (c.has_sign.ensures.0 c.if-not-has_sign.false) f c.ends_in_update.ensures

pub returns-then-not-has_sign-clause-own : goal.returns-then-not-has_sign-clause-own
returns-then-not-has_sign-clause-own c =
    absent c.args.functions.now c.args.nodes.now c.args.at (c.args.at + 1) (omega arith)

pub returns-clause-own : goal.returns-clause-own
returns-clause-own c =
    let f = rw c.in-Some-2.is at c.in_ok-value.ensures.answer in
    let e = rw c.in-Some-2.is at c.in_ok-value.ensures.ends in
    let e0 = e.0 in
    let g = expr_found c.args.toks.now c.args.functions.now c.args.nodes.now c.assignment_expression.new.nodes (c.args.at + 2) 1 c.args.no_in c.args.room c.in-Some-2.value f c.in_ok-value.ensures.keeps (omega arith) in
    present c.args.functions.now c.args.nodes.now c.assignment_expression.new.nodes (c.args.at + 2) c.args.at c.in-Some-2.value.next c.in-Some-2.value.next c.in-Some-2.value.node (omega arith) (omega arith) g

pub assignment_expression-requires-clause-may_begin : goal.assignment_expression-requires-clause-may_begin
assignment_expression-requires-clause-may_begin c = behind c.args.toks.now (c.args.at + 1) (c.args.at + 2) (tokens.Sign signs.Assign) (omega arith) (c.has_sign.ensures.0 c.if-not-has_sign.false) (λ e. cc)
