use Rattle.wjs_parse_simple.proofs.Expressions.{maybe_absent, maybe_present, maybe_none}
use Rattle.std.proofs.Common.{arith}
use Rattle.wjs_parse_simple.proofs.Making.{absent, present}
use Rattle.wjs_parse_simple.proofs.values.optional_expression.Goals as goal

pub returns-then-has_sign-clause-answer : goal.returns-then-has_sign-clause-answer
returns-then-has_sign-clause-answer c = maybe_absent c.args.toks.now c.args.sign c.args.room c.args.at c.args.nodes.now c.requires.begins (c.has_sign.ensures.0 c.if-has_sign.true)

pub returns-in_default-clause-answer : goal.returns-in_default-clause-answer
returns-in_default-clause-answer c =
    let f = rw c.in_default.is at c.in_ok-value.ensures.answer in
    maybe_none c.args.toks.now c.args.sign c.args.room c.args.at (λ h. absurd (let a = c.has_sign.ensures.1 h in let b = c.if-has_sign.false in cc)) f

pub returns-clause-answer : goal.returns-clause-answer
returns-clause-answer c =
    let f = rw c.in-Some.is at c.in_ok-value.ensures.answer in
    maybe_present c.args.toks.now c.args.sign c.args.room c.args.at c.expression_up_to.new.nodes c.in-Some.value (λ h. absurd (let a = c.has_sign.ensures.1 h in let b = c.if-has_sign.false in cc)) f

pub returns-then-has_sign-clause-own : goal.returns-then-has_sign-clause-own
returns-then-has_sign-clause-own c =
    absent c.args.functions.now c.args.nodes.now c.args.at c.args.at (omega arith)

pub returns-clause-own : goal.returns-clause-own
returns-clause-own c =
    let f = rw c.in-Some.is at c.in_ok-value.ensures.own in
    present c.args.functions.now c.args.nodes.now c.expression_up_to.new.nodes c.args.at c.args.at c.in-Some.value.next c.in-Some.value.next c.in-Some.value.node (omega arith) (omega arith) f
