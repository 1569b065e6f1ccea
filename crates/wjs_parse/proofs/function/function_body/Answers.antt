use Rattle.std.proofs.Common.{◌+◌, true, arith, refl}
use Rattle.wjs_tree.specs.declared.tokens.Token.TheVariants as tokens
use Rattle.wjs_tree.specs.declared.signs.Sign.TheVariants as signs
use Rattle.wjs_tree.proofs.Kept.{keeps_self}
use Rattle.wjs_parse_expr.proofs.Readings.{token_within}
use Rattle.wjs_parse_expr.proofs.Entries.{held}
use Rattle.wjs_parse.proofs.Functions.{elements_there, jumps_of, body_none, body_open, body_astray, body_found}
use Rattle.wjs_parse.proofs.Making.{elements_wide}
use Rattle.wjs_parse.proofs.function.function_body.Goals as goal

pub source_elements-requires : goal.source_elements-requires
source_elements-requires c = record { held = held c.args.toks.now c.args.functions.now c.args.at c.args.at 200 199 c.args.nodes.now c.args.nodes.now c.requires.held (keeps_self _) (omega arith) (omega arith); may_begin = c.requires.may_begin }

pub returns-in_default-clause-answer : goal.returns-in_default-clause-answer
returns-in_default-clause-answer c =
    let g = rw c.in_default.is at c.in_ok-found.ensures.answer in
    body_none c.args.toks.now c.args.at g

pub returns-then-not-has_sign-clause-answer : goal.returns-then-not-has_sign-clause-answer
returns-then-not-has_sign-clause-answer c =
    let f = rw c.in-Some.is at c.in_ok-found.ensures.answer in
    body_open c.args.toks.now c.args.at c.source_elements.new.nodes c.in-Some.found f (λ h. absurd (let a = c.has_sign.ensures.1 h in let b = c.if-not-has_sign.true in cc))

pub jumps_are_right-requires : goal.jumps_are_right-requires
jumps_are_right-requires c =
    let f = rw c.in-Some.is at c.in_ok-found.ensures.answer in
    elements_there c.args.toks.now 199 c.args.at c.source_elements.new.nodes c.in-Some.found _ f (omega arith) c.as_slice.ensures

pub returns-then-not-jumps_are_right-clause-answer : goal.returns-then-not-jumps_are_right-clause-answer
returns-then-not-jumps_are_right-clause-answer c =
    let f = rw c.in-Some.is at c.in_ok-found.ensures.answer in
    let j = jumps_of c.args.toks.now 199 c.args.at c.source_elements.new.nodes c.in-Some.found _ true c.jumps_are_right.result f c.as_slice.ensures c.jumps_are_right.ensures in
    body_astray c.args.toks.now c.args.at c.source_elements.new.nodes c.in-Some.found f (λ h. absurd (let a = j.1 h in let b = c.if-not-jumps_are_right.true in cc))

pub returns-clause-ends : goal.returns-clause-ends
returns-clause-ends c =
    let e = rw c.in-Some.is at c.in_ok-found.ensures.ends in
    let x = e.0 in
    let w = token_within c.args.toks.now c.in-Some.found.next (tokens.Sign signs.CloseBrace) (c.has_sign.ensures.0 c.if-not-has_sign.false) in
    (omega arith, omega arith, e.1)

pub returns-clause-answer : goal.returns-clause-answer
returns-clause-answer c =
    let f = rw c.in-Some.is at c.in_ok-found.ensures.answer in
    let j = jumps_of c.args.toks.now 199 c.args.at c.source_elements.new.nodes c.in-Some.found _ true c.jumps_are_right.result f c.as_slice.ensures c.jumps_are_right.ensures in
    body_found c.args.toks.now c.args.at c.source_elements.new.nodes c.in-Some.found f (c.has_sign.ensures.0 c.if-not-has_sign.false) (j.0 (let b = c.if-not-jumps_are_right.false in cc)) _ refl refl

pub returns-clause-own : goal.returns-clause-own
returns-clause-own c =
    elements_wide c.args.functions.now c.args.nodes.now c.source_elements.new.nodes c.args.at c.args.at c.in-Some.found.next (c.in-Some.found.next + 1) c.in-Some.found.list (omega arith) (omega arith) (rw c.in-Some.is at c.in_ok-found.ensures.own)
