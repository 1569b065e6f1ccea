use Rattle.std.proofs.Common.{arith, refl}
use Rattle.wjs_tree.specs.declared.tokens.Token.TheVariants as tokens
use Rattle.wjs_tree.specs.declared.keys.Key.TheVariants as keys
use Rattle.wjs_parse_expr.proofs.Readings.{token_within}
use Rattle.wjs_parse.proofs.Naming.{header_keyless, header_unopened, header_formless, header_unclosed, header_bodiless, header_found}
use Rattle.wjs_parse.proofs.formals.function_header.Goals as goal

pub returns-then-not-has_key-clause-answer : goal.returns-then-not-has_key-clause-answer
returns-then-not-has_key-clause-answer c = header_keyless c.args.toks.now c.args.at (λ h. absurd (let a = c.has_key.ensures.1 h in let b = c.if-not-has_key.true in cc))

pub name_at-name-requires : goal.name_at-name-requires
name_at-name-requires c = let w = token_within c.args.toks.now c.args.at (tokens.Key keys.Function) (c.has_key.ensures.0 c.if-not-has_key.false) in omega arith

pub returns-then-not-has_sign-clause-answer : goal.returns-then-not-has_sign-clause-answer
returns-then-not-has_sign-clause-answer c =
    header_unopened c.args.toks.now c.args.at (c.has_key.ensures.0 c.if-not-has_key.false) c.name_at-name.result.0 c.name_at-name.result.1 c.name_at-name.ensures.answer (λ h. absurd (let a = c.has_sign.ensures.1 h in let b = c.if-not-has_sign.true in cc))

pub returns-in_default-clause-answer : goal.returns-in_default-clause-answer
returns-in_default-clause-answer c =
    let g = rw c.in_default.is at c.in_ok-found.ensures.answer in
    header_formless c.args.toks.now c.args.at (c.has_key.ensures.0 c.if-not-has_key.false) c.name_at-name.result.0 c.name_at-name.result.1 c.name_at-name.ensures.answer g

pub returns-then-not-has_sign-2-clause-answer : goal.returns-then-not-has_sign-2-clause-answer
returns-then-not-has_sign-2-clause-answer c =
    let f = rw c.in-Some.is at c.in_ok-found.ensures.answer in
    header_unclosed c.args.toks.now c.args.at (c.has_key.ensures.0 c.if-not-has_key.false) c.name_at-name.result.0 c.name_at-name.result.1 c.name_at-name.ensures.answer c.in-Some.found f (λ h. absurd (let a = c.has_sign-2.ensures.1 h in let b = c.if-not-has_sign-2.true in cc))

pub returns-then-not-has_sign-3-clause-answer : goal.returns-then-not-has_sign-3-clause-answer
returns-then-not-has_sign-3-clause-answer c =
    let f = rw c.in-Some.is at c.in_ok-found.ensures.answer in
    header_bodiless c.args.toks.now c.args.at (c.has_key.ensures.0 c.if-not-has_key.false) c.name_at-name.result.0 c.name_at-name.result.1 c.name_at-name.ensures.answer c.in-Some.found f (λ h. absurd (let a = c.has_sign-3.ensures.1 h in let b = c.if-not-has_sign-3.true in cc))

pub returns-clause-ends : goal.returns-clause-ends
returns-clause-ends c =
    let e = rw c.in-Some.is at c.in_ok-found.ensures.ends in
    let n = c.name_at-name.ensures.ends in
    omega arith

pub returns-clause-answer : goal.returns-clause-answer
returns-clause-answer c =
    let f = rw c.in-Some.is at c.in_ok-found.ensures.answer in
    header_found c.args.toks.now c.args.at (c.has_key.ensures.0 c.if-not-has_key.false) c.name_at-name.result.0 c.name_at-name.result.1 c.name_at-name.ensures.answer c.in-Some.found f (c.has_sign.ensures.0 c.if-not-has_sign.false) (c.has_sign-2.ensures.0 c.if-not-has_sign-2.false) (c.has_sign-3.ensures.0 c.if-not-has_sign-3.false) _ refl refl refl
