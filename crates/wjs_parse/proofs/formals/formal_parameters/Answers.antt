use Rattle.std.proofs.Common.{◌+◌, arith, refl, ◌∙◌}
use Rattle.wjs_tree.specs.declared.tokens.Token.TheVariants as tokens
use Rattle.wjs_parse_expr.proofs.Readings.{token_within}
use Rattle.wjs_parse.proofs.Naming.{naming_empty, naming_start, naming_none, naming_more, naming_end}
use Rattle.wjs_parse.proofs.formals.formal_parameters.Goals as goal

pub returns-in_default-clause-answer : goal.returns-in_default-clause-answer
returns-in_default-clause-answer c = naming_empty c.args.toks.now c.args.at (rw c.in_default.is at c.word_at.ensures) _ (c.from_vec.ensures ∙ c.new-list.ensures.items) refl

pub loop-more-init : goal.loop-more-init
loop-more-init c =
    let w = token_within c.args.toks.now c.args.at (tokens.Word c.in-Some.first) (rw c.in-Some.is at c.word_at.ensures) in
    (naming_start c.args.toks.now c.args.at c.in-Some.first c.new-list.result.items c.push_last.new.list.items (rw c.in-Some.is at c.word_at.ensures) c.new-list.ensures.items c.in_ok-push_last.ensures.ok, omega arith, omega arith)

pub returns-in_default-word_at-clause-answer : goal.returns-in_default-word_at-clause-answer
returns-in_default-word_at-clause-answer c =
    naming_none c.args.toks.now c.args.at c.loop-more.list.items c.loop-more.place c.loop-more.invariant.0 (c.has_sign.ensures.0 c.loop-more-test.true) (rw c.in_default-word_at.is at c.word_at-in-loop-more.ensures)

pub loop-more-preserved : goal.loop-more-preserved
loop-more-preserved c =
    let h = rw c.in-Some-word_at.is at c.word_at-in-loop-more.ensures in
    let w = token_within c.args.toks.now (c.loop-more.place + 1) (tokens.Word c.in-Some-word_at.more) h in
    let i = c.loop-more.invariant.1 in
    (naming_more c.args.toks.now c.args.at c.loop-more.list.items c.loop-more.place c.loop-more.invariant.0 (c.has_sign.ensures.0 c.loop-more-test.true) c.in-Some-word_at.more c.push_last-in-loop-more.new.list.items h c.in_ok-push_last-2.ensures.ok, omega arith, omega arith)

pub loop-more-smaller : goal.loop-more-smaller
loop-more-smaller c =
    let w = token_within c.args.toks.now (c.loop-more.place + 1) (tokens.Word c.in-Some-word_at.more) (rw c.in-Some-word_at.is at c.word_at-in-loop-more.ensures) in
    omega arith

pub returns-clause-answer : goal.returns-clause-answer
returns-clause-answer c =
    naming_end c.args.toks.now c.args.at c.loop-more.list.items c.loop-more.place c.loop-more.invariant.0 (λ h. absurd (let a = c.has_sign.ensures.1 h in let b = c.loop-more-test.false in cc)) _ c.from_vec-2.ensures refl
