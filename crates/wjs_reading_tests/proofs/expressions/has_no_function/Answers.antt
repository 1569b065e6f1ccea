use Rattle.std.proofs.Common.{◌≡◌, ℕ, ◌<◌, length, ⊎_elim, subst, arith}
use Rattle.std.proofs.lemmas.Bool.{cases_lt}
use Rattle.wjs_tree.specs.declared.tokens.Token.TheVariants as tokens
use Rattle.wjs_tree.specs.declared.keys.Key.TheVariants as keys
use Rattle.wjs_tree.specs.Ends.{HasKey}
use Rattle.wjs_parse_expr.proofs.Readings.{token_within}
use Rattle.wjs_reading_tests.proofs.expressions.has_no_function.Goals as goal

pub loop-place-init : goal.loop-place-init
loop-place-init c = λ p h k. absurd (omega (arith, h))

pub loop-place-preserved : goal.loop-place-preserved
loop-place-preserved c = λ p h k. ⊎_elim (λ lt. c.loop-place.invariant p lt k) (λ ge. (let e : p ≡ c.loop-place.place = omega (arith, h, ge) in let a = c.has_key.ensures.1 (subst (λ (n : ℕ). HasKey c.args.toks.now n keys.Function) e k) in let b = c.if-has_key.false in absurd cc)) (cases_lt p c.loop-place.place)

pub returns : goal.returns
returns c = record { none = λ yes p k. (let w : p < length c.args.toks.now = token_within c.args.toks.now p (tokens.Key keys.Function) k in let t = c.loop-place-test.false in c.loop-place.invariant p (omega (arith, w, t)) k) }
