use Rattle.std.proofs.Common.{◌<◌, arith}
use Rattle.wjs_tree.specs.declared.operators.BinaryOperator.TheVariants as binary
use Rattle.wjs_by_content.specs.Tables.{value_in}
use Rattle.wjs_meaning.specs.Deeds.{AtExpr}
use Rattle.wjs_meaning.specs.Expressions as line
use Rattle.wjs_heap_steps.proofs.Peeking.{if_some}
use Rattle.wjs_quick.proofs.Coming.{yields_then, yields_ended}
use Rattle.wjs_effects.specs.Making.{made_in}
use Rattle.wjs_effects.proofs.Summing.{sum_entered}
use Rattle.wjs_effects.proofs.makes.+making.Goals as goal

pub sum-returns-in-Some-clause-does : goal.sum-returns-in-Some-clause-does
sum-returns-in-Some-clause-does g t c =
    let some : 0 < c.args.steps.now = omega (arith, c.if-steps-eq0.false) in
    if_some _ _ c.sum_behind.result (λ m d. sum_entered g.S.WorldStore.meaning c.args.config.now c.args.frame.now c.args.node c.args.terms.left c.args.terms.right (λ t. made_in t m) c.args.steps.now c.sum_behind.new.steps c.requires.terms some d) c.sum_behind.ensures.does

pub sum-returns-in-None-clause-does : goal.sum-returns-in-None-clause-does
sum-returns-in-None-clause-does g t c =
    let some : 0 < c.args.steps.now = omega (arith, c.if-steps-eq0.false) in
    if_some _ _ c.sum_of_values.result (λ m d. sum_entered g.S.WorldStore.meaning c.args.config.now c.args.frame.now c.args.node c.args.terms.left c.args.terms.right (λ t. made_in t m) c.args.steps.now c.sum_of_values.new.steps c.requires.terms some d) c.sum_of_values.ensures.does

pub sum_behind-returns-clause-does : goal.sum_behind-returns-clause-does
sum_behind-returns-clause-does g t c =
    let m = g.S.WorldStore.meaning in
    let now = c.args.config.now in
    let f = c.args.frame.now in
    let left = c.args.terms.left in
    let right = c.args.terms.right in
    let one = c.in_ok-first.first in
    let two = c.in_ok-second.second in
    let before = c.args.steps.now in
    let mid = c.sum.new.steps in
    let last = c.value_at.new.steps in
    if_some _ _ c.added.result (λ v ends. yields_then m now f (AtExpr left.0) (λ t env. line.binary_left binary.Add right.0 env) (λ t. made_in t one) (λ t. made_in t v) before mid last c.in_ok-first.ensures.does
    (yields_then m now f (AtExpr right.0) (λ t env. line.binary_right binary.Add (made_in t one) env) (λ t. value_in t two) (λ t. made_in t v) mid last last c.in_ok-second.ensures.does
    (yields_ended m now f (λ t env. line.binary_right binary.Add (made_in t one) env (value_in t two)) (λ t. made_in t v) last ends))) c.added.ensures.ends
