use Rattle.wjs_tree.specs.declared.operators.BinaryOperator.TheVariants as binary
use Rattle.wjs_by_content.specs.Tables.{value_in}
use Rattle.wjs_meaning.specs.Deeds.{AtExpr}
use Rattle.wjs_meaning.specs.Expressions as line
use Rattle.wjs_heap_steps.proofs.Peeking.{if_some}
use Rattle.wjs_quick.proofs.Coming.{yields_then, yields_ended}
use Rattle.wjs_effects.specs.Making.{made_in}
use Rattle.wjs_effects.proofs.makes.sum_of_values.Goals as goal

pub returns-clause-does : goal.returns-clause-does
returns-clause-does g c =
    let m = g.S.WorldStore.meaning in
    let now = c.args.config.now in
    let f = c.args.frame.now in
    let left = c.args.terms.left in
    let right = c.args.terms.right in
    let one = c.in_ok-first.first in
    let two = c.in_ok-second.second in
    let before = c.args.steps.now in
    let mid = c.value_at.new.steps in
    let last = c.value_at-2.new.steps in
    if_some _ _ c.of_values.result (λ v ends. yields_then m now f (AtExpr left.0) (λ t env. line.binary_left binary.Add right.0 env) (λ t. value_in t one) (λ t. made_in t v) before mid last c.in_ok-first.ensures.does
    (yields_then m now f (AtExpr right.0) (λ t env. line.binary_right binary.Add (value_in t one) env) (λ t. value_in t two) (λ t. made_in t v) mid last last c.in_ok-second.ensures.does
    (yields_ended m now f (λ t env. line.binary_right binary.Add (value_in t one) env (value_in t two)) (λ t. made_in t v) last ends))) c.of_values.ensures.ends
