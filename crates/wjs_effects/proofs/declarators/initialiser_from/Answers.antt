use Rattle.std.proofs.Common.{◌≤◌, ◌∙◌, length, arith}
use Rattle.wjs_effects.proofs.Declared.{variable_found, variable_passed, variable_none}
use Rattle.wjs_effects.proofs.declarators.initialiser_from.Goals as goal

pub returns-in-Some-clause-goes : goal.returns-in-Some-clause-goes
returns-in-Some-clause-goes c = λ t here env. c.loop-at.invariant t here env ∙ variable_found t here env c.args.declarators.now c.loop-at.at _ c.in-Some.value c.loop-at-test.true c.in-Some.is

pub loop-at-preserved : goal.loop-at-preserved
loop-at-preserved c = λ t here env. c.loop-at.invariant t here env ∙ variable_passed t here env c.args.declarators.now c.loop-at.at _ c.loop-at-test.true c.in_default.is

pub returns-clause-goes : goal.returns-clause-goes
returns-clause-goes c = λ t here env.
    let past : length c.args.declarators.now ≤ c.loop-at.at = omega arith in
    c.loop-at.invariant t here env ∙ variable_none t here env c.args.declarators.now c.loop-at.at past
