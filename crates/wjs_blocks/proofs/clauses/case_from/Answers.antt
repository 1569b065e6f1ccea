use Rattle.std.proofs.Common.{◌≡◌, ◌≤◌, ◌∙◌, Some, refl, length, get_or, arith}
use Rattle.std.specs.Prelude.{slice_get}
use Rattle.std.proofs.lemmas.Option.{slice_get-get_or, slice_get_past}
use Rattle.wjs_blocks.proofs.Cases.{case_found, case_passed, case_none}
use Rattle.wjs_blocks.proofs.clauses.case_from.Goals as goal

pub returns-in-Some-clause-goes : goal.returns-in-Some-clause-goes
returns-in-Some-clause-goes c = λ t v env.
    let clause = get_or c.args.clauses.now c.loop-at.at c.index-clauses-at.result in
    let there : slice_get c.args.clauses.now c.loop-at.at ≡ Some clause = slice_get-get_or c.args.clauses.now c.loop-at.at c.index-clauses-at.result c.loop-at-test.true in
    c.loop-at.invariant.none t v env ∙ case_found t c.args.clauses.now c.loop-at.at v env clause c.in-Some.test there c.in-Some.is

pub loop-at-init : goal.loop-at-init
loop-at-init c = record {
  reached = omega arith;
  none = λ t v env. refl;
}

pub returns-in-Some-clause-past : goal.returns-in-Some-clause-past
returns-in-Some-clause-past c = c.loop-at.invariant.reached

pub loop-at-preserved : goal.loop-at-preserved
loop-at-preserved c =
    let clause = get_or c.args.clauses.now c.loop-at.at c.index-clauses-at.result in
    let there : slice_get c.args.clauses.now c.loop-at.at ≡ Some clause = slice_get-get_or c.args.clauses.now c.loop-at.at c.index-clauses-at.result c.loop-at-test.true in
    let reached : c.args.from ≤ c.loop-at.at = c.loop-at.invariant.reached in
    record {
      reached = omega (arith, reached);
      none = λ t v env. c.loop-at.invariant.none t v env ∙ case_passed t c.args.clauses.now c.loop-at.at v env clause there c.in_default.is;
    }

pub returns-clause-goes : goal.returns-clause-goes
returns-clause-goes c = λ t v env.
    let past : length c.args.clauses.now ≤ c.loop-at.at = omega arith in
    c.loop-at.invariant.none t v env ∙ case_none t c.args.clauses.now c.loop-at.at v env (slice_get_past c.args.clauses.now c.loop-at.at past)
