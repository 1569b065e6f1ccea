use Rattle.std.proofs.Common.{◌≡◌, ℕ, ◌≤◌, ◌∙◌, Some, ap, length, drop, get_or, arith}
use Rattle.std.specs.Prelude.{map, slice_get}
use Rattle.std.proofs.lemmas.Option.{slice_get-get_or, slice_get_past}
use Rattle.wjs_meaning.specs.Reading.{clause_in}
use Rattle.wjs_blocks.proofs.Cases.{default_here, default_passed, default_none}
use Rattle.wjs_blocks.proofs.clauses.default_of.Goals as goal

pub returns-in-None : goal.returns-in-None
returns-in-None c = λ t.
    let clause = get_or c.args.clauses.now c.loop-at.at c.index-clauses-at.result in
    let there : slice_get c.args.clauses.now c.loop-at.at ≡ Some clause = slice_get-get_or c.args.clauses.now c.loop-at.at c.index-clauses-at.result c.loop-at-test.true in
    c.loop-at.invariant t ∙ default_here t c.args.clauses.now c.loop-at.at clause there c.in-None.is

pub loop-at-preserved : goal.loop-at-preserved
loop-at-preserved c = λ t.
    let clause = get_or c.args.clauses.now c.loop-at.at c.index-clauses-at.result in
    let there : slice_get c.args.clauses.now c.loop-at.at ≡ Some clause = slice_get-get_or c.args.clauses.now c.loop-at.at c.index-clauses-at.result c.loop-at-test.true in
    c.loop-at.invariant t ∙ default_passed t c.args.clauses.now c.loop-at.at clause c.in-Some.field-0 there c.in-Some.is

pub returns : goal.returns
returns c = λ t.
    let past : length c.args.clauses.now ≤ c.loop-at.at = omega arith in
    let end : c.loop-at.at ≡ length c.args.clauses.now = omega arith in
    c.loop-at.invariant t
    ∙ default_none t c.args.clauses.now c.loop-at.at (slice_get_past c.args.clauses.now c.loop-at.at past)
    ∙ ap (λ (i : ℕ). drop i (map (clause_in t) c.args.clauses.now)) end
