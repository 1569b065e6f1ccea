use Rattle.std.proofs.Common.{◌≡◌, ◌+◌, ◌∙◌, ℕ, Some, ap, length, drop, get_or, arith}
use Rattle.std.specs.Prelude.{List, slice_get}
use Rattle.std.proofs.lemmas.Option.{slice_get-get_or}
use Rattle.wjs_base.specs.declared.ids.NodeId.{NodeId}
use Rattle.wjs_step_common.specs.Lists.{statements_of_clauses}
use Rattle.wjs_blocks.proofs.Cases.{statements_passed}
use Rattle.wjs_blocks.proofs.clauses.statements_before.Goals as goal

pub loop-at-preserved : goal.loop-at-preserved
loop-at-preserved c =
    let clause = get_or c.args.clauses.now c.loop-at.at c.index-clauses-at.result in
    let cs = c.args.clauses.now in
    let i = c.loop-at.at in
    let there : slice_get cs i ≡ Some clause = slice_get-get_or cs i c.index-clauses-at.result c.loop-at-test.true in
    let sum : c.in_ok-before.before ≡ c.loop-at.before + length clause.body = c.in_ok-before.ensures ∙ ap (λ (l : List NodeId). c.loop-at.before + length l) c.as_slice.ensures in
    record {
      reached = omega arith;
      behind = ap (λ (n : ℕ). drop n (statements_of_clauses cs)) sum ∙ statements_passed cs i clause there c.loop-at.before c.loop-at.invariant.behind;
    }
