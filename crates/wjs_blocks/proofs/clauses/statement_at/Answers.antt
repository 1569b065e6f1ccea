use Rattle.std.proofs.Common.{◌≡◌, ◌<◌, ◌≤◌, ◌∙◌, Some, refl, sym, ap, length, drop, ◌+◌, ◌-◌, get_or, arith}
use Rattle.std.specs.Prelude.{List, slice_get}
use Rattle.std.proofs.lemmas.Option.{slice_get_read}
use Rattle.wjs_base.specs.declared.ids.NodeId.{NodeId}
use Rattle.wjs_step_common.specs.Lists.{statements_of_clauses}
use Rattle.wjs_blocks.proofs.Cases.{statement_here, statement_behind}
use Rattle.wjs_blocks.proofs.clauses.statement_at.Goals as goal

pub returns-then-left-statements : goal.returns-then-left-statements
returns-then-left-statements c =
    let clause = c.clause-item.result in
    let cs = c.args.clauses.now in
    let i = c.loop-clause.clause-index in
    let left = c.loop-clause.left in
    let none : NodeId = record { 0 = 0 } in
    let there : slice_get cs i ≡ Some clause = slice_get_read cs (length cs) i clause refl c.loop-clause-test.true c.clause-item.is in
    let lt : left < length clause.body = omega (arith, ap length c.as_slice-statements.ensures) in
    ap (λ (l : List NodeId). Some (get_or l left none)) c.as_slice-statements.ensures
    ∙ sym (statement_here cs i clause there left none lt)
    ∙ c.loop-clause.invariant

pub loop-clause-preserved : goal.loop-clause-preserved
loop-clause-preserved c =
    let clause = c.clause-item.result in
    let cs = c.args.clauses.now in
    let i = c.loop-clause.clause-index in
    let left = c.loop-clause.left in
    let there : slice_get cs i ≡ Some clause = slice_get_read cs (length cs) i clause refl c.loop-clause-test.true c.clause-item.is in
    let past : length clause.body ≤ left = omega (arith, ap length c.as_slice-statements.ensures) in
    ap (λ (l : List NodeId). slice_get (statements_of_clauses (drop (i + 1) cs)) (left - length l)) c.as_slice-statements.ensures
    ∙ sym (statement_behind cs i clause there left past)
    ∙ c.loop-clause.invariant
