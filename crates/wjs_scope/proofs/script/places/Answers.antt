use Rattle.std.proofs.Common.{subst, List, Option, ℕ}
use Rattle.std.proofs.lemmas.Result.{IfOk-weaker}
use Rattle.wjs_scope.specs.declared.levels.Level.{Level}
use Rattle.wjs_scope.specs.Places.{KeepsPlaces}
use Rattle.wjs_scope.proofs.Placing.{are_places}
use Rattle.wjs_scope.proofs.script.places.Goals as goal

pub returns : goal.returns
returns c =
    let ns = c.args.program.now.nodes in
    let body = c.args.program.now.body in
    let marks = c.in_ok-nesting.nesting.marks.items in
    let levels = c.in_ok-nesting.nesting.levels.items in
    IfOk-weaker c.rows.result _ _
    (λ rows kept. are_places ns c.args.arguments body marks levels rows c.in_ok-nesting.ensures
    (subst (λ (z : List Level). KeepsPlaces ns marks z rows) c.as_slice-2.ensures.value (subst (λ (z : List (Option ℕ)). KeepsPlaces ns z c.as_slice-2.result.now rows) c.as_slice.ensures.value kept)))
    c.rows.ensures
