use Rattle.std.proofs.Common.{◌≡◌, Option, sym, ap, ◌∙◌, subst}
use Rattle.std.specs.Prelude.{IfNone, IfSome}
use Rattle.wjs_base.specs.Text.{Table}
use Rattle.wjs_meaning.specs.Deeds.{Ret, AtExpr, then_value}
use Rattle.wjs_meaning.specs.Statements as line
use Rattle.wjs_model.specs.declared.frame.Completion.{Completion}
use Rattle.wjs_model.specs.Contents.{completion_in}
use Rattle.wjs_model.specs.Soundness.{HasCompletion}
use Rattle.wjs_effects.specs.Leaving.{GoalEnds}
use Rattle.wjs_effects.proofs.Leaving.{ends_through}
use Rattle.wjs_effects.proofs.Only.{dropped_is, dropped_there}
use Rattle.wjs_effects.proofs.carries.evaluate.Goals as goal

pub returns-in-Some-clause-does : goal.returns-in-Some-clause-does
returns-in-Some-clause-does g c =
    let m = g.S.WorldStore.meaning in
    let old = c.args.config.now in
    let f = c.args.frame.now in
    let new = c.expression_done.new.config in
    let D : Option Completion → Type 0 = λ o. IfSome o (λ e. GoalEnds m (AtExpr c.args.e.0) e old f c.args.left new) in
    let same : (t : Table) → then_value line.expr_done (completion_in t c.in-Some.completion) ≡ Ret (completion_in t c.dropped.result) = λ t. dropped_is t c.in-Some.completion ∙ ap (λ (e : Completion). Ret (completion_in t e)) (sym c.dropped.ensures) in
    ends_through m old f (AtExpr c.args.e.0) (then_value line.expr_done) c.in-Some.completion c.dropped.result c.args.left new same (subst D c.in-Some.is c.in_ok-done.ensures.does)

pub returns-in-Some-clause-found : goal.returns-in-Some-clause-found
returns-in-Some-clause-found g c =
    let new = c.expression_done.new.config in
    subst (λ (e : Completion). HasCompletion new e) (sym c.dropped.ensures)
    (dropped_there new c.in-Some.completion (subst (λ (o : Option Completion). IfSome o (λ e. HasCompletion new e)) c.in-Some.is c.in_ok-done.ensures.found))

pub returns-in-None-clause-same : goal.returns-in-None-clause-same
returns-in-None-clause-same g c =
    let old = c.args.config.now in
    let new = c.expression_done.new.config in
    subst (λ (o : Option Completion). IfNone o (new ≡ old)) c.in-None.is c.in_ok-done.ensures.same
