use Rattle.std.proofs.Common.{◌≡◌, Option, subst}
use Rattle.std.specs.Prelude.{IfNone, IfSome}
use Rattle.wjs_meaning.specs.Deeds.{Eval, AtStmt}
use Rattle.wjs_model.specs.declared.frame.Completion.{Completion}
use Rattle.wjs_model.specs.Contents.{completion_in}
use Rattle.wjs_model.specs.Soundness.{HasCompletion}
use Rattle.wjs_frames.specs.declared.part.Part.TheVariants as parts
use Rattle.wjs_frames.specs.Doing.{Does}
use Rattle.wjs_frames.specs.Parts.{env_in}
use Rattle.wjs_frames.proofs.Handling.{runs_later}
use Rattle.wjs_frames.proofs.Parting.{stands_later, point_later}
use Rattle.wjs_quick.proofs.Entering.{entered_slowly}
use Rattle.wjs_effects.proofs.Proceeding.{done_and_given}
use Rattle.wjs_effects.proofs.enters.enter_at_once.Goals as goal

-- it was done at once
pub go_on_with-requires-clause-runs : goal.go_on_with-requires-clause-runs
go_on_with-requires-clause-runs g c = runs_later _ _ _ _ c.requires.runs c.in_ok-done.ensures.later

pub go_on_with-requires-clause-point : goal.go_on_with-requires-clause-point
go_on_with-requires-clause-point g c = point_later g.S.WorldStore.meaning c.args.config.now c.args.frame c.statement_at_once.new.config c.args.point c.in_ok-done.ensures.later c.requires.point

pub go_on_with-requires-clause-completion : goal.go_on_with-requires-clause-completion
go_on_with-requires-clause-completion g c =
    let mid = c.statement_at_once.new.config in
    subst (λ (o : Option Completion). IfSome o (λ e. HasCompletion mid e)) c.in-Some.is c.in_ok-done.ensures.found

pub returns-in-Some : goal.returns-in-Some
returns-in-Some g c =
    let m = g.S.WorldStore.meaning in
    let old = c.args.config.now in
    let mid = c.statement_at_once.new.config in
    let f = c.args.frame in
    let D : Option Completion → Type 0 = λ o. IfSome o (λ e. Does m (λ t go. Eval (AtStmt c.args.s.0) (env_in m old t f) go) (λ t. completion_in t e) old mid) in
    done_and_given m f c.args.point c.args.s (λ t. completion_in t c.in-Some.completion) old mid c.go_on_with.new.config c.go_on_with.result (subst D c.in-Some.is c.in_ok-done.ensures.does) c.in_ok-done.ensures.later c.go_on_with.ensures

-- it is entered
pub enter_statement-requires-clause-runs : goal.enter_statement-requires-clause-runs
enter_statement-requires-clause-runs g c = runs_later _ _ _ _ c.requires.runs c.in_ok-done.ensures.later

pub enter_statement-requires-clause-point : goal.enter_statement-requires-clause-point
enter_statement-requires-clause-point g c = point_later g.S.WorldStore.meaning c.args.config.now c.args.frame c.statement_at_once.new.config c.args.point c.in_ok-done.ensures.later c.requires.point

pub enter_statement-requires-clause-part : goal.enter_statement-requires-clause-part
enter_statement-requires-clause-part g c = stands_later g.S.WorldStore.meaning c.args.config.now c.args.frame c.statement_at_once.new.config c.args.s c.in_ok-done.ensures.later c.requires.part

pub returns-in-None : goal.returns-in-None
returns-in-None g c =
    let old = c.args.config.now in
    let mid = c.statement_at_once.new.config in
    let N : Option Completion → Type 0 = λ o. IfNone o (mid ≡ old) in
    entered_slowly g.S.WorldStore.meaning c.args.frame (parts.Stmt c.args.s) old mid c.enter_statement.new.config c.enter_statement.result c.args.point (subst N c.in-None.is c.in_ok-done.ensures.same) c.enter_statement.ensures
