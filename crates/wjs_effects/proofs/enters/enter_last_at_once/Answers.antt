use Rattle.std.proofs.Common.{◌≡◌, Option, subst}
use Rattle.std.specs.Prelude.{IfNone, IfSome}
use Rattle.wjs_meaning.specs.Deeds.{Eval, Ret, AtStmt}
use Rattle.wjs_model.specs.declared.frame.Completion.{Completion}
use Rattle.wjs_model.specs.Contents.{completion_in}
use Rattle.wjs_model.specs.Soundness.{HasCompletion}
use Rattle.wjs_frames.specs.declared.part.Part.TheVariants as parts
use Rattle.wjs_frames.specs.Doing.{Does}
use Rattle.wjs_frames.specs.Parts.{env_in}
use Rattle.wjs_frames.proofs.Handling.{runs_later, running_later}
use Rattle.wjs_frames.proofs.Parting.{stands_later}
use Rattle.wjs_quick.proofs.Entering.{last_slowly}
use Rattle.wjs_effects.proofs.enters.enter_last_at_once.Goals as goal

pub finish-requires-clause-running : goal.finish-requires-clause-running
finish-requires-clause-running g c = running_later _ _ _ c.requires.runs.running c.in_ok-done.ensures.later

pub finish-requires-clause-completion : goal.finish-requires-clause-completion
finish-requires-clause-completion g c =
    let mid = c.statement_at_once.new.config in
    subst (λ (o : Option Completion). IfSome o (λ e. HasCompletion mid e)) c.in-Some.is c.in_ok-done.ensures.found

pub returns-in-Some : goal.returns-in-Some
returns-in-Some g c =
    let m = g.S.WorldStore.meaning in
    let old = c.args.config.now in
    let mid = c.statement_at_once.new.config in
    let f = c.args.frame in
    let D : Option Completion → Type 0 = λ o. IfSome o (λ e. Does m (λ t go. Eval (AtStmt c.args.s.0) (env_in m old t f) go) (λ t. completion_in t e) old mid) in
    (subst D c.in-Some.is c.in_ok-done.ensures.does).by Ret c.finish.new.config c.finish.result c.finish.ensures

pub enter_last-requires-clause-runs : goal.enter_last-requires-clause-runs
enter_last-requires-clause-runs g c = runs_later _ _ _ _ c.requires.runs c.in_ok-done.ensures.later

pub enter_last-requires-clause-part : goal.enter_last-requires-clause-part
enter_last-requires-clause-part g c = stands_later g.S.WorldStore.meaning c.args.config.now c.args.frame c.statement_at_once.new.config c.args.s c.in_ok-done.ensures.later c.requires.part

pub returns-in-None : goal.returns-in-None
returns-in-None g c =
    let old = c.args.config.now in
    let mid = c.statement_at_once.new.config in
    let N : Option Completion → Type 0 = λ o. IfNone o (mid ≡ old) in
    last_slowly g.S.WorldStore.meaning c.args.frame (parts.Stmt c.args.s) old mid c.enter_last.new.config c.enter_last.result (subst N c.in-None.is c.in_ok-done.ensures.same) c.enter_last.ensures
