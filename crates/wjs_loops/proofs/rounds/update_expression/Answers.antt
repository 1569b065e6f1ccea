use Rattle.std.proofs.Common.{◌≡◌, Option, subst}
use Rattle.std.specs.Prelude.{IfNone, IfSome}
use Rattle.wjs_meaning.specs.Deeds.{Eval, AtExpr, then_value}
use Rattle.wjs_meaning.specs.Loops.{loop_updated}
use Rattle.wjs_model.specs.declared.frame.Completion.{Completion}
use Rattle.wjs_model.specs.Contents.{completion_in}
use Rattle.wjs_model.specs.Soundness.{HasCompletion}
use Rattle.wjs_frames.specs.Doing.{Does}
use Rattle.wjs_frames.specs.Parts.{env_in}
use Rattle.wjs_effects.proofs.Proceeding.{proceeds_by}
use Rattle.wjs_loops.specs.Rounds.{position_in}
use Rattle.wjs_loops.proofs.rounds.update_expression.Goals as goal

pub after_update-requires : goal.after_update-requires
after_update-requires g c =
    let mid = c.expression_at_once.new.config in
    record { completion = subst (λ (o : Option Completion). IfSome o (λ e. HasCompletion mid e)) c.in-Some.is c.in_ok-done.ensures.found }

pub returns-in-Some-clause-proceeds : goal.returns-in-Some-clause-proceeds
returns-in-Some-clause-proceeds g c =
    let m = g.S.WorldStore.meaning in
    let f = c.args.frame.now in
    let old = c.args.config.now in
    let mid = c.expression_at_once.new.config in
    let D : Option Completion → Type 0 = λ o. IfSome o (λ e. Does m (λ t go. Eval (AtExpr c.args.e.0) (env_in m old t f) go) (λ t. completion_in t e) old mid) in
    proceeds_by m f (λ t go. Eval (AtExpr c.args.e.0) (env_in m old t f) go) (λ t. completion_in t c.in-Some.completion) (λ t env. then_value (loop_updated f.node.0 env)) (λ t env. position_in t f.node.0 env c.after_update.result) old mid
    (subst D c.in-Some.is c.in_ok-done.ensures.does) c.in_ok-done.ensures.later (λ t grows. c.after_update.ensures.is t f.node.0 (env_in m mid t f))

pub returns-in-None-clause-same : goal.returns-in-None-clause-same
returns-in-None-clause-same g c =
    let old = c.args.config.now in
    let mid = c.expression_at_once.new.config in
    subst (λ (o : Option Completion). IfNone o (mid ≡ old)) c.in-None.is c.in_ok-done.ensures.same
