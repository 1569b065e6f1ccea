use Rattle.std.proofs.Common.{◌≡◌, Option, subst}
use Rattle.std.specs.Prelude.{IfNone, IfSome}
use Rattle.wjs_meaning.specs.Deeds.{Eval, AtStmt}
use Rattle.wjs_meaning.specs.Loops.{loop_body}
use Rattle.wjs_meaning.specs.Reading.{number}
use Rattle.wjs_model.specs.declared.frame.Completion.{Completion}
use Rattle.wjs_model.specs.Contents.{completion_in}
use Rattle.wjs_model.specs.Soundness.{HasCompletion}
use Rattle.wjs_frames.specs.Doing.{Does}
use Rattle.wjs_frames.specs.Parts.{env_in}
use Rattle.wjs_frames.proofs.Parting.{stands_later, stands_if_later}
use Rattle.wjs_heap_steps.proofs.Later.{later_twice}
use Rattle.wjs_effects.specs.Proceeding.{Proceeds}
use Rattle.wjs_effects.proofs.Proceeding.{proceeds_by}
use Rattle.wjs_loops.specs.declared.rounds.Position.TheVariants as positions
use Rattle.wjs_loops.specs.Rounds.{position_in, position_left}
use Rattle.wjs_loops.proofs.rounds.body_at_once.Goals as goal

pub position_after-requires-clause-completion : goal.position_after-requires-clause-completion
position_after-requires-clause-completion g c =
    let mid = c.statement_at_once.new.config in
    subst (λ (o : Option Completion). IfSome o (λ e. HasCompletion mid e)) c.in-Some.is c.in_ok-done.ensures.found

pub position_after-requires-clause-update : goal.position_after-requires-clause-update
position_after-requires-clause-update g c = stands_if_later g.S.WorldStore.meaning c.args.config.now c.args.frame.now c.statement_at_once.new.config c.args.u c.in_ok-done.ensures.later c.requires.update

pub returns-in-Some-clause-proceeds : goal.returns-in-Some-clause-proceeds
returns-in-Some-clause-proceeds g c =
    let m = g.S.WorldStore.meaning in
    let f = c.args.frame.now in
    let old = c.args.config.now in
    let mid = c.statement_at_once.new.config in
    let D : Option Completion → Type 0 = λ o. IfSome o (λ e. Does m (λ t go. Eval (AtStmt c.args.s.0) (env_in m old t f) go) (λ t. completion_in t e) old mid) in
    proceeds_by m f (λ t go. Eval (AtStmt c.args.s.0) (env_in m old t f) go) (λ t. completion_in t c.in-Some.completion) (λ t env. loop_body f.node.0 (number c.args.u) env) (λ t env. position_in t f.node.0 env c.position_after.result) old mid
    (subst D c.in-Some.is c.in_ok-done.ensures.does) c.in_ok-done.ensures.later (λ t grows. c.position_after.ensures.is t grows)

-- it isn't done at once, and nothing has changed
pub block_entered-requires-clause-update : goal.block_entered-requires-clause-update
block_entered-requires-clause-update g c = stands_if_later g.S.WorldStore.meaning c.args.config.now c.args.frame.now c.statement_at_once.new.config c.args.u c.in_ok-done.ensures.later c.requires.update

pub block_entered-requires-clause-body : goal.block_entered-requires-clause-body
block_entered-requires-clause-body g c = stands_later g.S.WorldStore.meaning c.args.config.now c.args.frame.now c.statement_at_once.new.config c.args.s c.in_ok-done.ensures.later c.requires.body

pub returns-in-None-clause-same : goal.returns-in-None-clause-same
returns-in-None-clause-same g c =
    let old = c.args.config.now in
    let mid = c.statement_at_once.new.config in
    let new = c.block_entered.new.config in
    let still : mid ≡ old = subst (λ (o : Option Completion). IfNone o (mid ≡ old)) c.in-None.is c.in_ok-done.ensures.same in
    subst (λ x. IfNone c.block_entered.result (new ≡ x)) still c.block_entered.ensures.same

pub returns-in-None-clause-proceeds : goal.returns-in-None-clause-proceeds
returns-in-None-clause-proceeds g c =
    let m = g.S.WorldStore.meaning in
    let f = c.args.frame.now in
    let old = c.args.config.now in
    let mid = c.statement_at_once.new.config in
    let new = c.block_entered.new.config in
    let still : mid ≡ old = subst (λ (o : Option Completion). IfNone o (mid ≡ old)) c.in-None.is c.in_ok-done.ensures.same in
    subst (λ x. IfSome c.block_entered.result (λ p. Proceeds m (position_left m x f (positions.Body c.args.u c.args.s)) (position_left m new f p) x new)) still c.block_entered.ensures.proceeds

pub returns-in-None-clause-later : goal.returns-in-None-clause-later
returns-in-None-clause-later g c = later_twice g.S.WorldStore.meaning c.args.config.now c.statement_at_once.new.config c.block_entered.new.config c.in_ok-done.ensures.later c.block_entered.ensures.later
