use Rattle.std.proofs.Common.{◌≡◌, Option, ap, drop, subst}
use Rattle.std.specs.Prelude.{IfNone, IfSome}
use Rattle.wjs_base.specs.Text.{Table}
use Rattle.wjs_meaning.specs.Deeds.{Env, Act, Completion as Said, Eval, Sub, AtStmt, node_here, then_normal}
use Rattle.wjs_meaning.specs.Loops.{loop_body}
use Rattle.wjs_meaning.specs.Reading.{number}
use Rattle.wjs_meaning.specs.Statements.{block_from}
use Rattle.wjs_model.specs.declared.frame.Completion.{Completion}
use Rattle.wjs_model.specs.Contents.{completion_in}
use Rattle.wjs_model.specs.Lists.{block_items}
use Rattle.wjs_model.specs.Soundness.{HasCompletion}
use Rattle.wjs_frames.specs.Doing.{Does}
use Rattle.wjs_frames.specs.Parts.{env_in}
use Rattle.wjs_frames.proofs.Parting.{stands_later, stands_if_later}
use Rattle.wjs_effects.proofs.Proceeding.{proceeds_as, proceeds_twice}
use Rattle.wjs_loops.specs.declared.rounds.Position.TheVariants as positions
use Rattle.wjs_loops.specs.Rounds.{position_left, within_after}
use Rattle.wjs_loops.proofs.BlockLines.{block_next, proceeds_nested}
use Rattle.wjs_loops.proofs.within.statement_within.Goals as goal

pub after_statement-requires-clause-completion : goal.after_statement-requires-clause-completion
after_statement-requires-clause-completion g c =
    let mid = c.statement_at_once.new.config in
    subst (λ (o : Option Completion). IfSome o (λ e. HasCompletion mid e)) c.in-Some.is c.in_ok-done.ensures.found

pub after_statement-requires-clause-update : goal.after_statement-requires-clause-update
after_statement-requires-clause-update g c = stands_if_later g.S.WorldStore.meaning c.args.config.now c.args.frame.now c.statement_at_once.new.config c.args.u c.in_ok-done.ensures.later c.requires.update

pub after_statement-requires-clause-body : goal.after_statement-requires-clause-body
after_statement-requires-clause-body g c = stands_later g.S.WorldStore.meaning c.args.config.now c.args.frame.now c.statement_at_once.new.config c.args.s c.in_ok-done.ensures.later c.requires.body

pub returns-in-Some-clause-proceeds : goal.returns-in-Some-clause-proceeds
returns-in-Some-clause-proceeds g c =
    let m = g.S.WorldStore.meaning in
    let f = c.args.frame.now in
    let old = c.args.config.now in
    let mid = c.statement_at_once.new.config in
    let u = c.args.u in
    let s = c.args.s in
    let st = c.args.statement in
    let next = c.in_ok-next.next in
    let more : Table → Env → Said → Act = λ t env. then_normal (block_from (drop next (block_items (node_here env s.0))) env) in
    let go : Table → Env → Said → Act = λ t env. loop_body f.node.0 (number u) env in
    let after : Table → Act = λ t. within_after m mid f u s next t (completion_in t c.in-Some.completion) in
    let D : Option Completion → Type 0 = λ o. IfSome o (λ e. Does m (λ t k. Eval (AtStmt st.0) (env_in m old t f) k) (λ t. completion_in t e) old mid) in
    proceeds_twice m (position_left m old f (positions.Within u s c.args.at)) after (position_left m mid f c.after_statement.result) old mid mid
    (proceeds_as m (λ t. Sub (Eval (AtStmt st.0) (env_in m old t f) (more t (env_in m old t f))) (go t (env_in m old t f))) (position_left m old f (positions.Within u s c.args.at)) after old mid
    (λ t grows. ap (λ (a : Act). Sub a (go t (env_in m old t f))) (block_next m old f s t c.args.at next st c.in_ok-next.ensures c.requires.statement))
    (proceeds_nested m f st (λ t. completion_in t c.in-Some.completion) more go old mid (subst D c.in-Some.is c.in_ok-done.ensures.does) c.in_ok-done.ensures.later))
    c.after_statement.ensures.proceeds

pub returns-in-None-clause-same : goal.returns-in-None-clause-same
returns-in-None-clause-same g c =
    let old = c.args.config.now in
    let mid = c.statement_at_once.new.config in
    subst (λ (o : Option Completion). IfNone o (mid ≡ old)) c.in-None.is c.in_ok-done.ensures.same
