use Rattle.std.proofs.Common.{◌≡◌, [], ◌∷◌, Option, ◌∙◌, subst}
use Rattle.std.specs.Prelude.{Err, IfNone, IfSome}
use Rattle.wjs_base.specs.declared.values.Value.{Value}
use Rattle.wjs_by_content.specs.Tables.{value_in}
use Rattle.wjs_base.specs.Text.{Table}
use Rattle.wjs_meaning.specs.Deeds.{Env, Act, Gives, Sub}
use Rattle.wjs_meaning.specs.Expressions as line
use Rattle.wjs_model.specs.declared.frame.Completion.TheVariants as completions
use Rattle.wjs_model.specs.declared.frame.Held.TheVariants as holds
use Rattle.wjs_model.specs.declared.frame.Phase.TheVariants as phases
use Rattle.wjs_model.specs.declared.point.ExprPoint.TheVariants as expr
use Rattle.wjs_model.specs.declared.point.Point.TheVariants as points
use Rattle.wjs_model.specs.Soundness.{HasValue}
use Rattle.wjs_frames.specs.Doing.{Does}
use Rattle.wjs_frames.specs.Parts.{env_in}
use Rattle.wjs_stopping.specs.Ends.{gives_in}
use Rattle.wjs_direct_lines.specs.Deeds.{line_here}
use Rattle.wjs_direct_lines.proofs.Parts.{did, given_does, later_stopped, stop_found}
use Rattle.wjs_direct_lines.proofs.operations.operation.Goals as goal

-- it has its result at once
pub returns-in-Some-clause-later : goal.returns-in-Some-clause-later
returns-in-Some-clause-later g c = c.in_ok-done.ensures.later

pub returns-in-Some-clause-found : goal.returns-in-Some-clause-found
returns-in-Some-clause-found g c = (subst (λ (o : Option Value). IfSome o (HasValue c.result_at_once.new.config)) c.in-Some.is c.in_ok-done.ensures.found, c.requires.empty)

pub returns-in-Some-clause-does : goal.returns-in-Some-clause-does
returns-in-Some-clause-does g c =
    let m = g.S.WorldStore.meaning in
    let old = c.args.config.now in
    let mid = c.result_at_once.new.config in
    let f = c.args.frame.now in
    let act : Table → Env → Act = λ t env. line.binary_right c.args.operator (value_in t c.args.first) env (value_in t c.args.second) in
    did m gives_in (line_here m old f act) c.in-Some.value c.args.stops.now.waits c.args.stops.now.top old mid
    (subst (λ (o : Option Value). IfSome o (λ v. Does m (λ t go. Sub (act t (env_in m old t f)) go) (λ t. Gives (value_in t v)) old mid)) c.in-Some.is c.in_ok-done.ensures.does)

-- a frame goes on with the second value, and with the first one held
pub returns-in-None-clause-later : goal.returns-in-None-clause-later
returns-in-None-clause-later g c =
    let old = c.args.config.now in
    let same = c.stop_holding.ensures.same ∙ subst (λ (o : Option Value). IfNone o (c.result_at_once.new.config ≡ old)) c.in-None.is c.in_ok-done.ensures.same in
    later_stopped g.S.WorldStore.meaning {A = Value} old c.stop_holding.new.config (Err c.stop_holding.result) c.requires.base same

pub returns-in-None-clause-found : goal.returns-in-None-clause-found
returns-in-None-clause-found g c =
    let old = c.args.config.now in
    let same = c.stop_holding.ensures.same ∙ subst (λ (o : Option Value). IfNone o (c.result_at_once.new.config ≡ old)) c.in-None.is c.in_ok-done.ensures.same in
    let s = c.stop_holding.new.stops in
    let phase = phases.Given (points.Expr (expr.BinaryRight c.args.operator)) (completions.Gives c.args.second) in
    stop_found g.S.WorldStore.meaning old c.stop_holding.new.config c.args.frame.now c.args.node (holds.Value c.args.first ∷ []) phase c.stop_holding.result s.waits s.top same
    c.requires.there c.requires.node (c.requires.left, tt) (tt, c.requires.right) c.stop_holding.ensures.stops

pub returns-in-None-clause-does : goal.returns-in-None-clause-does
returns-in-None-clause-does g c =
    let old = c.args.config.now in
    let same = c.stop_holding.ensures.same ∙ subst (λ (o : Option Value). IfNone o (c.result_at_once.new.config ≡ old)) c.in-None.is c.in_ok-done.ensures.same in
    let s = c.stop_holding.new.stops in
    given_does g.S.WorldStore.meaning gives_in old c.stop_holding.new.config c.args.frame.now c.stop_holding.result s.waits s.top same
    c.args.node (holds.Value c.args.first ∷ []) (points.Expr (expr.BinaryRight c.args.operator)) (completions.Gives c.args.second) c.stop_holding.ensures.stops
