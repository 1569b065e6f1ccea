use Rattle.std.proofs.Common.{◌≡◌, false, Option, refl, ◌∙◌, subst}
use Rattle.std.specs.Prelude.{Err, IfNone, IfSome, map}
use Rattle.wjs_base.specs.declared.values.Value.{Value}
use Rattle.wjs_base.specs.Text.{Table}
use Rattle.wjs_by_content.specs.Tables.{value_in}
use Rattle.wjs_meaning.specs.Deeds.{Env, Gives, Sub}
use Rattle.wjs_meaning.specs.Natives.{native_of}
use Rattle.wjs_model.specs.declared.frame.Phase.TheVariants as phases
use Rattle.wjs_model.specs.declared.point.Start.TheVariants as starts
use Rattle.wjs_model.specs.Soundness.{HasValue}
use Rattle.wjs_frames.specs.Doing.{Does}
use Rattle.wjs_frames.specs.Parts.{env_in}
use Rattle.wjs_stopping.specs.Ends.{gives_in}
use Rattle.wjs_direct_lines.specs.Deeds.{line_here}
use Rattle.wjs_direct_lines.proofs.NativeCalls.{native_ready, native_there}
use Rattle.wjs_direct_lines.proofs.Parts.{did, later_stopped}
use Rattle.wjs_direct_lines.proofs.natives.run_native.Goals as goal

-- it gave its value
pub returns-in-Some-clause-later : goal.returns-in-Some-clause-later
returns-in-Some-clause-later g c = c.in_ok-done.ensures.later

pub returns-in-Some-clause-found : goal.returns-in-Some-clause-found
returns-in-Some-clause-found g c = (subst (λ (o : Option Value). IfSome o (HasValue c.native_at_once.new.config)) c.in-Some.is c.in_ok-done.ensures.found, c.requires.empty)

pub returns-in-Some-clause-does : goal.returns-in-Some-clause-does
returns-in-Some-clause-does g c =
    let m = g.S.WorldStore.meaning in
    let old = c.args.config.now in
    let new = c.native_at_once.new.config in
    let f = c.args.frame.now in
    let s = c.args.stops.now in
    let here : Table → Env = λ t. record (env_in m old t f) { this = value_in t c.args.this } in
    let D : Option Value → Type 0 = λ o. IfSome o (λ v. (env : Table → Env) → ((t : Table) → (env t).this ≡ value_in t c.args.this) → Does m (λ t go. Sub (native_of c.args.native false (map (value_in t) c.args.values.now) (env t)) go) (λ t. Gives (value_in t v)) old new) in
    did m gives_in (line_here m old f (λ t env. native_of c.args.native false (map (value_in t) c.args.values.now) (record env { this = value_in t c.args.this }))) c.in-Some.value s.waits s.top old new
    (subst D c.in-Some.is c.in_ok-done.ensures.does here (λ t. refl))

-- a frame runs it
pub returns-in-None-clause-later : goal.returns-in-None-clause-later
returns-in-None-clause-later g c =
    let old = c.args.config.now in
    let mid = c.native_at_once.new.config in
    let same = c.function_stops.ensures.same ∙ subst (λ (o : Option Value). IfNone o (mid ≡ old)) c.in-None.is c.in_ok-done.ensures.same in
    later_stopped g.S.WorldStore.meaning {A = Value} old c.function_stops.new.config (Err c.function_stops.result) c.requires.base same

pub returns-in-None-clause-found : goal.returns-in-None-clause-found
returns-in-None-clause-found g c =
    let old = c.args.config.now in
    let mid = c.native_at_once.new.config in
    let s = c.function_stops.new.stops in
    let same = c.function_stops.ensures.same ∙ subst (λ (o : Option Value). IfNone o (mid ≡ old)) c.in-None.is c.in_ok-done.ensures.same in
    native_there g.S.WorldStore.meaning old c.function_stops.new.config c.args.frame.now c.args.node c.args.function c.args.native c.args.this c.args.values.now c.function_stops.result s.waits s.top same
    (phases.Ready (starts.Native c.args.native false)) tt c.requires.there c.requires.node c.requires.function c.requires.this c.requires.values c.function_stops.ensures.stops

pub returns-in-None-clause-does : goal.returns-in-None-clause-does
returns-in-None-clause-does g c =
    let old = c.args.config.now in
    let mid = c.native_at_once.new.config in
    let s = c.function_stops.new.stops in
    let same = c.function_stops.ensures.same ∙ subst (λ (o : Option Value). IfNone o (mid ≡ old)) c.in-None.is c.in_ok-done.ensures.same in
    native_ready g.S.WorldStore.meaning old c.function_stops.new.config c.args.frame.now c.args.node c.args.function c.args.native c.args.this c.args.values.now c.function_stops.result s.waits s.top same
    gives_in c.function_stops.ensures.stops
