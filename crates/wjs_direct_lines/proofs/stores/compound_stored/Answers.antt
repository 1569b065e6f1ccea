use Rattle.std.proofs.Common.{◌≡◌, [], ◌∷◌, Option, ◌∙◌, subst}
use Rattle.std.specs.Prelude.{Err, IfNone, IfSome}
use Rattle.wjs_base.specs.declared.values.Value.{Value}
use Rattle.wjs_by_content.specs.Tables.{value_in}
use Rattle.wjs_meaning.specs.Deeds.{Gives, Sub}
use Rattle.wjs_meaning.specs.Operators.{operate}
use Rattle.wjs_model.specs.declared.frame.Completion.TheVariants as completions
use Rattle.wjs_model.specs.declared.frame.Held.TheVariants as holds
use Rattle.wjs_model.specs.declared.frame.Phase.TheVariants as phases
use Rattle.wjs_model.specs.declared.point.ExprPoint.TheVariants as expr
use Rattle.wjs_model.specs.declared.point.Point.TheVariants as points
use Rattle.wjs_model.specs.Soundness.{HasValue}
use Rattle.wjs_frames.specs.Doing.{Does}
use Rattle.wjs_frames.specs.Parts.{env_in}
use Rattle.wjs_stopping.specs.Ends.{gives_in}
use Rattle.wjs_direct_lines.proofs.Parts.{given_does, later_stopped, later_then, stop_found}
use Rattle.wjs_direct_lines.proofs.Assigning.{operated_then}
use Rattle.wjs_direct_lines.proofs.stores.compound_stored.Goals as goal

-- the result is stored
pub stored-requires-clause-base : goal.stored-requires-clause-base
stored-requires-clause-base g c = c.in_ok-done.ensures.later.base

pub stored-requires-clause-there : goal.stored-requires-clause-there
stored-requires-clause-there g c = c.in_ok-done.ensures.later.frames c.args.frame.now c.requires.there

pub stored-requires-clause-reference : goal.stored-requires-clause-reference
stored-requires-clause-reference g c = c.in_ok-done.ensures.later.references c.args.reference c.requires.reference

pub stored-requires-clause-value : goal.stored-requires-clause-value
stored-requires-clause-value g c = subst (λ (o : Option Value). IfSome o (HasValue c.result_at_once.new.config)) c.in-Some.is c.in_ok-done.ensures.found

pub stored-requires-clause-told : goal.stored-requires-clause-told
stored-requires-clause-told g c = subst (λ (o : Option Value). IfSome o (HasValue c.result_at_once.new.config)) c.in-Some.is c.in_ok-done.ensures.found

pub returns-in-Some-clause-later : goal.returns-in-Some-clause-later
returns-in-Some-clause-later g c = later_then g.S.WorldStore.meaning c.args.config.now c.result_at_once.new.config c.stored.new.config c.stored.result c.in_ok-done.ensures.later c.stored.ensures.later

pub returns-in-Some-clause-does : goal.returns-in-Some-clause-does
returns-in-Some-clause-does g c =
    let m = g.S.WorldStore.meaning in
    let old = c.args.config.now in
    let mid = c.result_at_once.new.config in
    let f = c.args.frame.now in
    let k = c.stored.new.stops in
    let D : Option Value → Type 0 = λ o. IfSome o (λ v. Does m (λ t go. Sub (operate c.args.operator (value_in t c.args.old) (value_in t c.args.value) (env_in m old t f)) go) (λ t. Gives (value_in t v)) old mid) in
    operated_then m gives_in old mid c.stored.new.config f c.args.operator c.args.reference c.args.old c.args.value c.in-Some.new c.stored.result k.waits k.top c.in_ok-done.ensures.later
    (subst D c.in-Some.is c.in_ok-done.ensures.does) c.stored.ensures.does

-- a frame goes on with it
pub returns-in-None-clause-later : goal.returns-in-None-clause-later
returns-in-None-clause-later g c =
    let old = c.args.config.now in
    let same = c.stop_compound.ensures.same ∙ subst (λ (o : Option Value). IfNone o (c.result_at_once.new.config ≡ old)) c.in-None.is c.in_ok-done.ensures.same in
    later_stopped g.S.WorldStore.meaning {A = Value} old c.stop_compound.new.config (Err c.stop_compound.result) c.requires.base same

pub returns-in-None-clause-found : goal.returns-in-None-clause-found
returns-in-None-clause-found g c =
    let old = c.args.config.now in
    let same = c.stop_compound.ensures.same ∙ subst (λ (o : Option Value). IfNone o (c.result_at_once.new.config ≡ old)) c.in-None.is c.in_ok-done.ensures.same in
    let s = c.stop_compound.new.stops in
    let phase = phases.Given (points.Expr (expr.CompoundValue c.args.operator)) (completions.Gives c.args.value) in
    stop_found g.S.WorldStore.meaning old c.stop_compound.new.config c.args.frame.now c.args.node (holds.Value c.args.old ∷ holds.Reference c.args.reference ∷ []) phase c.stop_compound.result s.waits s.top same
    c.requires.there c.requires.node (c.requires.old, (c.requires.reference, tt)) (tt, c.requires.value) c.stop_compound.ensures.stops

pub returns-in-None-clause-does : goal.returns-in-None-clause-does
returns-in-None-clause-does g c =
    let old = c.args.config.now in
    let same = c.stop_compound.ensures.same ∙ subst (λ (o : Option Value). IfNone o (c.result_at_once.new.config ≡ old)) c.in-None.is c.in_ok-done.ensures.same in
    let s = c.stop_compound.new.stops in
    given_does g.S.WorldStore.meaning gives_in old c.stop_compound.new.config c.args.frame.now c.stop_compound.result s.waits s.top same
    c.args.node (holds.Value c.args.old ∷ holds.Reference c.args.reference ∷ []) (points.Expr (expr.CompoundValue c.args.operator)) (completions.Gives c.args.value) c.stop_compound.ensures.stops
