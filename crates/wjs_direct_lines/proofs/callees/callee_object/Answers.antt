use Rattle.std.proofs.Common.{List, ℕ, [], subst}
use Rattle.std.specs.Prelude.{Err}
use Rattle.wjs_base.specs.declared.ids.ObjId.{ObjId}
use Rattle.wjs_base.specs.declared.values.Value.{Value}
use Rattle.wjs_base.specs.Text.{Table}
use Rattle.wjs_by_content.specs.Tables.{value_in}
use Rattle.wjs_by_content.specs.Values.{Undefined}
use Rattle.wjs_meaning.specs.Expressions.{call_callee}
use Rattle.wjs_meaning.specs.Reading.{node_in}
use Rattle.wjs_model.specs.declared.frame.Completion.TheVariants as completions
use Rattle.wjs_model.specs.declared.frame.Phase.TheVariants as phases
use Rattle.wjs_model.specs.declared.point.ExprPoint.TheVariants as expr
use Rattle.wjs_model.specs.declared.point.Point.TheVariants as points
use Rattle.wjs_model.specs.Lists.{arguments_of}
use Rattle.wjs_model.specs.Soundness.{HasValue}
use Rattle.wjs_frames.specs.Parts.{env_in, node_among}
use Rattle.wjs_heap_steps.proofs.Later.{later_same}
use Rattle.wjs_stopping.specs.Ends.{gives_in}
use Rattle.wjs_direct_lines.proofs.Parts.{given_does, later_stopped, line_as, stop_found}
use Rattle.wjs_direct_lines.proofs.ReferenceReading.{whatever_this}
use Rattle.wjs_direct_lines.proofs.callees.callee_object.Goals as goal

-- it is one
pub returns-in-Object-clause-later : goal.returns-in-Object-clause-later
returns-in-Object-clause-later g c = later_same g.S.WorldStore.meaning c.args.config.now c.requires.base

pub returns-in-Object-clause-found : goal.returns-in-Object-clause-found
returns-in-Object-clause-found g c = (subst (λ (v : Value). HasValue c.args.config.now v) c.in-Object.is c.requires.value, c.requires.empty)

pub returns-in-Object-clause-is : goal.returns-in-Object-clause-is
returns-in-Object-clause-is g c = c.in-Object.is

-- a frame goes on with the value
pub returns-in_default-clause-later : goal.returns-in_default-clause-later
returns-in_default-clause-later g c = later_stopped g.S.WorldStore.meaning {A = ObjId} c.args.config.now c.stop.new.config (Err c.stop.result) c.requires.base c.stop.ensures.same

pub returns-in_default-clause-found : goal.returns-in_default-clause-found
returns-in_default-clause-found g c =
    let s = c.stop.new.stops in
    stop_found g.S.WorldStore.meaning c.args.config.now c.stop.new.config c.args.frame.now c.args.node [] (phases.Given (points.Expr expr.CalleeValue) (completions.Gives c.args.value)) c.stop.result s.waits s.top c.stop.ensures.same
    c.requires.there c.requires.node tt (tt, c.requires.value) c.stop.ensures.stops

pub returns-in_default-clause-is : goal.returns-in_default-clause-is
returns-in_default-clause-is g c = λ this.
    let m = g.S.WorldStore.meaning in
    let old = c.args.config.now in
    let f = c.args.frame.now in
    let s = c.stop.new.stops in
    let args : Table → List ℕ = λ t. arguments_of (node_in t (node_among old.units.items f.tree c.args.node)) in
    line_as m gives_in old c.stop.new.config f (λ t env. call_callee (args t) (this t) env (value_in t c.args.value)) (Err c.stop.result) s.waits s.top (λ t env. call_callee (args t) Undefined env (value_in t c.args.value))
    (λ t more. whatever_this t (args t) c.args.value (this t) Undefined (env_in m old t f) c.in_default.not-Object)
    (given_does m gives_in old c.stop.new.config f c.stop.result s.waits s.top c.stop.ensures.same c.args.node [] (points.Expr expr.CalleeValue) (completions.Gives c.args.value) c.stop.ensures.stops)
