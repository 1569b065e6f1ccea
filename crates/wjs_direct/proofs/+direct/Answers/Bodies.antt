-- What holds of the functions of `bodies`.
use Rattle.std.proofs.Common.{◌≡◌, rules, [], refl, ap, ◌∙◌, subst, sym}
use Rattle.std.specs.Prelude.{Ok, Err, map, All}
use Rattle.wjs_base.specs.declared.ids.NodeId.{NodeId}
use Rattle.wjs_base.specs.declared.values.Value.{Value}
use Rattle.wjs_base.specs.declared.values.Value.TheVariants as values
use Rattle.wjs_arena.specs.Entries.{Entry}
use Rattle.wjs_by_content.specs.Tables.{value_in}
use Rattle.wjs_by_content.specs.Values.{Object}
use Rattle.wjs_meaning.specs.Deeds.{AtStmt}
use Rattle.wjs_meaning.specs.Functions.{body_of}
use Rattle.wjs_model.specs.declared.frame.Completion.{Completion}
use Rattle.wjs_model.specs.Contents.{completion_in}
use Rattle.wjs_model.specs.Soundness.{Base, HasValue, IsThere, StandsHere, HasObject}
use Rattle.wjs_model.specs.declared.config.Config.{Config}
use Rattle.wjs_model.specs.declared.frame.Activation.{Activation as Frame}
use Rattle.wjs_model.specs.Standing.{IsFunction}
use Rattle.wjs_model.specs.declared.point.Point.TheVariants as points
use Rattle.wjs_model.specs.declared.point.CallPoint.TheVariants as call_point
use Rattle.wjs_frames.specs.Parts.{env_in}
use Rattle.wjs_frames.specs.Following.{Later}
use Rattle.wjs_heap_steps.proofs.Later.{later_same, later_twice}
use Rattle.wjs_effects.proofs.StandingElements.{element_stands, sequence_later}
use Rattle.wjs_effects.specs.declared.elements.Sequence.TheVariants as kinds
use Rattle.wjs_variables.proofs.StandingBodies.{function_at}
use Rattle.wjs_stopping.specs.Ends.{gives_in}
use Rattle.wjs_stopping.specs.Evaluating.{Evaluates, HasBroken, HasOutcome, InMemory}
use Rattle.wjs_stopping.specs.Waiting.{WaitsAt, at_node}
use Rattle.wjs_direct_lines.specs.Deeds.{goal_here, line_here}
use Rattle.wjs_direct_lines.proofs.Forming.{form_goes_on, node_there}
use Rattle.wjs_direct_lines.proofs.Parts.{broke_does, broke_found, broke_later, later_stopped, later_then}
use Rattle.wjs_direct_lines.proofs.Elements.{element_form, element_passed, element_then, rest_all, rest_ended, then_moved, waits_then}
use Rattle.wjs_direct_lines.proofs.Entering.{body_ready_there, body_looked, body_ready, body_inside}
use Rattle.wjs_direct.proofs.+direct.Goals as goal

-- ---- bodies

pub run_body-loop-element-init : goal.bodies::run_body-loop-element-init
run_body-loop-element-init g t c = record {
  left = record { by = λ go later r h. h };
  later = later_same g.S.WorldStore.meaning c.args.config.now c.requires.base;
  empty = c.requires.empty;
}

pub run_body-statement-requires : goal.bodies::run_body-statement-requires
run_body-statement-requires g t c =
    let m = g.S.WorldStore.meaning in
    let old = c.args.config.now in
    let f = c.args.frame.now in
    let mid = c.loop-element.config in
    let l = c.loop-element.invariant.later in
    let base : Base m mid = l.base in
    let there : IsThere m mid f = l.frames f c.requires.there in
    let node : StandsHere mid f c.in-Some.element = element_stands m mid f kinds.Function c.loop-element.at c.in-Some.element l.base there (sequence_later m old f kinds.Function mid l c.requires.body) c.in-Some.ensures in
    let empty : c.loop-element.stops.waits ≡ [] = c.loop-element.invariant.empty in
    search (rules, base, there, node, empty)

pub run_body-loop-element-preserved : goal.bodies::run_body-loop-element-preserved
run_body-loop-element-preserved g t c =
    let m = g.S.WorldStore.meaning in
    let old = c.args.config.now in
    let f = c.args.frame.now in
    let mid = c.loop-element.config in
    let new = c.statement.new.config in
    let inv = c.loop-element.invariant in
    let k = c.statement.new.stops in
    let e = c.in-Ok-Normal in
    let done = subst (λ (x : Completion). Evaluates m (goal_here m mid f (AtStmt c.in-Some.element.0)) completion_in (Ok x) k.waits k.top mid new) e.field-0-is e.ensures.does in
    record {
      left = element_passed m kinds.Function f f.node mid new c.loop-element.at c.in_ok-next.next c.in-Some.element k.waits k.top c.in_ok-next.ensures c.in-Some.ensures old c.args.from inv.later inv.left done;
      later = later_twice m old mid new inv.later e.ensures.later;
      empty = e.ensures.found.1;
    }

pub run_body-body_ended-requires : goal.bodies::run_body-body_ended-requires
run_body-body_ended-requires g t c =
    let m = g.S.WorldStore.meaning in
    let old = c.args.config.now in
    let mid = c.loop-element.config in
    let new = c.statement.new.config in
    let f = c.args.frame.now in
    let l = later_twice m old mid new c.loop-element.invariant.later c.in-Ok.ensures.later in
    record { base = l.base; there = l.frames f c.requires.there; body = sequence_later m old f kinds.Function new l c.requires.body; empty = c.in-Ok.ensures.found.1; end = c.in-Ok.ensures.found.0 }

pub run_body-returns-in-Ok-clause-later : goal.bodies::run_body-returns-in-Ok-clause-later
run_body-returns-in-Ok-clause-later g t c =
    let m = g.S.WorldStore.meaning in
    let old = c.args.config.now in
    let mid = c.loop-element.config in
    let new = c.statement.new.config in
    later_then m old new c.body_ended.new.config c.body_ended.result (later_twice m old mid new c.loop-element.invariant.later c.in-Ok.ensures.later) c.body_ended.ensures.later

pub run_body-returns-in-Ok-clause-does : goal.bodies::run_body-returns-in-Ok-clause-does
run_body-returns-in-Ok-clause-does g t c =
    let m = g.S.WorldStore.meaning in
    let old = c.args.config.now in
    let mid = c.loop-element.config in
    let new = c.statement.new.config in
    let last = c.body_ended.new.config in
    let f = c.args.frame.now in
    let inv = c.loop-element.invariant in
    let s = c.statement.new.stops in
    let k = c.body_ended.new.stops in
    let at = c.loop-element.at in
    let next = c.in_ok-next.next in
    let part = c.in-Some.element in
    let en = c.in_ok-next.ensures in
    let e = c.in-Ok in
    rest_all m kinds.Function f f.node gives_in old mid last c.args.from at c.body_ended.result k.waits k.top inv.later inv.left
    (element_form m kinds.Function f f.node mid last at next part k.waits k.top en c.in-Some.ensures gives_in c.body_ended.result
    (form_goes_on m completion_in gives_in mid new last f (AtStmt part.0) (element_then m kinds.Function f f.node mid new at next part s.waits s.top en c.in-Some.ensures) e.end c.body_ended.result s.waits s.top k.waits k.top
    e.ensures.later e.ensures.does
    (then_moved m kinds.Function f f.node mid new at next part s.waits s.top en c.in-Some.ensures gives_in last e.end c.body_ended.result k.waits k.top e.ensures.later c.body_ended.ensures.does)))

pub run_body-returns-in-Err-clause-later : goal.bodies::run_body-returns-in-Err-clause-later
run_body-returns-in-Err-clause-later g t c =
    let m = g.S.WorldStore.meaning in
    let f = c.args.frame.now in
    let mid = c.loop-element.config in
    let new = c.statement.new.config in
    let s = c.statement.new.stops in
    let k = c.waits.new.stops in
    let point = points.Call (call_point.BodyElement c.in_ok-next.next) in
    later_then m {A = Value} c.args.config.now mid c.waits.new.config (Err c.waits.result) c.loop-element.invariant.later
    (broke_later m Completion Value mid new c.waits.new.config f f.node [] point c.in-Err.end s.waits s.top c.waits.result k.waits k.top c.waits.ensures.same
    (subst (λ (id : NodeId). WaitsAt (at_node f id []) point c.in-Err.end s.waits s.top c.waits.result k.waits k.top) c.node.ensures c.waits.ensures.waits) c.in-Err.ensures.later)

pub run_body-returns-in-Err-clause-found : goal.bodies::run_body-returns-in-Err-clause-found
run_body-returns-in-Err-clause-found g t c =
    let m = g.S.WorldStore.meaning in
    let old = c.args.config.now in
    let f = c.args.frame.now in
    let mid = c.loop-element.config in
    let new = c.statement.new.config in
    let l = c.loop-element.invariant.later in
    let s = c.statement.new.stops in
    let k = c.waits.new.stops in
    let point = points.Call (call_point.BodyElement c.in_ok-next.next) in
    broke_found m Completion Value mid new c.waits.new.config f f.node [] point c.in-Err.end s.waits s.top c.waits.result k.waits k.top c.waits.ensures.same
    (subst (λ (id : NodeId). WaitsAt (at_node f id []) point c.in-Err.end s.waits s.top c.waits.result k.waits k.top) c.node.ensures c.waits.ensures.waits) c.in-Err.ensures.later
    (l.frames f c.requires.there) (l.frames f c.requires.there).stands.node tt (sequence_later m old f kinds.Function mid l c.requires.body) c.in-Err.ensures.found

pub run_body-returns-in-Err-clause-does : goal.bodies::run_body-returns-in-Err-clause-does
run_body-returns-in-Err-clause-does g t c =
    let m = g.S.WorldStore.meaning in
    let old = c.args.config.now in
    let f = c.args.frame.now in
    let mid = c.loop-element.config in
    let new = c.statement.new.config in
    let last = c.waits.new.config in
    let inv = c.loop-element.invariant in
    let s = c.statement.new.stops in
    let k = c.waits.new.stops in
    let at = c.loop-element.at in
    let next = c.in_ok-next.next in
    let part = c.in-Some.element in
    let en = c.in_ok-next.ensures in
    let point = points.Call (call_point.BodyElement next) in
    rest_all m kinds.Function f f.node gives_in old mid last c.args.from at (Err c.waits.result) k.waits k.top inv.later inv.left
    (element_form m kinds.Function f f.node mid last at next part k.waits k.top en c.in-Some.ensures gives_in (Err c.waits.result)
    (broke_does m Completion Value mid new last f f.node [] point c.in-Err.end s.waits s.top c.waits.result k.waits k.top c.waits.ensures.same
    (subst (λ (id : NodeId). WaitsAt (at_node f id []) point c.in-Err.end s.waits s.top c.waits.result k.waits k.top) c.node.ensures c.waits.ensures.waits)
    completion_in gives_in (AtStmt part.0) (element_then m kinds.Function f f.node mid new at next part s.waits s.top en c.in-Some.ensures)
    (waits_then m kinds.Function f f.node mid new at next part s.waits s.top en c.in-Some.ensures) (λ t env e. refl) c.in-Err.ensures.later c.in-Err.ensures.does))

pub run_body-returns-clause-does : goal.bodies::run_body-returns-clause-does
run_body-returns-clause-does g t c =
    let m = g.S.WorldStore.meaning in
    let mid = c.loop-element.config in
    let f = c.args.frame.now in
    let inv = c.loop-element.invariant in
    let s = c.loop-element.stops in
    let at = c.loop-element.at in
    rest_all m kinds.Function f f.node gives_in c.args.config.now mid mid c.args.from at (Ok values.Undefined) s.waits s.top inv.later inv.left
    (rest_ended m kinds.Function f f.node gives_in mid at values.Undefined s.waits s.top c.in_default.ensures (λ t. refl))

pub body_called-returns-in-Some-clause-does : goal.bodies::body_called-returns-in-Some-clause-does
body_called-returns-in-Some-clause-does g t c =
    let m = g.S.WorldStore.meaning in
    let old = c.args.config.now in
    body_looked m gives_in old c.body_inside.new.config c.args.function c.args.tree c.args.body c.in-Some.scope (λ t. map (value_in t) c.args.values.now) (λ t. record (env_in m old t c.args.frame.now) { this = Object c.args.this })
    c.body_inside.result c.body_inside.new.stops.waits c.body_inside.new.stops.top c.requires.function c.requires.code c.in-Some.ensures.is c.body_inside.ensures.does

pub body_called-returns-in-None-clause-later : goal.bodies::body_called-returns-in-None-clause-later
body_called-returns-in-None-clause-later g t c =
    later_stopped g.S.WorldStore.meaning {A = Value} c.args.config.now c.function_stops.new.config (Err c.function_stops.result) c.requires.base c.function_stops.ensures.same

pub body_called-returns-in-None-clause-found : goal.bodies::body_called-returns-in-None-clause-found
body_called-returns-in-None-clause-found g t c =
    let m = g.S.WorldStore.meaning in
    let s = c.function_stops.new.stops in
    subst (λ x. HasBroken m x c.function_stops.result s.waits s.top) (sym c.function_stops.ensures.same)
    (body_ready_there m c.args.config.now c.args.frame.now c.args.node c.args.function c.args.this c.args.values.now c.function_stops.result s.waits s.top c.requires.there c.requires.node c.requires.function c.requires.this c.requires.values c.function_stops.ensures.stops)

pub body_called-returns-in-None-clause-does : goal.bodies::body_called-returns-in-None-clause-does
body_called-returns-in-None-clause-does g t c =
    let m = g.S.WorldStore.meaning in
    let old = c.args.config.now in
    let f = c.args.frame.now in
    let s = c.function_stops.new.stops in
    subst (λ x. Evaluates m (line_here m old f (λ t env. body_of c.args.function (map (value_in t) c.args.values.now) (record env { this = Object c.args.this }))) gives_in (Err c.function_stops.result) s.waits s.top old x) (sym c.function_stops.ensures.same)
    (body_ready m old f c.args.node c.args.function c.args.this c.args.values.now c.function_stops.result s.waits s.top gives_in c.function_stops.ensures.stops)

pub body_inside-enter_scope-requires-clause-base : goal.bodies::body_inside-enter_scope-requires-clause-base
body_inside-enter_scope-requires-clause-base g t c =
    let old = c.args.config.now in
    let begun : record old { frames = c.begun.new.self } ≡ old = λ i. record old { frames = c.in_ok-inner.ensures.same i } in
    subst (Base g.S.WorldStore.meaning) (sym begun) c.requires.base

pub body_inside-enter_scope-requires-clause-there : goal.bodies::body_inside-enter_scope-requires-clause-there
body_inside-enter_scope-requires-clause-there g t c =
    let m = g.S.WorldStore.meaning in
    let old = c.args.config.now in
    let f = c.args.frame.now in
    let begun : record old { frames = c.begun.new.self } ≡ old = λ i. record old { frames = c.in_ok-inner.ensures.same i } in
    let start : c.set_this.new.self ≡ record (at_node f c.args.node []) { this = values.Object c.args.this } = c.set_this.ensures ∙ ap (λ (q : Frame). record q { this = values.Object c.args.this }) c.in_ok-inner.ensures.frame in
    let k = node_there m old f c.args.node [] c.requires.there c.requires.node tt in
    subst (λ (x : Config g.row.S.Denot). IsThere m x c.set_this.new.self) (sym begun)
    (subst (IsThere m old) (sym start) (record { scope = k.scope; this = c.requires.this; world = k.world; held = tt; stands = record { node = k.stands.node; shown = k.stands.shown } }))

pub body_inside-returns-clause-later : goal.bodies::body_inside-returns-clause-later
body_inside-returns-clause-later g t c =
    let m = g.S.WorldStore.meaning in
    let old = c.args.config.now in
    let first : Config g.row.S.Denot = record old { frames = c.begun.new.self } in
    let begun : first ≡ old = λ i. record old { frames = c.in_ok-inner.ensures.same i } in
    let ran = c.run_body-done.new.config in
    let same : record ran { frames = c.spare.new.self } ≡ ran = λ i. record ran { frames = c.spare.ensures i } in
    let done = c.run_body-done.result in
    subst (λ (x : Config g.row.S.Denot). InMemory done (Later m old x)) (sym same)
    (subst (λ (x : Config g.row.S.Denot). InMemory done (Later m x ran)) begun (later_then m first c.enter_scope.new.config ran done c.in_ok-enter_scope.ensures.later c.run_body-done.ensures.later))

pub body_inside-returns-clause-found : goal.bodies::body_inside-returns-clause-found
body_inside-returns-clause-found g t c =
    let ran = c.run_body-done.new.config in
    let same : record ran { frames = c.spare.new.self } ≡ ran = λ i. record ran { frames = c.spare.ensures i } in
    subst (λ (x : Config g.row.S.Denot). HasOutcome g.S.WorldStore.meaning HasValue x c.run_body-done.result c.run_body-done.new.stops.waits c.run_body-done.new.stops.top) (sym same) c.run_body-done.ensures.found

pub body_inside-returns-clause-does : goal.bodies::body_inside-returns-clause-does
body_inside-returns-clause-does g t c =
    let m = g.S.WorldStore.meaning in
    let old = c.args.config.now in
    let f = c.args.frame.now in
    let first : Config g.row.S.Denot = record old { frames = c.begun.new.self } in
    let begun : first ≡ old = λ i. record old { frames = c.in_ok-inner.ensures.same i } in
    let ran = c.run_body-done.new.config in
    let new : Config g.row.S.Denot = record ran { frames = c.spare.new.self } in
    let same : new ≡ ran = λ i. record ran { frames = c.spare.ensures i } in
    let start : c.set_this.new.self ≡ record (at_node f c.args.node []) { this = values.Object c.args.this } = c.set_this.ensures ∙ ap (λ (q : Frame). record q { this = values.Object c.args.this }) c.in_ok-inner.ensures.frame in
    let at : c.enter_scope.new.frame.node ≡ c.args.body = ap (λ (q : Frame). q.node) c.in_ok-enter_scope.ensures.frame in
    body_inside m gives_in old first c.enter_scope.new.config ran new f c.set_this.new.self c.enter_scope.new.frame c.args.node c.args.tree c.args.body c.args.scope c.args.function c.args.this (λ t. map (value_in t) c.args.values.now)
    c.run_body-done.result c.run_body-done.new.stops.waits c.run_body-done.new.stops.top begun start same c.in_ok-enter_scope.ensures.does at c.run_body-done.ensures.does

pub body_called-body_inside-requires : goal.bodies::body_called-body_inside-requires
body_called-body_inside-requires g t c =
    let m = g.S.WorldStore.meaning in
    let old = c.args.config.now in
    let base : Base m old = c.requires.base in
    let there : IsThere m old c.args.frame.now = c.requires.there in
    let node : StandsHere old c.args.frame.now c.args.node = c.requires.node in
    let empty : c.args.stops.now.waits ≡ [] = c.requires.empty in
    let function : HasObject old c.args.function = c.requires.function in
    let scope : HasObject old c.in-Some.scope = c.in-Some.ensures.found in
    let this : HasObject old c.args.this = c.requires.this in
    let values : All (HasValue old) c.args.values.now = c.requires.values in
    let stands : IsFunction old.units.items old.heap.arena c.args.tree c.args.body c.in-Some.scope 0 = function_at m old c.args.function c.args.tree c.args.body c.in-Some.scope c.requires.base
    c.requires.function c.requires.code (λ (e : Entry) h. c.scope_of.ensures.entry e h ∙ c.in-Some.is) in
    search (rules, base, there, node, empty, function, scope, this, values, stands)
