-- What holds of the functions of `news`.
use Rattle.std.proofs.Common.{◌≡◌, rules, [], ◌∷◌, Some, refl, ap, subst, sym, Vec, Global, ℕ, List, ◌++◌}
use Rattle.std.specs.Prelude.{All, Ok, Err, map}
use Rattle.std.proofs.lemmas.List.Elements.{All-nil, All-push, All-same}
use Rattle.wjs_base.specs.declared.values.Value.{Value}
use Rattle.wjs_base.specs.declared.values.Value.TheVariants as values
use Rattle.wjs_by_content.specs.Tables.{value_in, object_in}
use Rattle.wjs_by_content.specs.Values.{Object}
use Rattle.wjs_meaning.specs.Deeds.{AtExpr, then_value}
use Rattle.wjs_meaning.specs.Reading.{node_in}
use Rattle.wjs_meaning.specs.Expressions as line
use Rattle.wjs_model.specs.Lists.{arguments_of}
use Rattle.wjs_model.specs.Soundness.{Base, HasObject, HasValue, IsThere, StandsHere}
use Rattle.wjs_model.specs.declared.loaded.LoadedProgram.{LoadedProgram as Program}
use Rattle.wjs_model.specs.declared.frame.Held.TheVariants as holds
use Rattle.wjs_model.specs.declared.frame.Completion.TheVariants as completions
use Rattle.wjs_model.specs.declared.frame.Phase.TheVariants as phases
use Rattle.wjs_model.specs.declared.point.Point.TheVariants as points
use Rattle.wjs_model.specs.declared.point.ExprPoint.TheVariants as expr
use Rattle.wjs_frames.specs.Parts.{node_among}
use Rattle.wjs_frames.proofs.Parting.{stands_later}
use Rattle.wjs_heap_steps.proofs.Later.{later_same, later_twice}
use Rattle.wjs_stopping.specs.Ends.{gives_in}
use Rattle.wjs_stopping.specs.Evaluating.{Evaluates, Leaves}
use Rattle.wjs_stopping.specs.Waiting.{WaitsAt, at_node}
use Rattle.wjs_direct_lines.specs.Deeds.{IsScript, line_here, call_held}
use Rattle.wjs_direct_lines.proofs.Forming.{form_goes_on}
use Rattle.wjs_direct_lines.proofs.Parts.{broke_does, broke_found, broke_later, later_stopped, later_then, stop_found, given_does}
use Rattle.wjs_direct_lines.proofs.Calling.{argument_stands, values_later}
use Rattle.wjs_direct_lines.proofs.Holdings.{call_there}
use Rattle.wjs_arena.specs.declared.class.Class.TheVariants as class
use Rattle.wjs_by_content.specs.Objects.{object_of}
use Rattle.wjs_meaning.specs.Constructions.{construct}
use Rattle.wjs_heap_steps.proofs.Making.{near_bare}
use Rattle.wjs_direct_lines.proofs.Constructing.{call_broke, call_given, given_broke, given_value, givens_done, new_callee_waits, new_made, news_first, news_left, prototype_found, script_later}
use Rattle.wjs_direct.proofs.+direct.Goals as goal

pub new_object-new_function-requires : goal.news::new_object-new_function-requires
new_object-new_function-requires g t c =
    let m = g.S.WorldStore.meaning in
    let old = c.args.config.now in
    let f = c.args.frame.now in
    let mid = c.value.new.config in
    let l = c.in-Ok.ensures.later in
    let base : Base m mid = l.base in
    let there : IsThere m mid f = l.frames f c.requires.there in
    let node : StandsHere mid f c.args.node = stands_later m old f mid c.args.node l c.requires.node in
    let empty : c.value.new.stops.waits ≡ [] = c.in-Ok.ensures.found.1 in
    let function : HasObject mid c.in-Object.function = subst (HasValue mid) c.in-Object.is c.in-Ok.ensures.found.0 in
    search (rules, base, there, node, empty, function)

pub new_object-returns-in-Object-clause-later : goal.news::new_object-returns-in-Object-clause-later
new_object-returns-in-Object-clause-later g t c =
    later_then g.S.WorldStore.meaning c.args.config.now c.value.new.config c.new_function.new.config c.new_function.result c.in-Ok.ensures.later c.new_function.ensures.later

pub new_object-returns-in-Object-clause-does : goal.news::new_object-returns-in-Object-clause-does
new_object-returns-in-Object-clause-does g t c =
    let m = g.S.WorldStore.meaning in
    let old = c.args.config.now in
    let mid = c.value.new.config in
    let f = c.args.frame.now in
    let v = c.in-Ok.made in
    let s = c.value.new.stops in
    let k = c.new_function.new in
    let D : Vec Program Global → Value → Type 0 = λ us w. Evaluates m (line_here m mid f (λ t env. line.new_callee (arguments_of (node_in t (node_among us.items f.tree c.args.node))) env (value_in t w))) gives_in c.new_function.result k.stops.waits k.stops.top mid k.config in
    form_goes_on m gives_in gives_in old mid k.config f (AtExpr c.args.callee.0) (λ t env. then_value (line.new_callee (arguments_of (node_in t (node_among old.units.items f.tree c.args.node))) env)) v
    c.new_function.result s.waits s.top k.stops.waits k.stops.top c.in-Ok.ensures.later c.in-Ok.ensures.does
    (subst (λ (us : Vec Program Global). D us v) c.in-Ok.ensures.later.units (subst (D mid.units) (sym c.in-Object.is) c.new_function.ensures.does))

-- the callee is left to a frame

pub new_object-returns-in_default-clause-later : goal.news::new_object-returns-in_default-clause-later
new_object-returns-in_default-clause-later g t c =
    let m = g.S.WorldStore.meaning in
    let l = c.in-Ok.ensures.later in
    later_then m {A = Value} c.args.config.now c.value.new.config c.stop.new.config (Err c.stop.result) l (later_stopped m {A = Value} c.value.new.config c.stop.new.config (Err c.stop.result) l.base c.stop.ensures.same)

pub new_object-returns-in_default-clause-found : goal.news::new_object-returns-in_default-clause-found
new_object-returns-in_default-clause-found g t c =
    let m = g.S.WorldStore.meaning in
    let f = c.args.frame.now in
    let mid = c.value.new.config in
    let l = c.in-Ok.ensures.later in
    let s = c.stop.new.stops in
    stop_found m mid c.stop.new.config f c.args.node [] (phases.Given (points.Expr expr.NewCallee) (completions.Gives c.in-Ok.made)) c.stop.result s.waits s.top c.stop.ensures.same
    (l.frames f c.requires.there) (stands_later m c.args.config.now f mid c.args.node l c.requires.node) tt (tt, c.in-Ok.ensures.found.0) c.stop.ensures.stops

pub new_object-returns-in_default-clause-does : goal.news::new_object-returns-in_default-clause-does
new_object-returns-in_default-clause-does g t c =
    let m = g.S.WorldStore.meaning in
    let old = c.args.config.now in
    let mid = c.value.new.config in
    let new = c.stop.new.config in
    let f = c.args.frame.now in
    let v = c.in-Ok.made in
    let s = c.value.new.stops in
    let k = c.stop.new.stops in
    form_goes_on m gives_in gives_in old mid new f (AtExpr c.args.callee.0) (λ t env. then_value (line.new_callee (arguments_of (node_in t (node_among old.units.items f.tree c.args.node))) env)) v
    (Err c.stop.result) s.waits s.top k.waits k.top c.in-Ok.ensures.later c.in-Ok.ensures.does
    (subst (λ (us : Vec Program Global). Evaluates m (line_here m mid f (λ t env. line.new_callee (arguments_of (node_in t (node_among us.items f.tree c.args.node))) env (value_in t v))) gives_in (Err c.stop.result) k.waits k.top mid new)
    c.in-Ok.ensures.later.units (given_does m gives_in mid new f c.stop.result k.waits k.top c.stop.ensures.same c.args.node [] (points.Expr expr.NewCallee) (completions.Gives v) c.stop.ensures.stops))

pub new_object-returns-in-Err-clause-later : goal.news::new_object-returns-in-Err-clause-later
new_object-returns-in-Err-clause-later g t c =
    let s = c.value.new.stops in
    let k = c.waits.new.stops in
    broke_later g.S.WorldStore.meaning Value Value c.args.config.now c.value.new.config c.waits.new.config c.args.frame.now c.args.node [] (points.Expr expr.NewCallee) c.in-Err.end s.waits s.top c.waits.result k.waits k.top
    c.waits.ensures.same c.waits.ensures.waits c.in-Err.ensures.later

pub new_object-returns-in-Err-clause-found : goal.news::new_object-returns-in-Err-clause-found
new_object-returns-in-Err-clause-found g t c =
    let s = c.value.new.stops in
    let k = c.waits.new.stops in
    broke_found g.S.WorldStore.meaning Value Value c.args.config.now c.value.new.config c.waits.new.config c.args.frame.now c.args.node [] (points.Expr expr.NewCallee) c.in-Err.end s.waits s.top c.waits.result k.waits k.top
    c.waits.ensures.same c.waits.ensures.waits c.in-Err.ensures.later c.requires.there c.requires.node tt tt c.in-Err.ensures.found

pub new_object-returns-in-Err-clause-does : goal.news::new_object-returns-in-Err-clause-does
new_object-returns-in-Err-clause-does g t c =
    let m = g.S.WorldStore.meaning in
    let old = c.args.config.now in
    let f = c.args.frame.now in
    let s = c.value.new.stops in
    let k = c.waits.new.stops in
    broke_does m Value Value old c.value.new.config c.waits.new.config f c.args.node [] (points.Expr expr.NewCallee) c.in-Err.end s.waits s.top c.waits.result k.waits k.top
    c.waits.ensures.same c.waits.ensures.waits gives_in gives_in (AtExpr c.args.callee.0) (λ t env. then_value (line.new_callee (arguments_of (node_in t (node_among old.units.items f.tree c.args.node))) env))
    (new_callee_waits m old c.value.new.config f c.args.node) (λ t env e. refl) c.in-Err.ensures.later c.in-Err.ensures.does

pub new_function-returns-in_default-clause-later : goal.news::new_function-returns-in_default-clause-later
new_function-returns-in_default-clause-later g t c = later_stopped g.S.WorldStore.meaning {A = Value} c.args.config.now c.stop.new.config (Err c.stop.result) c.requires.base c.stop.ensures.same

pub new_function-returns-in_default-clause-found : goal.news::new_function-returns-in_default-clause-found
new_function-returns-in_default-clause-found g t c =
    let s = c.stop.new.stops in
    stop_found g.S.WorldStore.meaning c.args.config.now c.stop.new.config c.args.frame.now c.args.node [] (phases.Given (points.Expr expr.NewCallee) (completions.Gives (values.Object c.args.function))) c.stop.result s.waits s.top c.stop.ensures.same
    c.requires.there c.requires.node tt (tt, c.requires.function) c.stop.ensures.stops

pub new_function-returns-in_default-clause-does : goal.news::new_function-returns-in_default-clause-does
new_function-returns-in_default-clause-does g t c =
    let s = c.stop.new.stops in
    given_does g.S.WorldStore.meaning gives_in c.args.config.now c.stop.new.config c.args.frame.now c.stop.result s.waits s.top c.stop.ensures.same c.args.node [] (points.Expr expr.NewCallee) (completions.Gives (values.Object c.args.function)) c.stop.ensures.stops

-- the arguments

pub new_arguments-loop-next-init : goal.news::new_arguments-loop-next-init
new_arguments-loop-next-init g t c =
    let m = g.S.WorldStore.meaning in
    let old = c.args.config.now in
    let f = c.args.frame.now in
    let left : List Value → Type 0 = λ vs. Leaves m (line_here m old f (news_left m old f c.args.node c.args.function 0 [])) (line_here m old f (news_left m old f c.args.node c.args.function 0 vs)) old old in
    record {
      left = subst left (sym c.new-values.ensures.items) (news_first m old f c.args.node c.args.function);
      later = later_same m old c.requires.base;
      there = All-same (HasValue old) c.new-values.result.items [] c.new-values.ensures.items (All-nil (HasValue old));
      empty = c.requires.empty;
    }

pub new_arguments-value-requires : goal.news::new_arguments-value-requires
new_arguments-value-requires g t c =
    let m = g.S.WorldStore.meaning in
    let old = c.args.config.now in
    let f = c.args.frame.now in
    let mid = c.loop-next.config in
    let l = c.loop-next.invariant.later in
    let base : Base m mid = l.base in
    let there : IsThere m mid f = l.frames f c.requires.there in
    let node : StandsHere mid f c.in-Some.next = argument_stands m mid f c.args.node c.loop-next.at c.in-Some.next there (stands_later m old f mid c.args.node l c.requires.node) c.in-Some.ensures in
    let empty : c.loop-next.stops.waits ≡ [] = c.loop-next.invariant.empty in
    search (rules, base, there, node, empty)

pub new_arguments-returns-in-Err-clause-later : goal.news::new_arguments-returns-in-Err-clause-later
new_arguments-returns-in-Err-clause-later g t c =
    let m = g.S.WorldStore.meaning in
    let held = call_held (values.Object c.args.function) values.Undefined c.loop-next.values.items in
    let s = c.value.new.stops in
    let k = c.argument_waits.new in
    let waits = subst (λ (us : List Value). WaitsAt (at_node c.args.frame.now c.args.node (call_held (values.Object c.args.function) values.Undefined us)) (points.Expr (expr.NewArgument c.loop-next.at)) c.in-Err.end s.waits s.top c.argument_waits.result k.stops.waits k.stops.top)
    c.as_slice-values.ensures.value c.argument_waits.ensures.waits in
    later_then m {A = Value} c.args.config.now c.loop-next.config k.config (Err c.argument_waits.result) c.loop-next.invariant.later
    (broke_later m Value Value c.loop-next.config c.value.new.config k.config c.args.frame.now c.args.node held (points.Expr (expr.NewArgument c.loop-next.at)) c.in-Err.end s.waits s.top c.argument_waits.result k.stops.waits k.stops.top
    c.argument_waits.ensures.same waits c.in-Err.ensures.later)

pub new_arguments-returns-in-Err-clause-found : goal.news::new_arguments-returns-in-Err-clause-found
new_arguments-returns-in-Err-clause-found g t c =
    let m = g.S.WorldStore.meaning in
    let l = c.loop-next.invariant.later in
    let f = c.args.frame.now in
    let callee = values.Object c.args.function in
    let vs = c.loop-next.values.items in
    let s = c.value.new.stops in
    let k = c.argument_waits.new in
    let waits = subst (λ (us : List Value). WaitsAt (at_node f c.args.node (call_held callee values.Undefined us)) (points.Expr (expr.NewArgument c.loop-next.at)) c.in-Err.end s.waits s.top c.argument_waits.result k.stops.waits k.stops.top)
    c.as_slice-values.ensures.value c.argument_waits.ensures.waits in
    broke_found m Value Value c.loop-next.config c.value.new.config k.config f c.args.node (call_held callee values.Undefined vs) (points.Expr (expr.NewArgument c.loop-next.at)) c.in-Err.end s.waits s.top c.argument_waits.result k.stops.waits k.stops.top
    c.argument_waits.ensures.same waits c.in-Err.ensures.later (l.frames f c.requires.there) (stands_later m c.args.config.now f c.loop-next.config c.args.node l c.requires.node)
    (call_there c.loop-next.config callee values.Undefined vs (l.objects c.args.function c.requires.function) tt c.loop-next.invariant.there) tt c.in-Err.ensures.found

pub new_arguments-returns-in-Err-clause-does : goal.news::new_arguments-returns-in-Err-clause-does
new_arguments-returns-in-Err-clause-does g t c =
    let inv = c.loop-next.invariant in
    let s = c.value.new.stops in
    let k = c.argument_waits.new in
    let waits = subst (λ (us : List Value). WaitsAt (at_node c.args.frame.now c.args.node (call_held (values.Object c.args.function) values.Undefined us)) (points.Expr (expr.NewArgument c.loop-next.at)) c.in-Err.end s.waits s.top c.argument_waits.result k.stops.waits k.stops.top)
    c.as_slice-values.ensures.value c.argument_waits.ensures.waits in
    given_broke g.S.WorldStore.meaning c.args.config.now c.args.frame.now c.args.node c.args.function c.loop-next.config inv.later c.loop-next.at c.loop-next.values.items inv.left c.in-Some.next c.in-Some.ensures
    c.in-Err.end s.waits s.top c.argument_waits.result k.stops.waits k.stops.top c.value.new.config k.config c.argument_waits.ensures.same c.in-Err.ensures.later c.in-Err.ensures.does waits

pub new_arguments-loop-next-preserved : goal.news::new_arguments-loop-next-preserved
new_arguments-loop-next-preserved g t c =
    let m = g.S.WorldStore.meaning in
    let old = c.args.config.now in
    let mid = c.loop-next.config in
    let new = c.value.new.config in
    let f = c.args.frame.now in
    let at = c.loop-next.at in
    let vs = c.loop-next.values.items in
    let v = c.in-Ok.given in
    let inv = c.loop-next.invariant in
    let left : ℕ → List Value → Type 0 = λ k us. Leaves m (line_here m old f (news_left m old f c.args.node c.args.function 0 [])) (line_here m old f (news_left m old f c.args.node c.args.function k us)) old new in
    record {
      left = subst (λ (us : List Value). left c.in_ok-at.at us) (sym c.in_ok-push-in-Ok.ensures) (subst (λ (k : ℕ). left k (vs ++ v ∷ [])) (sym c.in_ok-at.ensures)
          (given_value m old f c.args.node c.args.function mid inv.later at vs inv.left c.in-Some.next c.in-Some.ensures v c.value.new.stops.waits c.value.new.stops.top new c.in-Ok.ensures.does));
      later = later_twice m old mid new inv.later c.in-Ok.ensures.later;
      there = All-same (HasValue new) c.push.new.values.items (vs ++ v ∷ []) c.in_ok-push-in-Ok.ensures (All-push (HasValue new) vs v (values_later m mid new vs c.in-Ok.ensures.later inv.there) c.in-Ok.ensures.found.0);
      empty = c.in-Ok.ensures.found.1;
    }

pub new_arguments-constructed-requires : goal.news::new_arguments-constructed-requires
new_arguments-constructed-requires g t c =
    let m = g.S.WorldStore.meaning in
    let old = c.args.config.now in
    let f = c.args.frame.now in
    let mid = c.loop-next.config in
    let l = c.loop-next.invariant.later in
    let base : Base m mid = l.base in
    let there : IsThere m mid f = l.frames f c.requires.there in
    let node : StandsHere mid f c.args.node = stands_later m old f mid c.args.node l c.requires.node in
    let empty : c.loop-next.stops.waits ≡ [] = c.loop-next.invariant.empty in
    let function : HasObject mid c.args.function = l.objects c.args.function c.requires.function in
    let values : All (HasValue mid) c.as_slice.result.now = All-same (HasValue mid) c.as_slice.result.now c.loop-next.values.items c.as_slice.ensures.value c.loop-next.invariant.there in
    let code : IsScript mid c.args.function c.args.tree c.args.body = script_later m old mid c.args.function c.args.tree c.args.body l c.requires.function c.requires.code in
    search (rules, base, there, node, empty, function, values, code)

pub new_arguments-returns-clause-later : goal.news::new_arguments-returns-clause-later
new_arguments-returns-clause-later g t c = later_then g.S.WorldStore.meaning c.args.config.now c.loop-next.config c.constructed.new.config c.constructed.result c.loop-next.invariant.later c.constructed.ensures.later

pub new_arguments-returns-clause-does : goal.news::new_arguments-returns-clause-does
new_arguments-returns-clause-does g t c =
    let m = g.S.WorldStore.meaning in
    let mid = c.loop-next.config in
    let f = c.args.frame.now in
    let k = c.constructed.new in
    let inv = c.loop-next.invariant in
    givens_done m c.args.config.now f c.args.node c.args.function mid inv.later c.loop-next.at c.loop-next.values.items inv.left c.constructed.result k.stops.waits k.stops.top k.config c.in_default.ensures
    (subst (λ (vs : List Value). Evaluates m (line_here m mid f (λ t env. construct (Object c.args.function) env (map (value_in t) vs))) gives_in c.constructed.result k.stops.waits k.stops.top mid k.config) c.as_slice.ensures.value c.constructed.ensures.does)

-- the new object

pub constructed-create-requires : goal.news::constructed-create-requires
constructed-create-requires g t c =
    let m = g.S.WorldStore.meaning in
    let mid = c.prototype_of.new.config in
    let base : Base m mid = c.in_ok-prototype.ensures.later.base in
    let prototype : HasObject mid c.in_ok-prototype.prototype = c.in_ok-prototype.ensures.found in
    let near = near_bare mid.apart.items c.object_of.result class.Plain (Some c.in_ok-prototype.prototype) c.object_of.ensures prototype.1 in
    search (rules, base, prototype, near)

-- the call on it

pub constructed-body_entered-requires : goal.news::constructed-body_entered-requires
constructed-body_entered-requires g t c =
    let m = g.S.WorldStore.meaning in
    let old = c.args.config.now in
    let f = c.args.frame.now in
    let made = c.create.new.config in
    let l = later_twice m old c.prototype_of.new.config made c.in_ok-prototype.ensures.later c.in_ok-object.ensures.later in
    let base : Base m made = l.base in
    let there : IsThere m made f = l.frames f c.requires.there in
    let node : StandsHere made f c.args.node = stands_later m old f made c.args.node l c.requires.node in
    let empty : c.args.stops.now.waits ≡ [] = c.requires.empty in
    let function : HasObject made c.args.function = l.objects c.args.function c.requires.function in
    let this : HasObject made c.in_ok-object.object = c.in_ok-object.ensures.found in
    let values : All (HasValue made) c.args.values.now = values_later m old made c.args.values.now l c.requires.values in
    let code : IsScript made c.args.function c.args.tree c.args.body = script_later m old made c.args.function c.args.tree c.args.body l c.requires.function c.requires.code in
    search (rules, base, there, node, empty, function, this, values, code)

pub constructed-result_of_new-requires : goal.news::constructed-result_of_new-requires
constructed-result_of_new-requires g t c = record { object = c.in-Ok.ensures.later.objects c.in_ok-object.object c.in_ok-object.ensures.found; given = c.in-Ok.ensures.found.0 }

pub constructed-returns-in-Ok-clause-later : goal.news::constructed-returns-in-Ok-clause-later
constructed-returns-in-Ok-clause-later g t c =
    let m = g.S.WorldStore.meaning in
    let old = c.args.config.now in
    let made = c.create.new.config in
    later_twice m old made c.body_entered.new.config (later_twice m old c.prototype_of.new.config made c.in_ok-prototype.ensures.later c.in_ok-object.ensures.later) c.in-Ok.ensures.later

pub constructed-returns-in-Ok-clause-found : goal.news::constructed-returns-in-Ok-clause-found
constructed-returns-in-Ok-clause-found g t c = (c.result_of_new.ensures.found, c.in-Ok.ensures.found.1)

pub constructed-returns-in-Ok-clause-does : goal.news::constructed-returns-in-Ok-clause-does
constructed-returns-in-Ok-clause-does g t c =
    let m = g.S.WorldStore.meaning in
    let old = c.args.config.now in
    let f = c.args.frame.now in
    let callee = c.args.function in
    let mid = c.prototype_of.new.config in
    let made = c.create.new.config in
    let new = c.body_entered.new.config in
    let p = c.in_ok-prototype.prototype in
    let o = c.in_ok-object.object in
    let vs = c.args.values.now in
    let s = c.body_entered.new.stops in
    let l = later_twice m old mid made c.in_ok-prototype.ensures.later c.in_ok-object.ensures.later in
    prototype_found m old mid new f callee c.args.tree c.args.body p vs (Ok c.result_of_new.result) s.waits s.top c.requires.function c.requires.code c.in_ok-prototype.ensures.does c.in_ok-prototype.ensures.later
    (new_made m mid made new f callee p o vs (Ok c.result_of_new.result) s.waits s.top (c.in_ok-object.ensures.makes (λ u. object_of class.Plain (Some p)) (λ u more. ap (object_in u) c.object_of.ensures)) c.in_ok-object.ensures.later
    (call_given m made new f callee o vs c.args.tree c.args.body (l.objects callee c.requires.function) (script_later m old made callee c.args.tree c.args.body l c.requires.function c.requires.code)
    c.in-Ok.given c.result_of_new.result s.waits s.top s.waits s.top c.in-Ok.ensures.later c.in-Ok.ensures.does c.result_of_new.ensures.is))

pub constructed-returns-in-Err-clause-later : goal.news::constructed-returns-in-Err-clause-later
constructed-returns-in-Err-clause-later g t c =
    let m = g.S.WorldStore.meaning in
    let old = c.args.config.now in
    let made = c.create.new.config in
    let s = c.body_entered.new.stops in
    let k = c.waits_holding.new in
    later_then m {A = Value} old made k.config (Err c.waits_holding.result) (later_twice m old c.prototype_of.new.config made c.in_ok-prototype.ensures.later c.in_ok-object.ensures.later)
    (broke_later m Value Value made c.body_entered.new.config k.config c.args.frame.now c.args.node (holds.Value (values.Object c.in_ok-object.object) ∷ []) (points.Expr expr.NewCall) c.in-Err.end s.waits s.top c.waits_holding.result k.stops.waits k.stops.top
    c.waits_holding.ensures.same c.waits_holding.ensures.waits c.in-Err.ensures.later)

pub constructed-returns-in-Err-clause-found : goal.news::constructed-returns-in-Err-clause-found
constructed-returns-in-Err-clause-found g t c =
    let m = g.S.WorldStore.meaning in
    let old = c.args.config.now in
    let f = c.args.frame.now in
    let made = c.create.new.config in
    let s = c.body_entered.new.stops in
    let k = c.waits_holding.new in
    let l = later_twice m old c.prototype_of.new.config made c.in_ok-prototype.ensures.later c.in_ok-object.ensures.later in
    broke_found m Value Value made c.body_entered.new.config k.config f c.args.node (holds.Value (values.Object c.in_ok-object.object) ∷ []) (points.Expr expr.NewCall) c.in-Err.end s.waits s.top c.waits_holding.result k.stops.waits k.stops.top
    c.waits_holding.ensures.same c.waits_holding.ensures.waits c.in-Err.ensures.later (l.frames f c.requires.there) (stands_later m old f made c.args.node l c.requires.node) (c.in_ok-object.ensures.found, tt) tt c.in-Err.ensures.found

pub constructed-returns-in-Err-clause-does : goal.news::constructed-returns-in-Err-clause-does
constructed-returns-in-Err-clause-does g t c =
    let m = g.S.WorldStore.meaning in
    let old = c.args.config.now in
    let f = c.args.frame.now in
    let callee = c.args.function in
    let mid = c.prototype_of.new.config in
    let made = c.create.new.config in
    let p = c.in_ok-prototype.prototype in
    let o = c.in_ok-object.object in
    let vs = c.args.values.now in
    let s = c.body_entered.new.stops in
    let k = c.waits_holding.new in
    let l = later_twice m old mid made c.in_ok-prototype.ensures.later c.in_ok-object.ensures.later in
    prototype_found m old mid k.config f callee c.args.tree c.args.body p vs (Err c.waits_holding.result) k.stops.waits k.stops.top c.requires.function c.requires.code c.in_ok-prototype.ensures.does c.in_ok-prototype.ensures.later
    (new_made m mid made k.config f callee p o vs (Err c.waits_holding.result) k.stops.waits k.stops.top (c.in_ok-object.ensures.makes (λ u. object_of class.Plain (Some p)) (λ u more. ap (object_in u) c.object_of.ensures)) c.in_ok-object.ensures.later
    (call_broke m made c.body_entered.new.config f callee o vs c.args.tree c.args.body (l.objects callee c.requires.function) (script_later m old made callee c.args.tree c.args.body l c.requires.function c.requires.code)
    k.config c.args.node c.in-Err.end s.waits s.top c.waits_holding.result k.stops.waits k.stops.top c.waits_holding.ensures.same c.waits_holding.ensures.waits c.in-Err.ensures.later c.in-Err.ensures.does))
