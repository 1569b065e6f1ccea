-- What holds of the functions of `calls`.
use Rattle.std.proofs.Common.{◌≡◌, ◌-◌, rules, [], ◌∷◌, refl, ◌∙◌, subst, sym, Vec, Global, ℕ, List, ◌++◌}
use Rattle.std.specs.Prelude.{Err, map, All}
use Rattle.std.proofs.lemmas.List.Elements.{All-nil, All-push, All-same}
use Rattle.wjs_base.specs.declared.ids.ObjId.{ObjId}
use Rattle.wjs_base.specs.declared.values.Value.{Value}
use Rattle.wjs_base.specs.declared.values.Value.TheVariants as values
use Rattle.wjs_base.specs.Text.{Table}
use Rattle.wjs_by_content.specs.Tables.{value_in}
use Rattle.wjs_by_content.specs.Values.{Object, Undefined}
use Rattle.wjs_meaning.specs.Deeds.{Act, AtExpr, AtTarget, Env, Gives, then_reference, then_value}
use Rattle.wjs_meaning.specs.Reading.{node_in}
use Rattle.wjs_meaning.specs.Expressions.{call_callee, call_reference, call_values}
use Rattle.wjs_meaning.specs.Calls.{call}
use Rattle.wjs_model.specs.Contents.{reference_in}
use Rattle.wjs_model.specs.Lists.{arguments_of}
use Rattle.wjs_model.specs.Operands.{evaluated}
use Rattle.wjs_model.specs.Soundness.{Base, HasValue, IsThere, StandsHere, HasObject, HasReference}
use Rattle.wjs_model.specs.declared.config.Config.{Config}
use Rattle.wjs_model.specs.declared.frame.Reference.{Reference}
use Rattle.wjs_model.specs.declared.loaded.LoadedProgram.{LoadedProgram as Program}
use Rattle.wjs_model.specs.declared.frame.Phase.TheVariants as phases
use Rattle.wjs_model.specs.declared.point.Start.TheVariants as starts
use Rattle.wjs_model.specs.declared.point.Point.TheVariants as points
use Rattle.wjs_model.specs.declared.point.ExprPoint.TheVariants as expr
use Rattle.wjs_frames.specs.Following.{Later}
use Rattle.wjs_frames.specs.Parts.{env_in, node_among}
use Rattle.wjs_frames.proofs.Parting.{stands_later}
use Rattle.wjs_frames.proofs.Shorter.{shorten_sub}
use Rattle.wjs_heap_steps.specs.Peeking.{Peeks}
use Rattle.wjs_heap_steps.proofs.Later.{later_same, later_twice}
use Rattle.wjs_quick.proofs.Coming.{later_left, one_less}
use Rattle.wjs_stopping.specs.Ends.{gives_in}
use Rattle.wjs_stopping.specs.Evaluating.{Evaluates, Leaves}
use Rattle.wjs_stopping.specs.Waiting.{WaitsAt, at_node}
use Rattle.wjs_direct_lines.specs.Deeds.{line_here, refers_in, call_held}
use Rattle.wjs_direct_lines.proofs.Forming.{form_goes_on}
use Rattle.wjs_direct_lines.proofs.Parts.{broke_does, broke_found, broke_later, later_stopped, later_then, stop_found, shortened}
use Rattle.wjs_direct_lines.proofs.NativeCalls.{native_entered}
use Rattle.wjs_direct_lines.proofs.Calling.{callee_stands, call_entered, value_entered, callee_waits, callee_valued, argument_stands, values_later, values_left, values_first, argument_given, argument_broken, arguments_done, call_looks, call_does, script_entered, body_does, body_found, body_paid}
use Rattle.wjs_direct_lines.proofs.Holdings.{call_there}
use Rattle.wjs_direct_lines.proofs.Assigning.{broken_as}
use Rattle.wjs_direct_lines.proofs.ReferenceReading.{callee_goes, look_reads}
use Rattle.wjs_direct.proofs.+direct.Goals as goal

-- ---- calls: the callee

pub call-target_called-requires : goal.calls::call-target_called-requires
call-target_called-requires g t c =
    let m = g.S.WorldStore.meaning in
    let old = c.args.config.now in
    let f = c.args.frame.now in
    let callee : StandsHere old f c.args.callee = callee_stands m old f c.args.node c.args.callee c.requires.callee.0 c.requires.callee.1 c.requires.there c.requires.node in
    search (rules, callee)

pub call-returns-then-is_target-clause-does : goal.calls::call-returns-then-is_target-clause-does
call-returns-then-is_target-clause-does g t c =
    let new = c.target_called.new in
    call_entered g.S.WorldStore.meaning c.args.config.now c.args.frame.now c.args.node c.args.callee c.requires.callee.0 c.requires.callee.1 gives_in c.target_called.result new.stops.waits new.stops.top new.config
    (λ t. c.is_target.ensures t ∙ c.if-is_target.true) c.target_called.ensures.does

pub call-value_called-requires : goal.calls::call-value_called-requires
call-value_called-requires g t c =
    let m = g.S.WorldStore.meaning in
    let old = c.args.config.now in
    let f = c.args.frame.now in
    let callee : StandsHere old f c.args.callee = callee_stands m old f c.args.node c.args.callee c.requires.callee.0 c.requires.callee.1 c.requires.there c.requires.node in
    search (rules, callee)

pub call-returns-else-is_target-clause-does : goal.calls::call-returns-else-is_target-clause-does
call-returns-else-is_target-clause-does g t c =
    let new = c.value_called.new in
    value_entered g.S.WorldStore.meaning c.args.config.now c.args.frame.now c.args.node c.args.callee c.requires.callee.0 c.requires.callee.1 gives_in c.value_called.result new.stops.waits new.stops.top new.config
    (λ t. c.is_target.ensures t ∙ c.if-is_target.false) c.value_called.ensures.does

pub target_called-peek_value_of-requires : goal.calls::target_called-peek_value_of-requires
target_called-peek_value_of-requires g t c =
    let l = c.in-Ok.ensures.later in
    record { base = l.base; there = l.frames c.args.frame.now c.requires.there; reference = c.in-Ok.ensures.found.0 }

pub target_called-base_of-this-requires : goal.calls::target_called-base_of-this-requires
target_called-base_of-this-requires g t c = c.in-Ok.ensures.found.0

pub target_called-evaluate_arguments-requires : goal.calls::target_called-evaluate_arguments-requires
target_called-evaluate_arguments-requires g t c =
    let m = g.S.WorldStore.meaning in
    let old = c.args.config.now in
    let f = c.args.frame.now in
    let mid = c.target.new.config in
    let l = c.in-Ok.ensures.later in
    let base : Base m mid = l.base in
    let there : IsThere m mid f = l.frames f c.requires.there in
    let node : StandsHere mid f c.args.node = stands_later m old f mid c.args.node l c.requires.node in
    let empty : c.target.new.stops.waits ≡ [] = c.in-Ok.ensures.found.1 in
    let function : HasObject mid c.in-Some-Object.function = subst (HasValue mid) c.in-Some-Object.field-0-is c.in-Some-Object.ensures.found in
    let this : HasValue mid c.base_of-this.result = c.base_of-this.ensures.found in
    search (rules, base, there, node, empty, function, this)

pub target_called-callee_read-requires : goal.calls::target_called-callee_read-requires
target_called-callee_read-requires g t c =
    let m = g.S.WorldStore.meaning in
    let old = c.args.config.now in
    let f = c.args.frame.now in
    let mid = c.target.new.config in
    let l = c.in-Ok.ensures.later in
    let base : Base m mid = l.base in
    let there : IsThere m mid f = l.frames f c.requires.there in
    let node : StandsHere mid f c.args.node = stands_later m old f mid c.args.node l c.requires.node in
    let empty : c.target.new.stops.waits ≡ [] = c.in-Ok.ensures.found.1 in
    let reference : HasReference mid c.in-Ok.reference = c.in-Ok.ensures.found.0 in
    search (rules, base, there, node, empty, reference)

pub target_called-returns-in-Some-Object-clause-later : goal.calls::target_called-returns-in-Some-Object-clause-later
target_called-returns-in-Some-Object-clause-later g t c =
    later_then g.S.WorldStore.meaning c.args.config.now c.target.new.config c.evaluate_arguments.new.config c.evaluate_arguments.result c.in-Ok.ensures.later c.evaluate_arguments.ensures.later

pub target_called-returns-in-Some-Object-clause-does : goal.calls::target_called-returns-in-Some-Object-clause-does
target_called-returns-in-Some-Object-clause-does g t c =
    let m = g.S.WorldStore.meaning in
    let old = c.args.config.now in
    let mid = c.target.new.config in
    let f = c.args.frame.now in
    let r = c.in-Ok.reference in
    let k = c.evaluate_arguments.new in
    let found = values.Object c.in-Some-Object.function in
    let reads = look_reads m mid f r found (subst (λ (v : Value). Peeks m (λ u. evaluated (reference_in u r) (env_in m mid u f)) (λ u. Gives (value_in u v)) mid) c.in-Some-Object.field-0-is c.in-Some-Object.ensures.peeks) in
    form_goes_on m refers_in gives_in old mid k.config f (AtTarget c.args.callee.0) (λ t env. then_reference (call_reference (arguments_of (node_in t (node_among old.units.items f.tree c.args.node))) env)) r
    c.evaluate_arguments.result c.target.new.stops.waits c.target.new.stops.top k.stops.waits k.stops.top c.in-Ok.ensures.later c.in-Ok.ensures.does
    (subst (λ (us : Vec Program Global). Evaluates m (line_here m mid f (λ t env. call_reference (arguments_of (node_in t (node_among us.items f.tree c.args.node))) env (reference_in t r))) gives_in c.evaluate_arguments.result k.stops.waits k.stops.top mid k.config)
    c.in-Ok.ensures.later.units (callee_goes m mid mid k.config f r (λ u. arguments_of (node_in u (node_among mid.units.items f.tree c.args.node))) found c.base_of-this.result c.evaluate_arguments.result k.stops.waits k.stops.top
    (later_same m mid c.in-Ok.ensures.later.base) reads c.base_of-this.ensures.is c.evaluate_arguments.ensures.does))

pub target_called-returns-in_default-clause-later : goal.calls::target_called-returns-in_default-clause-later
target_called-returns-in_default-clause-later g t c =
    later_then g.S.WorldStore.meaning c.args.config.now c.target.new.config c.callee_read.new.config c.callee_read.result c.in-Ok.ensures.later c.callee_read.ensures.later

pub target_called-returns-in_default-clause-does : goal.calls::target_called-returns-in_default-clause-does
target_called-returns-in_default-clause-does g t c =
    let m = g.S.WorldStore.meaning in
    let old = c.args.config.now in
    let mid = c.target.new.config in
    let f = c.args.frame.now in
    let r = c.in-Ok.reference in
    let k = c.callee_read.new in
    form_goes_on m refers_in gives_in old mid k.config f (AtTarget c.args.callee.0) (λ t env. then_reference (call_reference (arguments_of (node_in t (node_among old.units.items f.tree c.args.node))) env)) r
    c.callee_read.result c.target.new.stops.waits c.target.new.stops.top k.stops.waits k.stops.top c.in-Ok.ensures.later c.in-Ok.ensures.does
    (subst (λ (us : Vec Program Global). Evaluates m (line_here m mid f (λ t env. call_reference (arguments_of (node_in t (node_among us.items f.tree c.args.node))) env (reference_in t r))) gives_in c.callee_read.result k.stops.waits k.stops.top mid k.config)
    c.in-Ok.ensures.later.units c.callee_read.ensures.does)

pub target_called-returns-in-Err-clause-found : goal.calls::target_called-returns-in-Err-clause-found
target_called-returns-in-Err-clause-found g t c =
    let stops = c.target.new.stops in
    let new = c.waits.new in
    broke_found g.S.WorldStore.meaning Reference Value c.args.config.now c.target.new.config new.config c.args.frame.now c.args.node [] (points.Expr expr.CalleeTarget) c.in-Err.end stops.waits stops.top c.waits.result new.stops.waits new.stops.top
    c.waits.ensures.same c.waits.ensures.waits c.in-Err.ensures.later c.requires.there c.requires.node tt tt c.in-Err.ensures.found

pub target_called-returns-in-Err-clause-does : goal.calls::target_called-returns-in-Err-clause-does
target_called-returns-in-Err-clause-does g t c =
    let m = g.S.WorldStore.meaning in
    let old = c.args.config.now in
    let f = c.args.frame.now in
    let stops = c.target.new.stops in
    let new = c.waits.new in
    broke_does m Reference Value old c.target.new.config new.config f c.args.node [] (points.Expr expr.CalleeTarget) c.in-Err.end stops.waits stops.top c.waits.result new.stops.waits new.stops.top
    c.waits.ensures.same c.waits.ensures.waits refers_in gives_in (AtTarget c.args.callee.0) (λ t env. then_reference (call_reference (arguments_of (node_in t (node_among old.units.items f.tree c.args.node))) env))
    (callee_waits m old c.target.new.config f c.args.node) (λ t env e. refl) c.in-Err.ensures.later c.in-Err.ensures.does

pub callee_read-evaluate_arguments-requires : goal.calls::callee_read-evaluate_arguments-requires
callee_read-evaluate_arguments-requires g t c =
    let m = g.S.WorldStore.meaning in
    let old = c.args.config.now in
    let f = c.args.frame.now in
    let mid = c.callee_of.new.config in
    let l = c.in-Ok.ensures.later in
    let base : Base m mid = l.base in
    let there : IsThere m mid f = l.frames f c.requires.there in
    let node : StandsHere mid f c.args.node = stands_later m old f mid c.args.node l c.requires.node in
    let empty : c.callee_of.new.stops.waits ≡ [] = c.in-Ok.ensures.found.1 in
    let function : HasObject mid c.in-Ok.function = c.in-Ok.ensures.found.0 in
    let this : HasValue mid c.base_of-this.result = l.values c.base_of-this.result c.base_of-this.ensures.found in
    search (rules, base, there, node, empty, function, this)

pub callee_read-returns-in-Ok-clause-later : goal.calls::callee_read-returns-in-Ok-clause-later
callee_read-returns-in-Ok-clause-later g t c =
    later_then g.S.WorldStore.meaning c.args.config.now c.callee_of.new.config c.evaluate_arguments.new.config c.evaluate_arguments.result c.in-Ok.ensures.later c.evaluate_arguments.ensures.later

pub callee_read-returns-in-Ok-clause-does : goal.calls::callee_read-returns-in-Ok-clause-does
callee_read-returns-in-Ok-clause-does g t c =
    let m = g.S.WorldStore.meaning in
    let old = c.args.config.now in
    let mid = c.callee_of.new.config in
    let f = c.args.frame.now in
    let k = c.evaluate_arguments.new in
    let this = c.base_of-this.result in
    callee_goes m old mid k.config f c.args.reference (λ u. arguments_of (node_in u (node_among old.units.items f.tree c.args.node))) (values.Object c.in-Ok.function) this c.evaluate_arguments.result k.stops.waits k.stops.top
    c.in-Ok.ensures.later c.in-Ok.ensures.does c.base_of-this.ensures.is
    (subst (λ (us : Vec Program Global). Evaluates m (line_here m mid f (λ u env. call_callee (arguments_of (node_in u (node_among us.items f.tree c.args.node))) (value_in u this) env (Object c.in-Ok.function))) gives_in c.evaluate_arguments.result k.stops.waits k.stops.top mid k.config)
    c.in-Ok.ensures.later.units c.evaluate_arguments.ensures.does)

pub callee_read-returns-in-Err-clause-later : goal.calls::callee_read-returns-in-Err-clause-later
callee_read-returns-in-Err-clause-later g t c = broken_as ObjId Value (Later g.S.WorldStore.meaning c.args.config.now c.callee_of.new.config) c.in-Err.end c.in-Err.ensures.later

pub callee_read-returns-in-Err-clause-found : goal.calls::callee_read-returns-in-Err-clause-found
callee_read-returns-in-Err-clause-found g t c = c.in-Err.ensures.found

pub callee_read-returns-in-Err-clause-does : goal.calls::callee_read-returns-in-Err-clause-does
callee_read-returns-in-Err-clause-does g t c = c.in-Err.ensures.does

-- ---- calls: a callee that is no target

pub value_called-callee_given-requires : goal.calls::value_called-callee_given-requires
value_called-callee_given-requires g t c =
    let m = g.S.WorldStore.meaning in
    let old = c.args.config.now in
    let f = c.args.frame.now in
    let mid = c.value.new.config in
    let l = c.in-Ok.ensures.later in
    let base : Base m mid = l.base in
    let there : IsThere m mid f = l.frames f c.requires.there in
    let node : StandsHere mid f c.args.node = stands_later m old f mid c.args.node l c.requires.node in
    let empty : c.value.new.stops.waits ≡ [] = c.in-Ok.ensures.found.1 in
    let given : HasValue mid c.in-Ok.given = c.in-Ok.ensures.found.0 in
    search (rules, base, there, node, empty, given)

pub value_called-returns-in-Ok-clause-later : goal.calls::value_called-returns-in-Ok-clause-later
value_called-returns-in-Ok-clause-later g t c = later_then g.S.WorldStore.meaning c.args.config.now c.value.new.config c.callee_given.new.config c.callee_given.result c.in-Ok.ensures.later c.callee_given.ensures.later

pub value_called-returns-in-Ok-clause-does : goal.calls::value_called-returns-in-Ok-clause-does
value_called-returns-in-Ok-clause-does g t c =
    let m = g.S.WorldStore.meaning in
    let old = c.args.config.now in
    let mid = c.value.new.config in
    let new = c.callee_given.new in
    let f = c.args.frame.now in
    let v = c.in-Ok.given in
    form_goes_on m gives_in gives_in old mid new.config f (AtExpr c.args.callee.0) (λ t env. then_value (call_callee (arguments_of (node_in t (node_among old.units.items f.tree c.args.node))) Undefined env)) v
    c.callee_given.result c.value.new.stops.waits c.value.new.stops.top new.stops.waits new.stops.top c.in-Ok.ensures.later c.in-Ok.ensures.does
    (subst (λ (us : Vec Program Global). Evaluates m (line_here m mid f (λ t env. call_callee (arguments_of (node_in t (node_among us.items f.tree c.args.node))) Undefined env (value_in t v))) gives_in c.callee_given.result new.stops.waits new.stops.top mid new.config)
    c.in-Ok.ensures.later.units c.callee_given.ensures.does)

pub value_called-returns-in-Err-clause-found : goal.calls::value_called-returns-in-Err-clause-found
value_called-returns-in-Err-clause-found g t c =
    let stops = c.value.new.stops in
    let new = c.waits.new in
    broke_found g.S.WorldStore.meaning Value Value c.args.config.now c.value.new.config new.config c.args.frame.now c.args.node [] (points.Expr expr.CalleeValue) c.in-Err.end stops.waits stops.top c.waits.result new.stops.waits new.stops.top
    c.waits.ensures.same c.waits.ensures.waits c.in-Err.ensures.later c.requires.there c.requires.node tt tt c.in-Err.ensures.found

pub value_called-returns-in-Err-clause-does : goal.calls::value_called-returns-in-Err-clause-does
value_called-returns-in-Err-clause-does g t c =
    let m = g.S.WorldStore.meaning in
    let old = c.args.config.now in
    let f = c.args.frame.now in
    let stops = c.value.new.stops in
    let new = c.waits.new in
    broke_does m Value Value old c.value.new.config new.config f c.args.node [] (points.Expr expr.CalleeValue) c.in-Err.end stops.waits stops.top c.waits.result new.stops.waits new.stops.top
    c.waits.ensures.same c.waits.ensures.waits gives_in gives_in (AtExpr c.args.callee.0) (λ t env. then_value (call_callee (arguments_of (node_in t (node_among old.units.items f.tree c.args.node))) Undefined env))
    (callee_valued m old c.value.new.config f c.args.node) (λ t env e. refl) c.in-Err.ensures.later c.in-Err.ensures.does

pub callee_given-evaluate_arguments-requires : goal.calls::callee_given-evaluate_arguments-requires
callee_given-evaluate_arguments-requires g t c =
    let m = g.S.WorldStore.meaning in
    let old = c.args.config.now in
    let f = c.args.frame.now in
    let mid = c.callee_object.new.config in
    let l = c.in-Ok.ensures.later in
    let base : Base m mid = l.base in
    let there : IsThere m mid f = l.frames f c.requires.there in
    let node : StandsHere mid f c.args.node = stands_later m old f mid c.args.node l c.requires.node in
    let empty : c.callee_object.new.stops.waits ≡ [] = c.in-Ok.ensures.found.1 in
    let function : HasObject mid c.in-Ok.function = c.in-Ok.ensures.found.0 in
    search (rules, base, there, node, empty, function)

pub callee_given-returns-in-Ok-clause-later : goal.calls::callee_given-returns-in-Ok-clause-later
callee_given-returns-in-Ok-clause-later g t c =
    later_then g.S.WorldStore.meaning c.args.config.now c.callee_object.new.config c.evaluate_arguments.new.config c.evaluate_arguments.result c.in-Ok.ensures.later c.evaluate_arguments.ensures.later

pub callee_given-returns-in-Ok-clause-does : goal.calls::callee_given-returns-in-Ok-clause-does
callee_given-returns-in-Ok-clause-does g t c =
    let m = g.S.WorldStore.meaning in
    let mid = c.callee_object.new.config in
    let f = c.args.frame.now in
    let k = c.evaluate_arguments.new in
    let act : Config g.row.S.Denot → Value → Table → Env → Act = λ x v t env. call_callee (arguments_of (node_in t (node_among x.units.items f.tree c.args.node))) Undefined env (value_in t v) in
    subst (λ (x : Config g.row.S.Denot). Evaluates m (line_here m x f (act x c.args.callee)) gives_in c.evaluate_arguments.result k.stops.waits k.stops.top x k.config) c.callee_object.ensures.same
    (subst (λ (v : Value). Evaluates m (line_here m mid f (act mid v)) gives_in c.evaluate_arguments.result k.stops.waits k.stops.top mid k.config) (sym c.in-Ok.ensures.is) c.evaluate_arguments.ensures.does)

pub callee_given-returns-in-Err-clause-later : goal.calls::callee_given-returns-in-Err-clause-later
callee_given-returns-in-Err-clause-later g t c = broken_as ObjId Value (Later g.S.WorldStore.meaning c.args.config.now c.callee_object.new.config) c.in-Err.end c.in-Err.ensures.later

pub callee_given-returns-in-Err-clause-found : goal.calls::callee_given-returns-in-Err-clause-found
callee_given-returns-in-Err-clause-found g t c = c.in-Err.ensures.found

pub callee_given-returns-in-Err-clause-does : goal.calls::callee_given-returns-in-Err-clause-does
callee_given-returns-in-Err-clause-does g t c = c.in-Err.ensures.is (λ t. Undefined)

-- ---- calls: the arguments

pub evaluate_arguments-loop-next-init : goal.calls::evaluate_arguments-loop-next-init
evaluate_arguments-loop-next-init g t c =
    let m = g.S.WorldStore.meaning in
    let old = c.args.config.now in
    let f = c.args.frame.now in
    let left : List Value → Type 0 = λ vs. Leaves m (line_here m old f (values_left m old f c.args.node c.args.function c.args.this 0 [])) (line_here m old f (values_left m old f c.args.node c.args.function c.args.this 0 vs)) old old in
    record {
      left = subst left (sym c.new-values.ensures.items) (values_first m old f c.args.node c.args.function c.args.this);
      later = later_same m old c.requires.base;
      there = All-same (HasValue old) c.new-values.result.items [] c.new-values.ensures.items (All-nil (HasValue old));
      empty = c.requires.empty;
    }

-- an argument

pub evaluate_arguments-value-requires : goal.calls::evaluate_arguments-value-requires
evaluate_arguments-value-requires g t c =
    let m = g.S.WorldStore.meaning in
    let old = c.args.config.now in
    let f = c.args.frame.now in
    let mid = c.loop-next.config in
    let l = c.loop-next.invariant.later in
    let base : Base m mid = l.base in
    let there : IsThere m mid f = l.frames f c.requires.there in
    let node : StandsHere mid f c.in-Some.next = argument_stands m mid f c.args.node c.loop-next.at c.in-Some.next there (stands_later m old f mid c.args.node l c.requires.node) c.in-Some.ensures in
    let empty : c.loop-next.stops.waits ≡ [] = c.loop-next.invariant.empty in
    search (rules, base, there, node, empty)

-- it broke off

pub evaluate_arguments-returns-in-Err-clause-later : goal.calls::evaluate_arguments-returns-in-Err-clause-later
evaluate_arguments-returns-in-Err-clause-later g t c =
    let m = g.S.WorldStore.meaning in
    let l = c.loop-next.invariant.later in
    let held = call_held (values.Object c.args.function) c.args.this c.loop-next.values.items in
    let stops = c.value.new.stops in
    let new = c.argument_waits.new in
    let waits = subst (λ (us : List Value). WaitsAt (at_node c.args.frame.now c.args.node (call_held (values.Object c.args.function) c.args.this us)) (points.Expr (expr.Argument c.loop-next.at)) c.in-Err.end stops.waits stops.top c.argument_waits.result new.stops.waits new.stops.top)
    c.as_slice-values.ensures.value c.argument_waits.ensures.waits in
    later_then m {A = Value} c.args.config.now c.loop-next.config new.config (Err c.argument_waits.result) l
    (broke_later m Value Value c.loop-next.config c.value.new.config new.config c.args.frame.now c.args.node held (points.Expr (expr.Argument c.loop-next.at)) c.in-Err.end stops.waits stops.top c.argument_waits.result new.stops.waits new.stops.top
    c.argument_waits.ensures.same waits c.in-Err.ensures.later)

pub evaluate_arguments-returns-in-Err-clause-found : goal.calls::evaluate_arguments-returns-in-Err-clause-found
evaluate_arguments-returns-in-Err-clause-found g t c =
    let m = g.S.WorldStore.meaning in
    let l = c.loop-next.invariant.later in
    let f = c.args.frame.now in
    let callee = values.Object c.args.function in
    let vs = c.loop-next.values.items in
    let held = call_held callee c.args.this vs in
    let stops = c.value.new.stops in
    let new = c.argument_waits.new in
    let waits = subst (λ (us : List Value). WaitsAt (at_node c.args.frame.now c.args.node (call_held (values.Object c.args.function) c.args.this us)) (points.Expr (expr.Argument c.loop-next.at)) c.in-Err.end stops.waits stops.top c.argument_waits.result new.stops.waits new.stops.top)
    c.as_slice-values.ensures.value c.argument_waits.ensures.waits in
    broke_found m Value Value c.loop-next.config c.value.new.config new.config f c.args.node held (points.Expr (expr.Argument c.loop-next.at)) c.in-Err.end stops.waits stops.top c.argument_waits.result new.stops.waits new.stops.top
    c.argument_waits.ensures.same waits c.in-Err.ensures.later (l.frames f c.requires.there) (stands_later m c.args.config.now f c.loop-next.config c.args.node l c.requires.node)
    (call_there c.loop-next.config callee c.args.this vs (l.objects c.args.function c.requires.function) (l.values c.args.this c.requires.this) c.loop-next.invariant.there) tt c.in-Err.ensures.found

pub evaluate_arguments-returns-in-Err-clause-does : goal.calls::evaluate_arguments-returns-in-Err-clause-does
evaluate_arguments-returns-in-Err-clause-does g t c =
    let stops = c.value.new.stops in
    let new = c.argument_waits.new in
    let waits = subst (λ (us : List Value). WaitsAt (at_node c.args.frame.now c.args.node (call_held (values.Object c.args.function) c.args.this us)) (points.Expr (expr.Argument c.loop-next.at)) c.in-Err.end stops.waits stops.top c.argument_waits.result new.stops.waits new.stops.top)
    c.as_slice-values.ensures.value c.argument_waits.ensures.waits in
    argument_broken g.S.WorldStore.meaning c.args.config.now c.args.frame.now c.args.node c.args.function c.args.this c.loop-next.config c.loop-next.invariant.later c.loop-next.at c.loop-next.values.items c.in-Some.next c.in-Some.ensures
    c.in-Err.end stops.waits stops.top c.argument_waits.result new.stops.waits new.stops.top c.value.new.config new.config c.argument_waits.ensures.same c.in-Err.ensures.later c.in-Err.ensures.does waits c.loop-next.invariant.left

pub evaluate_arguments-loop-next-preserved : goal.calls::evaluate_arguments-loop-next-preserved
evaluate_arguments-loop-next-preserved g t c =
    let m = g.S.WorldStore.meaning in
    let old = c.args.config.now in
    let mid = c.loop-next.config in
    let new = c.value.new.config in
    let f = c.args.frame.now in
    let at = c.loop-next.at in
    let vs = c.loop-next.values.items in
    let v = c.in-Ok.given in
    let l = c.loop-next.invariant.later in
    let first = line_here m old f (values_left m old f c.args.node c.args.function c.args.this 0 []) in
    let left : ℕ → List Value → Type 0 = λ k us. Leaves m first (line_here m old f (values_left m old f c.args.node c.args.function c.args.this k us)) old new in
    record {
      left = subst (λ (us : List Value). left c.in_ok-at.at us) (sym c.in_ok-push-in-Ok.ensures) (subst (λ (k : ℕ). left k (vs ++ v ∷ [])) (sym c.in_ok-at.ensures)
          (argument_given m old f c.args.node c.args.function c.args.this mid l at vs c.in-Some.next c.in-Some.ensures v c.value.new.stops.waits c.value.new.stops.top new c.in-Ok.ensures.does c.loop-next.invariant.left));
      later = later_twice m old mid new l c.in-Ok.ensures.later;
      there = All-same (HasValue new) c.push.new.values.items (vs ++ v ∷ []) c.in_ok-push-in-Ok.ensures (All-push (HasValue new) vs v (values_later m mid new vs c.in-Ok.ensures.later c.loop-next.invariant.there) c.in-Ok.ensures.found.0);
      empty = c.in-Ok.ensures.found.1;
    }

-- behind the last

pub evaluate_arguments-called-requires : goal.calls::evaluate_arguments-called-requires
evaluate_arguments-called-requires g t c =
    let m = g.S.WorldStore.meaning in
    let old = c.args.config.now in
    let f = c.args.frame.now in
    let mid = c.loop-next.config in
    let l = c.loop-next.invariant.later in
    let base : Base m mid = l.base in
    let there : IsThere m mid f = l.frames f c.requires.there in
    let node : StandsHere mid f c.args.node = stands_later m old f mid c.args.node l c.requires.node in
    let empty : c.loop-next.stops.waits ≡ [] = c.loop-next.invariant.empty in
    let function : HasObject mid c.args.function = l.objects c.args.function c.requires.function in
    let this : HasValue mid c.args.this = l.values c.args.this c.requires.this in
    let values : All (HasValue mid) c.as_slice.result.now = All-same (HasValue mid) c.as_slice.result.now c.loop-next.values.items c.as_slice.ensures.value c.loop-next.invariant.there in
    search (rules, base, there, node, empty, function, this, values)

pub evaluate_arguments-returns-clause-later : goal.calls::evaluate_arguments-returns-clause-later
evaluate_arguments-returns-clause-later g t c = later_then g.S.WorldStore.meaning c.args.config.now c.loop-next.config c.called.new.config c.called.result c.loop-next.invariant.later c.called.ensures.later

pub evaluate_arguments-returns-clause-does : goal.calls::evaluate_arguments-returns-clause-does
evaluate_arguments-returns-clause-does g t c =
    let m = g.S.WorldStore.meaning in
    let mid = c.loop-next.config in
    let f = c.args.frame.now in
    let new = c.called.new in
    arguments_done m c.args.config.now f c.args.node c.args.function c.args.this mid c.loop-next.invariant.later c.loop-next.at c.loop-next.values.items c.called.result new.stops.waits new.stops.top new.config c.in_default.ensures
    (subst (λ (vs : List Value). Evaluates m (line_here m mid f (λ t env. call_values (Object c.args.function) (value_in t c.args.this) env (map (value_in t) vs))) gives_in c.called.result new.stops.waits new.stops.top mid new.config) c.as_slice.ensures.value c.called.ensures.does)
    c.loop-next.invariant.left

-- ---- calls: the function

pub called-returns-in-Script-clause-does : goal.calls::called-returns-in-Script-clause-does
called-returns-in-Script-clause-does g t c =
    let m = g.S.WorldStore.meaning in
    let old = c.args.config.now in
    let f = c.args.frame.now in
    let new = c.script_called.new in
    let vs = c.args.values.now in
    shortened m gives_in (line_here m old f (λ t env. call_values (Object c.args.function) (value_in t c.args.this) env (map (value_in t) vs))) (line_here m old f (λ t env. call c.args.function (value_in t c.args.this) (map (value_in t) vs) env))
    c.script_called.result new.stops.waits new.stops.top old new.config (λ t more go. shorten_sub _ _ go (call_looks c.args.function (value_in t c.args.this) (map (value_in t) vs) (env_in m old t f))) c.script_called.ensures.does

pub called-returns-in-Native-clause-does : goal.calls::called-returns-in-Native-clause-does
called-returns-in-Native-clause-does g t c =
    let new = c.native_called.new in
    native_entered g.S.WorldStore.meaning gives_in c.args.config.now new.config c.args.frame.now c.args.function c.in-Native.native c.args.this c.this_or_global-this.result c.args.values.now c.native_called.result new.stops.waits new.stops.top
    (λ u arena sees. c.code_of.ensures.is u arena sees ∙ c.in-Native.is) c.this_or_global-this.ensures.is c.native_called.ensures.does

pub called-returns-in-None : goal.calls::called-returns-in-None
called-returns-in-None g t c =
    let m = g.S.WorldStore.meaning in
    let old = c.args.config.now in
    let f = c.args.frame.now in
    let new = c.call_stops.new in
    let end = c.call_stops.result in
    let vs = c.args.values.now in
    let callee = values.Object c.args.function in
    let same = c.call_stops.ensures.same in
    record {
      later = later_stopped m {A = Value} old new.config (Err end) c.requires.base same;
      found = stop_found m old new.config f c.args.node (call_held callee c.args.this vs) (phases.Ready starts.Call) end new.stops.waits new.stops.top same c.requires.there c.requires.node
          (call_there old callee c.args.this vs c.requires.function c.requires.this c.requires.values) tt c.call_stops.ensures.stops;
      does = shortened m gives_in (line_here m old f (λ t env. call_values (Object c.args.function) (value_in t c.args.this) env (map (value_in t) vs))) (line_here m old f (λ t env. call c.args.function (value_in t c.args.this) (map (value_in t) vs) env))
          (Err end) new.stops.waits new.stops.top old new.config (λ t more go. shorten_sub _ _ go (call_looks c.args.function (value_in t c.args.this) (map (value_in t) vs) (env_in m old t f)))
          (call_does m old new.config f c.args.node c.args.function vs end new.stops.waits new.stops.top same gives_in c.args.this c.call_stops.ensures.stops);
    }

pub script_called-returns-in-Object-clause-does : goal.calls::script_called-returns-in-Object-clause-does
script_called-returns-in-Object-clause-does g t c =
    let new = c.body_entered.new in
    script_entered g.S.WorldStore.meaning gives_in c.args.config.now new.config c.args.frame.now c.args.function c.in-Object.object c.args.this c.args.values.now c.args.tree c.args.body c.body_entered.result new.stops.waits new.stops.top
    c.requires.seen c.in-Object.ensures.is c.body_entered.ensures.does

pub script_called-returns-in_default : goal.calls::script_called-returns-in_default
script_called-returns-in_default g t c =
    let m = g.S.WorldStore.meaning in
    let old = c.args.config.now in
    let f = c.args.frame.now in
    let new = c.call_stops.new in
    let end = c.call_stops.result in
    let vs = c.args.values.now in
    let callee = values.Object c.args.function in
    let same = c.call_stops.ensures.same in
    record {
      later = later_stopped m {A = Value} old new.config (Err end) c.requires.base same;
      found = stop_found m old new.config f c.args.node (call_held callee c.args.this vs) (phases.Ready starts.Call) end new.stops.waits new.stops.top same c.requires.there c.requires.node
          (call_there old callee c.args.this vs c.requires.function c.requires.this c.requires.values) tt c.call_stops.ensures.stops;
      does = call_does m old new.config f c.args.node c.args.function vs end new.stops.waits new.stops.top same gives_in c.args.this c.call_stops.ensures.stops;
    }

pub body_entered-returns-then-not-may_enter-clause-found : goal.calls::body_entered-returns-then-not-may_enter-clause-found
body_entered-returns-then-not-may_enter-clause-found g t c =
    let new = c.function_stops.new in
    body_found g.S.WorldStore.meaning c.args.config.now new.config c.args.frame.now c.args.node c.args.function c.args.values.now c.function_stops.result new.stops.waits new.stops.top c.function_stops.ensures.same c.args.this
    c.requires.there c.requires.node c.requires.function c.requires.this c.requires.values c.function_stops.ensures.stops

pub body_entered-returns-then-not-may_enter-clause-does : goal.calls::body_entered-returns-then-not-may_enter-clause-does
body_entered-returns-then-not-may_enter-clause-does g t c =
    let new = c.function_stops.new in
    body_does g.S.WorldStore.meaning c.args.config.now new.config c.args.frame.now c.args.node c.args.function c.args.values.now c.function_stops.result new.stops.waits new.stops.top c.function_stops.ensures.same c.args.this
    gives_in c.function_stops.ensures.stops

pub body_entered-body_called-requires : goal.calls::body_entered-body_called-requires
body_entered-body_called-requires g t c =
    let m = g.S.WorldStore.meaning in
    let old = c.args.config.now in
    let f = c.args.frame.now in
    let now = record old { left = old.left - 1 } in
    let l = later_left m old (old.left - 1) c.requires.base in
    let some = c.may_enter.ensures.room c.if-not-may_enter.false in
    let base : Base m now = l.base in
    let there : IsThere m now f = l.frames f c.requires.there in
    let node : StandsHere now f c.args.node = stands_later m old f now c.args.node l c.requires.node in
    search (rules, some, base, there, node)

pub body_entered-returns-clause-later : goal.calls::body_entered-returns-clause-later
body_entered-returns-clause-later g t c =
    let old = c.args.config.now in
    later_then g.S.WorldStore.meaning old (record old { left = old.left - 1 }) c.body_called.new.config c.body_called.result (later_left g.S.WorldStore.meaning old (old.left - 1) c.requires.base) c.body_called.ensures.later

pub body_entered-returns-clause-does : goal.calls::body_entered-returns-clause-does
body_entered-returns-clause-does g t c =
    let old = c.args.config.now in
    let new = c.body_called.new in
    body_paid g.S.WorldStore.meaning gives_in old new.config c.args.frame.now c.args.function c.args.this c.args.values.now c.body_called.result new.stops.waits new.stops.top (old.left - 1)
    (one_less old.left (c.may_enter.ensures.left c.if-not-may_enter.false)) c.body_called.ensures.does
