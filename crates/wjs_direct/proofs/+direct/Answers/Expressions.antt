-- What holds of the functions of `expressions`.
use Rattle.std.proofs.Common.{◌≡◌, ◌-◌, rules, [], ◌∷◌, inl, inr, refl, ap, ◌∙◌, subst, sym}
use Rattle.std.specs.Prelude.{Err}
use Rattle.wjs_base.specs.declared.values.Value.{Value}
use Rattle.wjs_by_content.specs.Tables.{value_in}
use Rattle.wjs_tree.specs.Operators.{compound}
use Rattle.wjs_tree.specs.declared.operators.BinaryOperator.{BinaryOperator}
use Rattle.wjs_tree.specs.declared.node.Node.TheVariants as nodes
use Rattle.wjs_meaning.specs.Deeds.{AtExpr, then_value, AtTarget, then_reference, Eval}
use Rattle.wjs_model.specs.Waiting.{fix_in}
use Rattle.wjs_meaning.specs.Programs.{entry}
use Rattle.wjs_meaning.specs.Reading.{node_in, spelt_in}
use Rattle.wjs_meaning.specs.Expressions as line
use Rattle.wjs_model.specs.Lists.{arguments_of}
use Rattle.wjs_model.specs.Soundness.{Base, HasValue, IsThere, StandsHere}
use Rattle.wjs_model.specs.declared.config.Config.{Config}
use Rattle.wjs_model.specs.declared.frame.Held.TheVariants as holds
use Rattle.wjs_model.specs.declared.frame.Phase.TheVariants as phases
use Rattle.wjs_model.specs.declared.point.Start.TheVariants as starts
use Rattle.wjs_model.specs.declared.point.Point.TheVariants as points
use Rattle.wjs_model.specs.declared.point.ExprPoint.TheVariants as expr
use Rattle.wjs_frames.specs.Parts.{env_in, node_among}
use Rattle.wjs_frames.proofs.OperandLines.{expr_is}
use Rattle.wjs_frames.proofs.Parting.{stands_here, stands_later}
use Rattle.wjs_frames.specs.declared.part.Part.TheVariants as part
use Rattle.wjs_quick.proofs.Coming.{ends_as}
use Rattle.wjs_quick.proofs.Operations.{left_is_held, and_goes_on, and_ends, or_goes_on, or_ends}
use Rattle.wjs_stopping.specs.Ends.{gives_in}
use Rattle.wjs_stopping.specs.Evaluating.{Evaluates}
use Rattle.wjs_stopping.specs.Waiting.{at_node}
use Rattle.wjs_direct_lines.specs.Deeds.{IsCallee, IsFunctionExpression, goal_here, line_here}
use Rattle.wjs_direct_lines.proofs.Forming.{form_goes_on, line_ended, node_there}
use Rattle.wjs_direct_lines.proofs.Parts.{broke_does, broke_found, broke_later, did, later_stopped, later_then, line_form, line_last, ready_does, step_does, stepped, stop_found}
use Rattle.wjs_model.specs.declared.point.Fix.TheVariants as fixes
use Rattle.wjs_direct.specs.Literals.{IsArrayLiteral, IsObjectLiteral}
use Rattle.wjs_direct.proofs.+direct.Goals as goal

-- ---- expressions

-- at once
pub value-returns-in-Some-clause-does : goal.expressions::value-returns-in-Some-clause-does
value-returns-in-Some-clause-does g t c =
    let m = g.S.WorldStore.meaning in
    let old = c.args.config.now in
    let s = c.args.stops.now in
    did m gives_in (goal_here m old c.args.frame.now (AtExpr c.args.node.0)) c.in-Some.value s.waits s.top old c.quick.new.config c.in-Some.ensures.does

-- not entered

pub value-returns-then-not-may_evaluate-clause-later : goal.expressions::value-returns-then-not-may_evaluate-clause-later
value-returns-then-not-may_evaluate-clause-later g t c =
    later_then g.S.WorldStore.meaning c.args.config.now c.quick.new.config c.read.new.config c.read.result c.quick.ensures.later c.read.ensures.later

pub value-returns-then-not-may_evaluate-clause-does : goal.expressions::value-returns-then-not-may_evaluate-clause-does
value-returns-then-not-may_evaluate-clause-does g t c =
    let m = g.S.WorldStore.meaning in
    let s = c.read.new.stops in
    subst (λ (x : Config g.row.S.Denot). Evaluates m (goal_here m x c.args.frame.now (AtExpr c.args.node.0)) gives_in c.read.result s.waits s.top x c.read.new.config) c.in_default.ensures.same c.read.ensures.does

-- entered

pub value-form-requires : goal.expressions::value-form-requires
value-form-requires g t c =
    let m = g.S.WorldStore.meaning in
    let old = c.args.config.now in
    let f = c.args.frame.now in
    let mid = c.quick.new.config in
    let now = record mid { left = mid.left - 1 } in
    let l = stepped m old mid c.in_default.ensures.same c.quick.ensures.later.base in
    let some = c.may_evaluate.ensures.room c.if-not-may_evaluate.false in
    let base : Base m now = l.base in
    let there : IsThere m now f = l.frames f c.requires.there in
    let node : StandsHere now f c.args.node = stands_later m old f now c.args.node l c.requires.node in
    search (rules, some, base, there, node)

pub value-returns-clause-later : goal.expressions::value-returns-clause-later
value-returns-clause-later g t c =
    let m = g.S.WorldStore.meaning in
    let old = c.args.config.now in
    let mid = c.quick.new.config in
    later_then m old (record mid { left = mid.left - 1 }) c.form.new.config c.form.result (stepped m old mid c.in_default.ensures.same c.quick.ensures.later.base) c.form.ensures.later

pub value-returns-clause-does : goal.expressions::value-returns-clause-does
value-returns-clause-does g t c =
    let s = c.form.new.stops in
    step_does g.S.WorldStore.meaning gives_in c.args.config.now c.quick.new.config c.form.new.config c.args.frame.now (AtExpr c.args.node.0) c.form.result s.waits s.top c.in_default.ensures.same
    (c.may_evaluate.ensures.left c.if-not-may_evaluate.false) c.form.ensures.does

-- what follows the step of its entry

pub form-value-requires : goal.expressions::form-value-requires
form-value-requires g t c =
    let m = g.S.WorldStore.meaning in
    let old = c.args.config.now in
    let f = c.args.frame.now in
    let s = c.in-Some-Paren in
    let node : StandsHere old f s.part = stands_here m old (at_node f c.args.node []) (nodes.Paren s.part) s.part (node_there m old f c.args.node [] c.requires.there c.requires.node tt) (s.ensures ∙ s.field-0-is) (inl refl) in
    search (rules, node)

pub form-returns-in-Some-Paren-clause-does : goal.expressions::form-returns-in-Some-Paren-clause-does
form-returns-in-Some-Paren-clause-does g t c =
    let m = g.S.WorldStore.meaning in
    let old = c.args.config.now in
    let f = c.args.frame.now in
    let s = c.in-Some-Paren in
    let k = c.value.new.stops in
    line_last m gives_in old c.value.new.config f (λ t env. entry (AtExpr c.args.node.0) env) c.value.result k.waits k.top (AtExpr s.part.0)
    (λ t more. expr_is m old f c.args.node (nodes.Paren s.part) t (s.ensures ∙ s.field-0-is)) c.value.ensures.does

pub form-returns-in-Some-Binary-clause-does : goal.expressions::form-returns-in-Some-Binary-clause-does
form-returns-in-Some-Binary-clause-does g t c =
    let m = g.S.WorldStore.meaning in
    let old = c.args.config.now in
    let f = c.args.frame.now in
    let s = c.in-Some-Binary in
    let k = c.binary.new.stops in
    line_form m gives_in old c.binary.new.config f (λ t env. entry (AtExpr c.args.node.0) env) c.binary.result k.waits k.top (AtExpr s.left.0) (λ t env. then_value (line.binary_left s.operator s.right.0 env))
    (λ t more. expr_is m old f c.args.node (nodes.Binary s.left s.operator s.right) t (s.ensures ∙ s.field-0-is)) c.binary.ensures.does

pub form-call-requires : goal.expressions::form-call-requires
form-call-requires g t c =
    let m = g.S.WorldStore.meaning in
    let old = c.args.config.now in
    let f = c.args.frame.now in
    let s = c.in-Some-Call in
    let callee : IsCallee m old f c.args.node s.callee = (s.field-0-1, s.ensures ∙ s.field-0-is) in
    search (rules, callee)

pub form-function-requires : goal.expressions::form-function-requires
form-function-requires g t c =
    let m = g.S.WorldStore.meaning in
    let old = c.args.config.now in
    let f = c.args.frame.now in
    let s = c.in-Some-Function in
    let is : IsFunctionExpression m old f c.args.node s.name = (s.field-0-1, (s.field-0-2, s.ensures ∙ s.field-0-is)) in
    search (rules, is)

pub form-returns-in_default-clause-later : goal.expressions::form-returns-in_default-clause-later
form-returns-in_default-clause-later g t c = later_stopped g.S.WorldStore.meaning {A = Value} c.args.config.now c.stop.new.config (Err c.stop.result) c.requires.base c.stop.ensures.same

pub form-returns-in_default-clause-found : goal.expressions::form-returns-in_default-clause-found
form-returns-in_default-clause-found g t c =
    let s = c.stop.new.stops in
    stop_found g.S.WorldStore.meaning c.args.config.now c.stop.new.config c.args.frame.now c.args.node [] (phases.Ready starts.Expr) c.stop.result s.waits s.top c.stop.ensures.same
    c.requires.there c.requires.node tt tt c.stop.ensures.stops

pub form-returns-in_default-clause-does : goal.expressions::form-returns-in_default-clause-does
form-returns-in_default-clause-does g t c =
    let s = c.stop.new.stops in
    ready_does g.S.WorldStore.meaning gives_in c.args.config.now c.stop.new.config c.args.frame.now c.stop.result s.waits s.top c.stop.ensures.same (part.Expr c.args.node) c.stop.ensures.stops

-- the left operand has its value

pub binary-value-requires : goal.expressions::binary-value-requires
binary-value-requires g t c =
    let m = g.S.WorldStore.meaning in
    let old = c.args.config.now in
    let f = c.args.frame.now in
    let left : StandsHere old f c.args.left = stands_here m old (at_node f c.args.node []) (nodes.Binary c.args.left c.args.operator c.args.right) c.args.left (node_there m old f c.args.node [] c.requires.there c.requires.node tt) c.requires.is (inl refl) in
    search (rules, left)

pub binary-and_right-requires : goal.expressions::binary-and_right-requires
binary-and_right-requires g t c =
    let m = g.S.WorldStore.meaning in
    let old = c.args.config.now in
    let f = c.args.frame.now in
    let mid = c.value.new.config in
    let l = c.in-Ok.ensures.later in
    let base : Base m mid = l.base in
    let there : IsThere m mid f = l.frames f c.requires.there in
    let empty : c.value.new.stops.waits ≡ [] = c.in-Ok.ensures.found.1 in
    let right : StandsHere mid f c.args.right = stands_later m old f mid c.args.right l
    (stands_here m old (at_node f c.args.node []) (nodes.Binary c.args.left c.args.operator c.args.right) c.args.right (node_there m old f c.args.node [] c.requires.there c.requires.node tt) c.requires.is (inr (inl refl))) in
    let first : HasValue mid c.in-Ok.first = c.in-Ok.ensures.found.0 in
    search (rules, base, there, empty, right, first)

pub binary-or_right-requires : goal.expressions::binary-or_right-requires
binary-or_right-requires g t c =
    let m = g.S.WorldStore.meaning in
    let old = c.args.config.now in
    let f = c.args.frame.now in
    let mid = c.value.new.config in
    let l = c.in-Ok.ensures.later in
    let base : Base m mid = l.base in
    let there : IsThere m mid f = l.frames f c.requires.there in
    let empty : c.value.new.stops.waits ≡ [] = c.in-Ok.ensures.found.1 in
    let right : StandsHere mid f c.args.right = stands_later m old f mid c.args.right l
    (stands_here m old (at_node f c.args.node []) (nodes.Binary c.args.left c.args.operator c.args.right) c.args.right (node_there m old f c.args.node [] c.requires.there c.requires.node tt) c.requires.is (inr (inl refl))) in
    let first : HasValue mid c.in-Ok.first = c.in-Ok.ensures.found.0 in
    search (rules, base, there, empty, right, first)

pub binary-both-requires : goal.expressions::binary-both-requires
binary-both-requires g t c =
    let m = g.S.WorldStore.meaning in
    let old = c.args.config.now in
    let f = c.args.frame.now in
    let mid = c.value.new.config in
    let l = c.in-Ok.ensures.later in
    let base : Base m mid = l.base in
    let there : IsThere m mid f = l.frames f c.requires.there in
    let node : StandsHere mid f c.args.node = stands_later m old f mid c.args.node l c.requires.node in
    let empty : c.value.new.stops.waits ≡ [] = c.in-Ok.ensures.found.1 in
    let right : StandsHere mid f c.args.right = stands_later m old f mid c.args.right l
    (stands_here m old (at_node f c.args.node []) (nodes.Binary c.args.left c.args.operator c.args.right) c.args.right (node_there m old f c.args.node [] c.requires.there c.requires.node tt) c.requires.is (inr (inl refl))) in
    let first : HasValue mid c.in-Ok.first = c.in-Ok.ensures.found.0 in
    search (rules, base, there, node, empty, right, first)

pub binary-returns-in-And-clause-later : goal.expressions::binary-returns-in-And-clause-later
binary-returns-in-And-clause-later g t c =
    later_then g.S.WorldStore.meaning c.args.config.now c.value.new.config c.and_right.new.config c.and_right.result c.in-Ok.ensures.later c.and_right.ensures.later

pub binary-returns-in-And-clause-does : goal.expressions::binary-returns-in-And-clause-does
binary-returns-in-And-clause-does g t c =
    let m = g.S.WorldStore.meaning in
    let f = c.args.frame.now in
    let mid = c.value.new.config in
    let new = c.and_right.new.config in
    let v = c.in-Ok.first in
    let s = c.value.new.stops in
    let k = c.and_right.new.stops in
    form_goes_on m gives_in gives_in c.args.config.now mid new f (AtExpr c.args.left.0) (λ t env. then_value (line.binary_left c.args.operator c.args.right.0 env)) v c.and_right.result s.waits s.top k.waits k.top c.in-Ok.ensures.later c.in-Ok.ensures.does
    (subst (λ (o : BinaryOperator). Evaluates m (line_here m mid f (λ t env. line.binary_left o c.args.right.0 env (value_in t v))) gives_in c.and_right.result k.waits k.top mid new) (sym c.in-And.is) c.and_right.ensures.does)

pub binary-returns-in-Or-clause-later : goal.expressions::binary-returns-in-Or-clause-later
binary-returns-in-Or-clause-later g t c =
    later_then g.S.WorldStore.meaning c.args.config.now c.value.new.config c.or_right.new.config c.or_right.result c.in-Ok.ensures.later c.or_right.ensures.later

pub binary-returns-in-Or-clause-does : goal.expressions::binary-returns-in-Or-clause-does
binary-returns-in-Or-clause-does g t c =
    let m = g.S.WorldStore.meaning in
    let f = c.args.frame.now in
    let mid = c.value.new.config in
    let new = c.or_right.new.config in
    let v = c.in-Ok.first in
    let s = c.value.new.stops in
    let k = c.or_right.new.stops in
    form_goes_on m gives_in gives_in c.args.config.now mid new f (AtExpr c.args.left.0) (λ t env. then_value (line.binary_left c.args.operator c.args.right.0 env)) v c.or_right.result s.waits s.top k.waits k.top c.in-Ok.ensures.later c.in-Ok.ensures.does
    (subst (λ (o : BinaryOperator). Evaluates m (line_here m mid f (λ t env. line.binary_left o c.args.right.0 env (value_in t v))) gives_in c.or_right.result k.waits k.top mid new) (sym c.in-Or.is) c.or_right.ensures.does)

pub binary-returns-in_default-clause-later : goal.expressions::binary-returns-in_default-clause-later
binary-returns-in_default-clause-later g t c =
    later_then g.S.WorldStore.meaning c.args.config.now c.value.new.config c.both.new.config c.both.result c.in-Ok.ensures.later c.both.ensures.later

pub binary-returns-in_default-clause-does : goal.expressions::binary-returns-in_default-clause-does
binary-returns-in_default-clause-does g t c =
    let m = g.S.WorldStore.meaning in
    let f = c.args.frame.now in
    let mid = c.value.new.config in
    let new = c.both.new.config in
    let v = c.in-Ok.first in
    let s = c.value.new.stops in
    let k = c.both.new.stops in
    form_goes_on m gives_in gives_in c.args.config.now mid new f (AtExpr c.args.left.0) (λ t env. then_value (line.binary_left c.args.operator c.args.right.0 env)) v c.both.result s.waits s.top k.waits k.top c.in-Ok.ensures.later c.in-Ok.ensures.does
    (line_form m gives_in mid new f (λ t env. line.binary_left c.args.operator c.args.right.0 env (value_in t v)) c.both.result k.waits k.top (AtExpr c.args.right.0) (λ t env. then_value (line.binary_right c.args.operator (value_in t v) env))
    (λ t more. left_is_held c.args.operator c.args.right.0 (env_in m mid t f) (value_in t v) c.in_default.not-And c.in_default.not-Or) c.both.ensures.does)

pub and_right-returns-then-to_boolean-clause-does : goal.expressions::and_right-returns-then-to_boolean-clause-does
and_right-returns-then-to_boolean-clause-does g t c =
    let m = g.S.WorldStore.meaning in
    let old = c.args.config.now in
    let f = c.args.frame.now in
    let k = c.value.new.stops in
    line_last m gives_in old c.value.new.config f (λ t env. line.and_left c.args.right.0 env (value_in t c.args.first)) c.value.result k.waits k.top (AtExpr c.args.right.0)
    (λ t more. and_goes_on c.args.right.0 (env_in m old t f) (value_in t c.args.first) (c.to_boolean.ensures t more ∙ c.if-to_boolean.true)) c.value.ensures.does

pub and_right-returns-else-to_boolean-clause-does : goal.expressions::and_right-returns-else-to_boolean-clause-does
and_right-returns-else-to_boolean-clause-does g t c =
    let s = c.args.stops.now in
    line_ended g.S.WorldStore.meaning gives_in c.args.config.now c.args.frame.now (λ t env. line.and_left c.args.right.0 env (value_in t c.args.first)) c.args.first s.waits s.top
    (λ t more env. ends_as _ _ (and_ends c.args.right.0 env (value_in t c.args.first) (c.to_boolean.ensures t more ∙ c.if-to_boolean.false)))

pub or_right-returns-then-to_boolean-clause-does : goal.expressions::or_right-returns-then-to_boolean-clause-does
or_right-returns-then-to_boolean-clause-does g t c =
    let s = c.args.stops.now in
    line_ended g.S.WorldStore.meaning gives_in c.args.config.now c.args.frame.now (λ t env. line.or_left c.args.right.0 env (value_in t c.args.first)) c.args.first s.waits s.top
    (λ t more env. ends_as _ _ (or_ends c.args.right.0 env (value_in t c.args.first) (c.to_boolean.ensures t more ∙ c.if-to_boolean.true)))

pub or_right-returns-else-to_boolean-clause-does : goal.expressions::or_right-returns-else-to_boolean-clause-does
or_right-returns-else-to_boolean-clause-does g t c =
    let m = g.S.WorldStore.meaning in
    let old = c.args.config.now in
    let f = c.args.frame.now in
    let k = c.value.new.stops in
    line_last m gives_in old c.value.new.config f (λ t env. line.or_left c.args.right.0 env (value_in t c.args.first)) c.value.result k.waits k.top (AtExpr c.args.right.0)
    (λ t more. or_goes_on c.args.right.0 (env_in m old t f) (value_in t c.args.first) (c.to_boolean.ensures t more ∙ c.if-to_boolean.false)) c.value.ensures.does

-- the right operand has its value

pub both-operation-requires : goal.expressions::both-operation-requires
both-operation-requires g t c =
    let m = g.S.WorldStore.meaning in
    let old = c.args.config.now in
    let mid = c.value.new.config in
    let f = c.args.frame.now in
    let l = c.in-Ok.ensures.later in
    record {
      base = l.base;
      there = l.frames f c.requires.there;
      node = stands_later m old f mid c.args.node l c.requires.node;
      empty = c.in-Ok.ensures.found.1;
      left = l.values c.args.first c.requires.value;
      right = c.in-Ok.ensures.found.0;
    }

pub both-returns-in-Ok-clause-later : goal.expressions::both-returns-in-Ok-clause-later
both-returns-in-Ok-clause-later g t c =
    later_then g.S.WorldStore.meaning c.args.config.now c.value.new.config c.operation.new.config c.operation.result c.in-Ok.ensures.later c.operation.ensures.later

pub both-returns-in-Ok-clause-does : goal.expressions::both-returns-in-Ok-clause-does
both-returns-in-Ok-clause-does g t c =
    let s = c.value.new.stops in
    let k = c.operation.new.stops in
    form_goes_on g.S.WorldStore.meaning gives_in gives_in c.args.config.now c.value.new.config c.operation.new.config c.args.frame.now (AtExpr c.args.right.0) (λ t env. then_value (line.binary_right c.args.operator (value_in t c.args.first) env)) c.in-Ok.second
    c.operation.result s.waits s.top k.waits k.top c.in-Ok.ensures.later c.in-Ok.ensures.does c.operation.ensures.does

pub binary-returns-in-Err-clause-later : goal.expressions::binary-returns-in-Err-clause-later
binary-returns-in-Err-clause-later g t c =
    let m = g.S.WorldStore.meaning in
    let s = c.value.new.stops in
    let k = c.waits.new.stops in
    broke_later m Value Value c.args.config.now c.value.new.config c.waits.new.config c.args.frame.now c.args.node [] (points.Expr (expr.BinaryLeft c.args.operator c.args.right)) c.in-Err.end s.waits s.top c.waits.result k.waits k.top
    c.waits.ensures.same c.waits.ensures.waits c.in-Err.ensures.later

pub binary-returns-in-Err-clause-found : goal.expressions::binary-returns-in-Err-clause-found
binary-returns-in-Err-clause-found g t c =
    let m = g.S.WorldStore.meaning in
    let s = c.value.new.stops in
    let k = c.waits.new.stops in
    broke_found m Value Value c.args.config.now c.value.new.config c.waits.new.config c.args.frame.now c.args.node [] (points.Expr (expr.BinaryLeft c.args.operator c.args.right)) c.in-Err.end s.waits s.top c.waits.result k.waits k.top
    c.waits.ensures.same c.waits.ensures.waits c.in-Err.ensures.later c.requires.there c.requires.node tt (stands_here m c.args.config.now (at_node c.args.frame.now c.args.node []) (nodes.Binary c.args.left c.args.operator c.args.right) c.args.right (node_there m c.args.config.now c.args.frame.now c.args.node [] c.requires.there c.requires.node tt) c.requires.is (inr (inl refl))) c.in-Err.ensures.found

pub binary-returns-in-Err-clause-does : goal.expressions::binary-returns-in-Err-clause-does
binary-returns-in-Err-clause-does g t c =
    let m = g.S.WorldStore.meaning in
    let s = c.value.new.stops in
    let k = c.waits.new.stops in
    broke_does m Value Value c.args.config.now c.value.new.config c.waits.new.config c.args.frame.now c.args.node [] (points.Expr (expr.BinaryLeft c.args.operator c.args.right)) c.in-Err.end s.waits s.top c.waits.result k.waits k.top
    c.waits.ensures.same c.waits.ensures.waits gives_in gives_in (AtExpr c.args.left.0) (λ t env. then_value (line.binary_left c.args.operator c.args.right.0 env)) (λ l t env. refl) (λ t env e. refl) c.in-Err.ensures.later c.in-Err.ensures.does

pub both-returns-in-Err-clause-later : goal.expressions::both-returns-in-Err-clause-later
both-returns-in-Err-clause-later g t c =
    let m = g.S.WorldStore.meaning in
    let s = c.value.new.stops in
    let k = c.waits_holding.new.stops in
    broke_later m Value Value c.args.config.now c.value.new.config c.waits_holding.new.config c.args.frame.now c.args.node (holds.Value c.args.first ∷ []) (points.Expr (expr.BinaryRight c.args.operator)) c.in-Err.end s.waits s.top c.waits_holding.result k.waits k.top
    c.waits_holding.ensures.same c.waits_holding.ensures.waits c.in-Err.ensures.later

pub both-returns-in-Err-clause-found : goal.expressions::both-returns-in-Err-clause-found
both-returns-in-Err-clause-found g t c =
    let m = g.S.WorldStore.meaning in
    let s = c.value.new.stops in
    let k = c.waits_holding.new.stops in
    broke_found m Value Value c.args.config.now c.value.new.config c.waits_holding.new.config c.args.frame.now c.args.node (holds.Value c.args.first ∷ []) (points.Expr (expr.BinaryRight c.args.operator)) c.in-Err.end s.waits s.top c.waits_holding.result k.waits k.top
    c.waits_holding.ensures.same c.waits_holding.ensures.waits c.in-Err.ensures.later c.requires.there c.requires.node (c.requires.value, tt) tt c.in-Err.ensures.found

pub both-returns-in-Err-clause-does : goal.expressions::both-returns-in-Err-clause-does
both-returns-in-Err-clause-does g t c =
    let m = g.S.WorldStore.meaning in
    let s = c.value.new.stops in
    let k = c.waits_holding.new.stops in
    broke_does m Value Value c.args.config.now c.value.new.config c.waits_holding.new.config c.args.frame.now c.args.node (holds.Value c.args.first ∷ []) (points.Expr (expr.BinaryRight c.args.operator)) c.in-Err.end s.waits s.top c.waits_holding.result k.waits k.top
    c.waits_holding.ensures.same c.waits_holding.ensures.waits gives_in gives_in (AtExpr c.args.right.0) (λ t env. then_value (line.binary_right c.args.operator (value_in t c.args.first) env)) (λ l t env. refl) (λ t env e. refl) c.in-Err.ensures.later c.in-Err.ensures.does

-- ---- members

pub form-returns-in-Some-Dot-clause-does : goal.expressions::form-returns-in-Some-Dot-clause-does
form-returns-in-Some-Dot-clause-does g t c =
    let m = g.S.WorldStore.meaning in
    let old = c.args.config.now in
    let f = c.args.frame.now in
    let s = c.in-Some-Dot in
    let k = c.dot.new.stops in
    line_form m gives_in old c.dot.new.config f (λ t env. entry (AtExpr c.args.node.0) env) c.dot.result k.waits k.top (AtExpr s.base.0) (λ t env. then_value (line.dot_base (spelt_in t s.name) env (line.give_value_of env)))
    (λ t more. expr_is m old f c.args.node (nodes.Dot s.base s.name) t (s.ensures ∙ s.field-0-is)) c.dot.ensures.does

pub form-returns-in-Some-At-clause-does : goal.expressions::form-returns-in-Some-At-clause-does
form-returns-in-Some-At-clause-does g t c =
    let m = g.S.WorldStore.meaning in
    let old = c.args.config.now in
    let f = c.args.frame.now in
    let s = c.in-Some-At in
    let k = c.at.new.stops in
    line_form m gives_in old c.at.new.config f (λ t env. entry (AtExpr c.args.node.0) env) c.at.result k.waits k.top (AtExpr s.base.0) (λ t env. then_value (line.at_base s.index.0 env (line.give_value_of env)))
    (λ t more. expr_is m old f c.args.node (nodes.At s.base s.index) t (s.ensures ∙ s.field-0-is)) c.at.ensures.does

-- ---- conditions and commas

pub form-returns-in-Some-Cond-clause-does : goal.expressions::form-returns-in-Some-Cond-clause-does
form-returns-in-Some-Cond-clause-does g t c =
    let m = g.S.WorldStore.meaning in
    let old = c.args.config.now in
    let f = c.args.frame.now in
    let s = c.in-Some-Cond in
    let k = c.choice.new.stops in
    line_form m gives_in old c.choice.new.config f (λ t env. entry (AtExpr c.args.node.0) env) c.choice.result k.waits k.top (AtExpr s.test.0) (λ t env. then_value (line.cond_test s.yes.0 s.no.0 env))
    (λ t more. expr_is m old f c.args.node (nodes.Cond s.test s.yes s.no) t (s.ensures ∙ s.field-0-is)) c.choice.ensures.does

pub form-returns-in-Some-Comma-clause-does : goal.expressions::form-returns-in-Some-Comma-clause-does
form-returns-in-Some-Comma-clause-does g t c =
    let m = g.S.WorldStore.meaning in
    let old = c.args.config.now in
    let f = c.args.frame.now in
    let s = c.in-Some-Comma in
    let k = c.comma.new.stops in
    line_form m gives_in old c.comma.new.config f (λ t env. entry (AtExpr c.args.node.0) env) c.comma.result k.waits k.top (AtExpr s.first.0) (λ t env. then_value (line.comma_left s.second.0 env))
    (λ t more. expr_is m old f c.args.node (nodes.Comma s.first s.second) t (s.ensures ∙ s.field-0-is)) c.comma.ensures.does

pub form-update-requires : goal.expressions::form-update-requires
form-update-requires g t c =
    let m = g.S.WorldStore.meaning in
    let old = c.args.config.now in
    let f = c.args.frame.now in
    let s = c.in-Some-Postfix in
    let target : StandsHere old f s.part = stands_here m old (at_node f c.args.node []) (nodes.Postfix s.part s.operator) s.part (node_there m old f c.args.node [] c.requires.there c.requires.node tt) (s.ensures ∙ s.field-0-is) (inl refl) in
    search (rules, target)

pub form-returns-in-Some-Postfix-clause-does : goal.expressions::form-returns-in-Some-Postfix-clause-does
form-returns-in-Some-Postfix-clause-does g t c =
    let m = g.S.WorldStore.meaning in
    let old = c.args.config.now in
    let f = c.args.frame.now in
    let s = c.in-Some-Postfix in
    let k = c.update.new.stops in
    line_form m gives_in old c.update.new.config f (λ t env. entry (AtExpr c.args.node.0) env) c.update.result k.waits k.top (AtTarget s.part.0) (λ t env. then_reference (line.update_reference (fix_in fixes.Post) s.operator env))
    (λ t more. expr_is m old f c.args.node (nodes.Postfix s.part s.operator) t (s.ensures ∙ s.field-0-is)) c.update.ensures.does

pub form-returns-in-Some-Assign-clause-does : goal.expressions::form-returns-in-Some-Assign-clause-does
form-returns-in-Some-Assign-clause-does g t c =
    let m = g.S.WorldStore.meaning in
    let old = c.args.config.now in
    let f = c.args.frame.now in
    let s = c.in-Some-Assign in
    let k = c.assign.new.stops in
    line_form m gives_in old c.assign.new.config f (λ t env. entry (AtExpr c.args.node.0) env) c.assign.result k.waits k.top (AtTarget s.part.0) (λ t env. then_reference (line.assign_reference (compound s.sign) s.right.0 env))
    (λ t more. expr_is m old f c.args.node (nodes.Assign s.part s.sign s.right) t (s.ensures ∙ s.field-0-is)) c.assign.ensures.does

pub form-object-requires : goal.expressions::form-object-requires
form-object-requires g t c =
    let m = g.S.WorldStore.meaning in
    let old = c.args.config.now in
    let f = c.args.frame.now in
    let s = c.in-Some-ObjectLit in
    let is : IsObjectLiteral m old f c.args.node = (s.field-0-0, (s.field-0-1, s.ensures ∙ s.field-0-is)) in
    search (rules, is)

-- ---- literals of arrays

pub form-array-requires : goal.expressions::form-array-requires
form-array-requires g t c =
    let m = g.S.WorldStore.meaning in
    let old = c.args.config.now in
    let f = c.args.frame.now in
    let s = c.in-Some-ArrayLit in
    let is : IsArrayLiteral m old f c.args.node = (s.field-0-0, (s.field-0-1, s.ensures ∙ s.field-0-is)) in
    search (rules, is)

-- ---- `new`

pub form-new_object-requires : goal.expressions::form-new_object-requires
form-new_object-requires g t c =
    let m = g.S.WorldStore.meaning in
    let old = c.args.config.now in
    let f = c.args.frame.now in
    let s = c.in-Some-NewWith in
    let callee : StandsHere old f s.callee = stands_here m old (at_node f c.args.node []) (nodes.NewWith s.callee s.field-0-1) s.callee (node_there m old f c.args.node [] c.requires.there c.requires.node tt) (s.ensures ∙ s.field-0-is) (inl refl) in
    search (rules, callee)

pub form-new_object-requires-in-Some-NewBare : goal.expressions::form-new_object-requires-in-Some-NewBare
form-new_object-requires-in-Some-NewBare g t c =
    let m = g.S.WorldStore.meaning in
    let old = c.args.config.now in
    let f = c.args.frame.now in
    let s = c.in-Some-NewBare in
    let callee : StandsHere old f s.callee = stands_here m old (at_node f c.args.node []) (nodes.NewBare s.callee) s.callee (node_there m old f c.args.node [] c.requires.there c.requires.node tt) (s.ensures ∙ s.field-0-is) (inl refl) in
    search (rules, callee)

pub form-returns-in-Some-NewWith-clause-does : goal.expressions::form-returns-in-Some-NewWith-clause-does
form-returns-in-Some-NewWith-clause-does g t c =
    let m = g.S.WorldStore.meaning in
    let old = c.args.config.now in
    let f = c.args.frame.now in
    let s = c.in-Some-NewWith in
    let n = node_among old.units.items f.tree c.args.node in
    let k = c.new_object.new.stops in
    line_form m gives_in old c.new_object.new.config f (λ t env. entry (AtExpr c.args.node.0) env) c.new_object.result k.waits k.top (AtExpr s.callee.0) (λ t env. then_value (line.new_callee (arguments_of (node_in t n)) env))
    (λ t more. let env = env_in m old t f in
    expr_is m old f c.args.node (nodes.NewWith s.callee s.field-0-1) t (s.ensures ∙ s.field-0-is)
    ∙ sym (ap (λ x. Eval (AtExpr s.callee.0) env (then_value (line.new_callee (arguments_of (node_in t x)) env))) (s.ensures ∙ s.field-0-is))) c.new_object.ensures.does

pub form-returns-in-Some-NewBare-clause-does : goal.expressions::form-returns-in-Some-NewBare-clause-does
form-returns-in-Some-NewBare-clause-does g t c =
    let m = g.S.WorldStore.meaning in
    let old = c.args.config.now in
    let f = c.args.frame.now in
    let s = c.in-Some-NewBare in
    let n = node_among old.units.items f.tree c.args.node in
    let k = c.new_object-in-Some-NewBare.new.stops in
    line_form m gives_in old c.new_object-in-Some-NewBare.new.config f (λ t env. entry (AtExpr c.args.node.0) env) c.new_object-in-Some-NewBare.result k.waits k.top (AtExpr s.callee.0) (λ t env. then_value (line.new_callee (arguments_of (node_in t n)) env))
    (λ t more. let env = env_in m old t f in
    expr_is m old f c.args.node (nodes.NewBare s.callee) t (s.ensures ∙ s.field-0-is)
    ∙ sym (ap (λ x. Eval (AtExpr s.callee.0) env (then_value (line.new_callee (arguments_of (node_in t x)) env))) (s.ensures ∙ s.field-0-is))) c.new_object-in-Some-NewBare.ensures.does

pub value-read-requires : goal.expressions::value-read-requires
value-read-requires g t c =
    let m = g.S.WorldStore.meaning in
    let old = c.args.config.now in
    let f = c.args.frame.now in
    let mid = c.quick.new.config in
    let l = c.quick.ensures.later in
    let base : Base m mid = l.base in
    let there : IsThere m mid f = l.frames f c.requires.there in
    let node : StandsHere mid f c.args.node = stands_later m old f mid c.args.node l c.requires.node in
    search (rules, base, there, node)
