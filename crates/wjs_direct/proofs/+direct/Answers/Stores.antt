-- What holds of the functions of `stores`.
use Rattle.std.proofs.Common.{◌≡◌, rules, [], ◌∷◌, Option, Some, inl, inr, refl, ap, ◌∙◌, subst, sym}
use Rattle.std.specs.Prelude.{Ok, Err, IfNone, IfSome}
use Rattle.wjs_base.specs.declared.values.Value.{Value}
use Rattle.wjs_by_content.specs.Tables.{value_in}
use Rattle.wjs_tree.specs.Operators.{compound}
use Rattle.wjs_tree.specs.declared.operators.BinaryOperator.{BinaryOperator}
use Rattle.wjs_tree.specs.declared.node.Node.TheVariants as nodes
use Rattle.wjs_meaning.specs.Deeds.{AtExpr, then_value, AtTarget, then_reference}
use Rattle.wjs_model.specs.Waiting.{fix_in}
use Rattle.wjs_meaning.specs.Expressions as line
use Rattle.wjs_model.specs.declared.frame.Completion.{Completion}
use Rattle.wjs_model.specs.Contents.{completion_in, reference_in}
use Rattle.wjs_model.specs.Soundness.{Base, HasCompletion, HasReference, HasValue, IsThere, StandsHere}
use Rattle.wjs_model.specs.declared.config.Config.{Config}
use Rattle.wjs_model.specs.declared.frame.Reference.{Reference}
use Rattle.wjs_model.specs.declared.frame.Held.TheVariants as holds
use Rattle.wjs_model.specs.declared.point.Point.TheVariants as points
use Rattle.wjs_model.specs.declared.point.ExprPoint.TheVariants as expr
use Rattle.wjs_frames.specs.Doing.{Does}
use Rattle.wjs_frames.specs.Parts.{env_in}
use Rattle.wjs_frames.proofs.Parting.{stands_here, stands_later}
use Rattle.wjs_frames.specs.Following.{Later}
use Rattle.wjs_heap_steps.proofs.Later.{later_twice}
use Rattle.wjs_stopping.specs.Ends.{gives_in}
use Rattle.wjs_stopping.specs.Evaluating.{Evaluates, Leaves, outcome_in}
use Rattle.wjs_stopping.specs.Waiting.{at_node}
use Rattle.wjs_direct_lines.specs.Deeds.{goal_here, refers_in}
use Rattle.wjs_direct_lines.proofs.Forming.{form_goes_on, node_there}
use Rattle.wjs_direct_lines.proofs.Parts.{broke_does, broke_found, broke_later, did, later_then, line_as, line_form}
use Rattle.wjs_direct_lines.proofs.Assigning.{broken_as}
use Rattle.wjs_direct_lines.proofs.ReferenceReading.{read_broke, read_found, read_goes}
use Rattle.wjs_direct.proofs.+direct.Goals as goal

-- ---- expressions whose value no further one asks for

pub effect-returns-in-Some-clause-does : goal.stores::effect-returns-in-Some-clause-does
effect-returns-in-Some-clause-does g t c =
    let m = g.S.WorldStore.meaning in
    let old = c.args.config.now in
    let s = c.args.stops.now in
    let f = c.args.frame.now in
    let mid = c.expression_at_once.new.config in
    let D : Option Completion → Type 0 = λ o. IfSome o (λ e. Does m (goal_here m old f (AtExpr c.args.node.0)) (λ t. completion_in t e) old mid) in
    did m completion_in (goal_here m old f (AtExpr c.args.node.0)) c.in-Some.end s.waits s.top old mid (subst D c.in-Some.is c.in_ok-done.ensures.does)

pub effect-returns-in-Some-clause-later : goal.stores::effect-returns-in-Some-clause-later
effect-returns-in-Some-clause-later g t c =
    c.in_ok-done.ensures.later

pub effect-returns-in-Some-clause-found : goal.stores::effect-returns-in-Some-clause-found
effect-returns-in-Some-clause-found g t c =
    let H : Option Completion → Type 0 = λ o. IfSome o (λ e. HasCompletion c.expression_at_once.new.config e) in
    (subst H c.in-Some.is c.in_ok-done.ensures.found, c.requires.empty)

pub effect-value-requires : goal.stores::effect-value-requires
effect-value-requires g t c =
    let m = g.S.WorldStore.meaning in
    let old = c.args.config.now in
    let f = c.args.frame.now in
    let mid = c.expression_at_once.new.config in
    let l = c.in_ok-done.ensures.later in
    let base : Base m mid = l.base in
    let there : IsThere m mid f = l.frames f c.requires.there in
    let node : StandsHere mid f c.args.node = stands_later m old f mid c.args.node l c.requires.node in
    let empty : c.args.stops.now.waits ≡ [] = c.requires.empty in
    search (rules, base, there, node, empty)

pub effect-returns-in-Ok-clause-later : goal.stores::effect-returns-in-Ok-clause-later
effect-returns-in-Ok-clause-later g t c =
    later_twice g.S.WorldStore.meaning c.args.config.now c.expression_at_once.new.config c.value.new.config c.in_ok-done.ensures.later c.in-Ok.ensures.later

pub effect-returns-in-Ok-clause-does : goal.stores::effect-returns-in-Ok-clause-does
effect-returns-in-Ok-clause-does g t c =
    let m = g.S.WorldStore.meaning in
    let new = c.value.new.config in
    let s = c.value.new.stops in
    let same = subst (λ (o : Option Completion). IfNone o (c.expression_at_once.new.config ≡ c.args.config.now)) c.in_default.is c.in_ok-done.ensures.same in
    subst (λ (x : Config g.row.S.Denot). Leaves m (goal_here m x c.args.frame.now (AtExpr c.args.node.0)) (outcome_in m new gives_in (Ok c.in-Ok.value) s.waits s.top) x new) same c.in-Ok.ensures.does

pub effect-returns-in-Err-clause-later : goal.stores::effect-returns-in-Err-clause-later
effect-returns-in-Err-clause-later g t c =
    let m = g.S.WorldStore.meaning in
    let new = c.value.new.config in
    later_then m {A = Completion} c.args.config.now c.expression_at_once.new.config new (Err c.in-Err.end) c.in_ok-done.ensures.later
    (broken_as Value Completion (Later m c.expression_at_once.new.config new) c.in-Err.end c.in-Err.ensures.later)

pub effect-returns-in-Err-clause-does : goal.stores::effect-returns-in-Err-clause-does
effect-returns-in-Err-clause-does g t c =
    let m = g.S.WorldStore.meaning in
    let f = c.args.frame.now in
    let mid = c.expression_at_once.new.config in
    let new = c.value.new.config in
    let s = c.value.new.stops in
    let same = subst (λ (o : Option Completion). IfNone o (mid ≡ c.args.config.now)) c.in_default.is c.in_ok-done.ensures.same in
    subst (λ (x : Config g.row.S.Denot). Evaluates m (goal_here m x f (AtExpr c.args.node.0)) completion_in (Err c.in-Err.end) s.waits s.top x new) same
    (broken_as Value Completion (Leaves m (goal_here m mid f (AtExpr c.args.node.0)) (outcome_in m new gives_in (Err c.in-Err.end) s.waits s.top) mid new) c.in-Err.end c.in-Err.ensures.does)

pub assign-target-requires : goal.stores::assign-target-requires
assign-target-requires g t c =
    let m = g.S.WorldStore.meaning in
    let old = c.args.config.now in
    let f = c.args.frame.now in
    let node : StandsHere old f c.args.t = stands_here m old (at_node f c.args.node []) (nodes.Assign c.args.t c.args.sign c.args.right) c.args.t (node_there m old f c.args.node [] c.requires.there c.requires.node tt) c.requires.is (inl refl) in
    search (rules, node)

pub assign-assigned-requires : goal.stores::assign-assigned-requires
assign-assigned-requires g t c =
    let m = g.S.WorldStore.meaning in
    let old = c.args.config.now in
    let f = c.args.frame.now in
    let mid = c.target.new.config in
    let l = c.in-Ok.ensures.later in
    let base : Base m mid = l.base in
    let there : IsThere m mid f = l.frames f c.requires.there in
    let node : StandsHere mid f c.args.node = stands_later m old f mid c.args.node l c.requires.node in
    let empty : c.target.new.stops.waits ≡ [] = c.in-Ok.ensures.found.1 in
    let right : StandsHere mid f c.args.right = stands_later m old f mid c.args.right l
    (stands_here m old (at_node f c.args.node []) (nodes.Assign c.args.t c.args.sign c.args.right) c.args.right (node_there m old f c.args.node [] c.requires.there c.requires.node tt) c.requires.is (inr (inl refl))) in
    let reference : HasReference mid c.in-Ok.reference = c.in-Ok.ensures.found.0 in
    search (rules, base, there, node, empty, right, reference)

pub assign-compounded-requires : goal.stores::assign-compounded-requires
assign-compounded-requires g t c =
    let m = g.S.WorldStore.meaning in
    let old = c.args.config.now in
    let f = c.args.frame.now in
    let mid = c.target.new.config in
    let l = c.in-Ok.ensures.later in
    let base : Base m mid = l.base in
    let there : IsThere m mid f = l.frames f c.requires.there in
    let node : StandsHere mid f c.args.node = stands_later m old f mid c.args.node l c.requires.node in
    let empty : c.target.new.stops.waits ≡ [] = c.in-Ok.ensures.found.1 in
    let right : StandsHere mid f c.args.right = stands_later m old f mid c.args.right l
    (stands_here m old (at_node f c.args.node []) (nodes.Assign c.args.t c.args.sign c.args.right) c.args.right (node_there m old f c.args.node [] c.requires.there c.requires.node tt) c.requires.is (inr (inl refl))) in
    let reference : HasReference mid c.in-Ok.reference = c.in-Ok.ensures.found.0 in
    search (rules, base, there, node, empty, right, reference)

pub assign-returns-in-None-clause-later : goal.stores::assign-returns-in-None-clause-later
assign-returns-in-None-clause-later g t c =
    later_then g.S.WorldStore.meaning c.args.config.now c.target.new.config c.assigned.new.config c.assigned.result c.in-Ok.ensures.later c.assigned.ensures.later

pub assign-returns-in-None-clause-does : goal.stores::assign-returns-in-None-clause-does
assign-returns-in-None-clause-does g t c =
    let m = g.S.WorldStore.meaning in
    let f = c.args.frame.now in
    let mid = c.target.new.config in
    let new = c.assigned.new.config in
    let r = c.in-Ok.reference in
    let s = c.target.new.stops in
    let k = c.assigned.new.stops in
    form_goes_on m refers_in gives_in c.args.config.now mid new f (AtTarget c.args.t.0) (λ t env. then_reference (line.assign_reference (compound c.args.sign) c.args.right.0 env)) r c.assigned.result s.waits s.top k.waits k.top c.in-Ok.ensures.later c.in-Ok.ensures.does
    (line_form m gives_in mid new f (λ t env. line.assign_reference (compound c.args.sign) c.args.right.0 env (reference_in t r)) c.assigned.result k.waits k.top (AtExpr c.args.right.0) (λ t env. then_value (line.assign_value (reference_in t r) env))
    (λ t more. ap (λ (o : Option BinaryOperator). line.assign_reference o c.args.right.0 (env_in m mid t f) (reference_in t r)) (sym c.compound.ensures ∙ c.in-None.is)) c.assigned.ensures.does)

pub assign-returns-in-Some-clause-later : goal.stores::assign-returns-in-Some-clause-later
assign-returns-in-Some-clause-later g t c =
    later_then g.S.WorldStore.meaning c.args.config.now c.target.new.config c.compounded.new.config c.compounded.result c.in-Ok.ensures.later c.compounded.ensures.later

pub assign-returns-in-Some-clause-does : goal.stores::assign-returns-in-Some-clause-does
assign-returns-in-Some-clause-does g t c =
    let m = g.S.WorldStore.meaning in
    let f = c.args.frame.now in
    let mid = c.target.new.config in
    let new = c.compounded.new.config in
    let r = c.in-Ok.reference in
    let s = c.target.new.stops in
    let k = c.compounded.new.stops in
    form_goes_on m refers_in gives_in c.args.config.now mid new f (AtTarget c.args.t.0) (λ t env. then_reference (line.assign_reference (compound c.args.sign) c.args.right.0 env)) r c.compounded.result s.waits s.top k.waits k.top c.in-Ok.ensures.later c.in-Ok.ensures.does
    (line_as m gives_in mid new f (λ t env. line.assign_reference (compound c.args.sign) c.args.right.0 env (reference_in t r)) c.compounded.result k.waits k.top (λ t env. line.assign_reference (Some c.in-Some.operator) c.args.right.0 env (reference_in t r))
    (λ t more. ap (λ (o : Option BinaryOperator). line.assign_reference o c.args.right.0 (env_in m mid t f) (reference_in t r)) (sym c.compound.ensures ∙ c.in-Some.is)) c.compounded.ensures.does)

pub assign-returns-in-Err-clause-later : goal.stores::assign-returns-in-Err-clause-later
assign-returns-in-Err-clause-later g t c =
    let m = g.S.WorldStore.meaning in
    let old = c.args.config.now in
    let f = c.args.frame.now in
    let s = c.target.new.stops in
    let k = c.waits.new.stops in
    broke_later m Reference Value old c.target.new.config c.waits.new.config f c.args.node [] (points.Expr (expr.AssignTarget c.args.sign c.args.right)) c.in-Err.end s.waits s.top c.waits.result k.waits k.top
    c.waits.ensures.same c.waits.ensures.waits c.in-Err.ensures.later

pub assign-returns-in-Err-clause-found : goal.stores::assign-returns-in-Err-clause-found
assign-returns-in-Err-clause-found g t c =
    let m = g.S.WorldStore.meaning in
    let old = c.args.config.now in
    let f = c.args.frame.now in
    let s = c.target.new.stops in
    let k = c.waits.new.stops in
    broke_found m Reference Value old c.target.new.config c.waits.new.config f c.args.node [] (points.Expr (expr.AssignTarget c.args.sign c.args.right)) c.in-Err.end s.waits s.top c.waits.result k.waits k.top
    c.waits.ensures.same c.waits.ensures.waits c.in-Err.ensures.later c.requires.there c.requires.node tt (stands_here m old (at_node f c.args.node []) (nodes.Assign c.args.t c.args.sign c.args.right) c.args.right (node_there m old f c.args.node [] c.requires.there c.requires.node tt) c.requires.is (inr (inl refl))) c.in-Err.ensures.found

pub assign-returns-in-Err-clause-does : goal.stores::assign-returns-in-Err-clause-does
assign-returns-in-Err-clause-does g t c =
    let m = g.S.WorldStore.meaning in
    let old = c.args.config.now in
    let f = c.args.frame.now in
    let s = c.target.new.stops in
    let k = c.waits.new.stops in
    broke_does m Reference Value old c.target.new.config c.waits.new.config f c.args.node [] (points.Expr (expr.AssignTarget c.args.sign c.args.right)) c.in-Err.end s.waits s.top c.waits.result k.waits k.top
    c.waits.ensures.same c.waits.ensures.waits refers_in gives_in (AtTarget c.args.t.0) (λ t env. then_reference (line.assign_reference (compound c.args.sign) c.args.right.0 env)) (λ l t env. refl) (λ t env e. refl) c.in-Err.ensures.later c.in-Err.ensures.does

pub assigned-stored-requires : goal.stores::assigned-stored-requires
assigned-stored-requires g t c =
    let m = g.S.WorldStore.meaning in
    let old = c.args.config.now in
    let mid = c.value.new.config in
    let f = c.args.frame.now in
    let l = c.in-Ok.ensures.later in
    record {
      base = l.base;
      there = l.frames f c.requires.there;
      empty = c.in-Ok.ensures.found.1;
      reference = l.references c.args.reference c.requires.reference;
      value = c.in-Ok.ensures.found.0;
      told = c.in-Ok.ensures.found.0;
    }

pub assigned-returns-in-Ok-clause-later : goal.stores::assigned-returns-in-Ok-clause-later
assigned-returns-in-Ok-clause-later g t c =
    later_then g.S.WorldStore.meaning c.args.config.now c.value.new.config c.stored.new.config c.stored.result c.in-Ok.ensures.later c.stored.ensures.later

pub assigned-returns-in-Ok-clause-does : goal.stores::assigned-returns-in-Ok-clause-does
assigned-returns-in-Ok-clause-does g t c =
    let s = c.value.new.stops in
    let k = c.stored.new.stops in
    form_goes_on g.S.WorldStore.meaning gives_in gives_in c.args.config.now c.value.new.config c.stored.new.config c.args.frame.now (AtExpr c.args.right.0) (λ t env. then_value (line.assign_value (reference_in t c.args.reference) env)) c.in-Ok.value
    c.stored.result s.waits s.top k.waits k.top c.in-Ok.ensures.later c.in-Ok.ensures.does c.stored.ensures.does

pub assigned-returns-in-Err-clause-later : goal.stores::assigned-returns-in-Err-clause-later
assigned-returns-in-Err-clause-later g t c =
    let m = g.S.WorldStore.meaning in
    let old = c.args.config.now in
    let f = c.args.frame.now in
    let s = c.value.new.stops in
    let k = c.waits_holding.new.stops in
    broke_later m Value Value old c.value.new.config c.waits_holding.new.config f c.args.node (holds.Reference c.args.reference ∷ []) (points.Expr expr.AssignValue) c.in-Err.end s.waits s.top c.waits_holding.result k.waits k.top
    c.waits_holding.ensures.same c.waits_holding.ensures.waits c.in-Err.ensures.later

pub assigned-returns-in-Err-clause-found : goal.stores::assigned-returns-in-Err-clause-found
assigned-returns-in-Err-clause-found g t c =
    let m = g.S.WorldStore.meaning in
    let old = c.args.config.now in
    let f = c.args.frame.now in
    let s = c.value.new.stops in
    let k = c.waits_holding.new.stops in
    broke_found m Value Value old c.value.new.config c.waits_holding.new.config f c.args.node (holds.Reference c.args.reference ∷ []) (points.Expr expr.AssignValue) c.in-Err.end s.waits s.top c.waits_holding.result k.waits k.top
    c.waits_holding.ensures.same c.waits_holding.ensures.waits c.in-Err.ensures.later c.requires.there c.requires.node (c.requires.reference, tt) tt c.in-Err.ensures.found

pub assigned-returns-in-Err-clause-does : goal.stores::assigned-returns-in-Err-clause-does
assigned-returns-in-Err-clause-does g t c =
    let m = g.S.WorldStore.meaning in
    let old = c.args.config.now in
    let f = c.args.frame.now in
    let s = c.value.new.stops in
    let k = c.waits_holding.new.stops in
    broke_does m Value Value old c.value.new.config c.waits_holding.new.config f c.args.node (holds.Reference c.args.reference ∷ []) (points.Expr expr.AssignValue) c.in-Err.end s.waits s.top c.waits_holding.result k.waits k.top
    c.waits_holding.ensures.same c.waits_holding.ensures.waits gives_in gives_in (AtExpr c.args.right.0) (λ t env. then_value (line.assign_value (reference_in t c.args.reference) env)) (λ l t env. refl) (λ t env e. refl) c.in-Err.ensures.later c.in-Err.ensures.does

pub compound_right-compound_stored-requires : goal.stores::compound_right-compound_stored-requires
compound_right-compound_stored-requires g t c =
    let m = g.S.WorldStore.meaning in
    let old = c.args.config.now in
    let mid = c.value.new.config in
    let f = c.args.frame.now in
    let l = c.in-Ok.ensures.later in
    record {
      base = l.base;
      there = l.frames f c.requires.there;
      node = stands_later m old f mid c.args.node l c.requires.node;
      old = l.values c.args.old c.requires.old;
      empty = c.in-Ok.ensures.found.1;
      reference = l.references c.args.reference c.requires.reference;
      value = c.in-Ok.ensures.found.0;
    }

pub compound_right-returns-in-Ok-clause-later : goal.stores::compound_right-returns-in-Ok-clause-later
compound_right-returns-in-Ok-clause-later g t c =
    later_then g.S.WorldStore.meaning c.args.config.now c.value.new.config c.compound_stored.new.config c.compound_stored.result c.in-Ok.ensures.later c.compound_stored.ensures.later

pub compound_right-returns-in-Ok-clause-does : goal.stores::compound_right-returns-in-Ok-clause-does
compound_right-returns-in-Ok-clause-does g t c =
    let s = c.value.new.stops in
    let k = c.compound_stored.new.stops in
    form_goes_on g.S.WorldStore.meaning gives_in gives_in c.args.config.now c.value.new.config c.compound_stored.new.config c.args.frame.now (AtExpr c.args.right.0) (λ t env. then_value (line.compound_value c.args.operator (value_in t c.args.old) (reference_in t c.args.reference) env)) c.in-Ok.value
    c.compound_stored.result s.waits s.top k.waits k.top c.in-Ok.ensures.later c.in-Ok.ensures.does c.compound_stored.ensures.does

pub compound_right-returns-in-Err-clause-later : goal.stores::compound_right-returns-in-Err-clause-later
compound_right-returns-in-Err-clause-later g t c =
    let m = g.S.WorldStore.meaning in
    let old = c.args.config.now in
    let f = c.args.frame.now in
    let s = c.value.new.stops in
    let k = c.wait_compound.new.stops in
    broke_later m Value Value old c.value.new.config c.wait_compound.new.config f c.args.node (holds.Value c.args.old ∷ holds.Reference c.args.reference ∷ []) (points.Expr (expr.CompoundValue c.args.operator)) c.in-Err.end s.waits s.top c.wait_compound.result k.waits k.top
    c.wait_compound.ensures.same c.wait_compound.ensures.waits c.in-Err.ensures.later

pub compound_right-returns-in-Err-clause-found : goal.stores::compound_right-returns-in-Err-clause-found
compound_right-returns-in-Err-clause-found g t c =
    let m = g.S.WorldStore.meaning in
    let old = c.args.config.now in
    let f = c.args.frame.now in
    let s = c.value.new.stops in
    let k = c.wait_compound.new.stops in
    broke_found m Value Value old c.value.new.config c.wait_compound.new.config f c.args.node (holds.Value c.args.old ∷ holds.Reference c.args.reference ∷ []) (points.Expr (expr.CompoundValue c.args.operator)) c.in-Err.end s.waits s.top c.wait_compound.result k.waits k.top
    c.wait_compound.ensures.same c.wait_compound.ensures.waits c.in-Err.ensures.later c.requires.there c.requires.node (c.requires.old, (c.requires.reference, tt)) tt c.in-Err.ensures.found

pub compound_right-returns-in-Err-clause-does : goal.stores::compound_right-returns-in-Err-clause-does
compound_right-returns-in-Err-clause-does g t c =
    let m = g.S.WorldStore.meaning in
    let old = c.args.config.now in
    let f = c.args.frame.now in
    let s = c.value.new.stops in
    let k = c.wait_compound.new.stops in
    broke_does m Value Value old c.value.new.config c.wait_compound.new.config f c.args.node (holds.Value c.args.old ∷ holds.Reference c.args.reference ∷ []) (points.Expr (expr.CompoundValue c.args.operator)) c.in-Err.end s.waits s.top c.wait_compound.result k.waits k.top
    c.wait_compound.ensures.same c.wait_compound.ensures.waits gives_in gives_in (AtExpr c.args.right.0) (λ t env. then_value (line.compound_value c.args.operator (value_in t c.args.old) (reference_in t c.args.reference) env)) (λ l t env. refl) (λ t env e. refl) c.in-Err.ensures.later c.in-Err.ensures.does

pub compounded-compound_right-requires : goal.stores::compounded-compound_right-requires
compounded-compound_right-requires g t c =
    let m = g.S.WorldStore.meaning in
    let old = c.args.config.now in
    let f = c.args.frame.now in
    let mid = c.reference_value.new.config in
    let l = c.in-Ok.ensures.later in
    let base : Base m mid = l.base in
    let there : IsThere m mid f = l.frames f c.requires.there in
    let node : StandsHere mid f c.args.node = stands_later m old f mid c.args.node l c.requires.node in
    let right : StandsHere mid f c.args.right = stands_later m old f mid c.args.right l c.requires.right in
    let reference : HasReference mid c.args.reference = l.references c.args.reference c.requires.reference in
    let value : HasValue mid c.in-Ok.old = c.in-Ok.ensures.found.0 in
    search (rules, base, there, node, right, reference, value)

pub compounded-returns-in-Ok-clause-later : goal.stores::compounded-returns-in-Ok-clause-later
compounded-returns-in-Ok-clause-later g t c =
    later_then g.S.WorldStore.meaning c.args.config.now c.reference_value.new.config c.compound_right.new.config c.compound_right.result c.in-Ok.ensures.later c.compound_right.ensures.later

pub compounded-returns-in-Ok-clause-does : goal.stores::compounded-returns-in-Ok-clause-does
compounded-returns-in-Ok-clause-does g t c =
    let m = g.S.WorldStore.meaning in
    let mid = c.reference_value.new.config in
    let f = c.args.frame.now in
    let k = c.compound_right.new in
    let q = c.args.reference in
    let v = c.in-Ok.old in
    read_goes m gives_in c.args.config.now mid k.config f q (λ u env. line.compound_old c.args.operator c.args.right.0 (reference_in u q) env) v c.compound_right.result k.stops.waits k.stops.top c.in-Ok.ensures.later c.in-Ok.ensures.does
    (line_form m gives_in mid k.config f (λ u env. line.compound_old c.args.operator c.args.right.0 (reference_in u q) env (value_in u v)) c.compound_right.result k.stops.waits k.stops.top (AtExpr c.args.right.0)
    (λ u env. then_value (line.compound_value c.args.operator (value_in u v) (reference_in u q) env)) (λ u more. refl) c.compound_right.ensures.does)

-- its read threw

pub compounded-returns-in-Err-clause-later : goal.stores::compounded-returns-in-Err-clause-later
compounded-returns-in-Err-clause-later g t c = c.in-Err.ensures.later

pub compounded-returns-in-Err-clause-found : goal.stores::compounded-returns-in-Err-clause-found
compounded-returns-in-Err-clause-found g t c =
    let s = c.args.stops.now in
    read_found g.S.WorldStore.meaning c.reference_value.new.config c.in-Err.end s.waits s.top c.in-Err.ensures.found c.requires.empty

pub compounded-returns-in-Err-clause-does : goal.stores::compounded-returns-in-Err-clause-does
compounded-returns-in-Err-clause-does g t c =
    let s = c.args.stops.now in
    read_broke g.S.WorldStore.meaning gives_in c.args.config.now c.reference_value.new.config c.args.frame.now c.args.reference (λ u env. line.compound_old c.args.operator c.args.right.0 (reference_in u c.args.reference) env) c.in-Err.end
    s.waits s.top c.in-Err.ensures.found c.in-Err.ensures.does

-- ---- `++` and `--`

pub update-target_updated-requires : goal.stores::update-target_updated-requires
update-target_updated-requires g t c =
    let m = g.S.WorldStore.meaning in
    let old = c.args.config.now in
    let f = c.args.frame.now in
    let mid = c.target.new.config in
    let l = c.in-Ok.ensures.later in
    record {
      base = l.base;
      there = l.frames f c.requires.there;
      node = stands_later m old f mid c.args.node l c.requires.node;
      empty = c.in-Ok.ensures.found.1;
      reference = c.in-Ok.ensures.found.0;
    }

pub update-returns-in-Ok-clause-later : goal.stores::update-returns-in-Ok-clause-later
update-returns-in-Ok-clause-later g t c =
    later_then g.S.WorldStore.meaning c.args.config.now c.target.new.config c.target_updated.new.config c.target_updated.result c.in-Ok.ensures.later c.target_updated.ensures.later

pub update-returns-in-Ok-clause-does : goal.stores::update-returns-in-Ok-clause-does
update-returns-in-Ok-clause-does g t c =
    let s = c.target.new.stops in
    let k = c.target_updated.new.stops in
    form_goes_on g.S.WorldStore.meaning refers_in gives_in c.args.config.now c.target.new.config c.target_updated.new.config c.args.frame.now (AtTarget c.args.t.0) (λ t env. then_reference (line.update_reference (fix_in c.args.fix) c.args.operator env)) c.in-Ok.reference
    c.target_updated.result s.waits s.top k.waits k.top c.in-Ok.ensures.later c.in-Ok.ensures.does c.target_updated.ensures.does

pub update-returns-in-Err-clause-later : goal.stores::update-returns-in-Err-clause-later
update-returns-in-Err-clause-later g t c =
    let m = g.S.WorldStore.meaning in
    let s = c.target.new.stops in
    let k = c.waits.new.stops in
    broke_later m Reference Value c.args.config.now c.target.new.config c.waits.new.config c.args.frame.now c.args.node [] (points.Expr (expr.UpdateTarget c.args.fix c.args.operator)) c.in-Err.end s.waits s.top c.waits.result k.waits k.top
    c.waits.ensures.same c.waits.ensures.waits c.in-Err.ensures.later

pub update-returns-in-Err-clause-found : goal.stores::update-returns-in-Err-clause-found
update-returns-in-Err-clause-found g t c =
    let m = g.S.WorldStore.meaning in
    let s = c.target.new.stops in
    let k = c.waits.new.stops in
    broke_found m Reference Value c.args.config.now c.target.new.config c.waits.new.config c.args.frame.now c.args.node [] (points.Expr (expr.UpdateTarget c.args.fix c.args.operator)) c.in-Err.end s.waits s.top c.waits.result k.waits k.top
    c.waits.ensures.same c.waits.ensures.waits c.in-Err.ensures.later c.requires.there c.requires.node tt tt c.in-Err.ensures.found

pub update-returns-in-Err-clause-does : goal.stores::update-returns-in-Err-clause-does
update-returns-in-Err-clause-does g t c =
    let m = g.S.WorldStore.meaning in
    let s = c.target.new.stops in
    let k = c.waits.new.stops in
    broke_does m Reference Value c.args.config.now c.target.new.config c.waits.new.config c.args.frame.now c.args.node [] (points.Expr (expr.UpdateTarget c.args.fix c.args.operator)) c.in-Err.end s.waits s.top c.waits.result k.waits k.top
    c.waits.ensures.same c.waits.ensures.waits refers_in gives_in (AtTarget c.args.t.0) (λ t env. then_reference (line.update_reference (fix_in c.args.fix) c.args.operator env)) (λ l t env. refl) (λ t env e. refl) c.in-Err.ensures.later c.in-Err.ensures.does
