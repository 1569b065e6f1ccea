-- What holds of the functions of `prefixes`.
use Rattle.std.proofs.Common.{◌≡◌, true, rules, [], inl, refl, ap, ◌∙◌, subst, sym}
use Rattle.std.specs.Prelude.{Err}
use Rattle.wjs_base.specs.declared.values.Value.{Value}
use Rattle.wjs_tree.specs.declared.node.Node.TheVariants as nodes
use Rattle.wjs_meaning.specs.Deeds.{AtExpr, then_value, AtTarget, then_reference}
use Rattle.wjs_model.specs.Waiting.{fix_in}
use Rattle.wjs_meaning.specs.Programs.{entry}
use Rattle.wjs_meaning.specs.Expressions as line
use Rattle.wjs_model.specs.Soundness.{StandsHere}
use Rattle.wjs_model.specs.declared.frame.Phase.TheVariants as phases
use Rattle.wjs_model.specs.declared.point.Start.TheVariants as starts
use Rattle.wjs_model.specs.declared.point.Point.TheVariants as points
use Rattle.wjs_frames.specs.Parts.{env_in}
use Rattle.wjs_frames.proofs.OperandLines.{expr_is}
use Rattle.wjs_frames.proofs.Parting.{stands_here, stands_later}
use Rattle.wjs_frames.specs.declared.part.Part.TheVariants as part
use Rattle.wjs_quick.specs.Operating.{after_prefix, is_of_value}
use Rattle.wjs_direct_lines.proofs.Prefixing.{prefix_stands, prefix_waits}
use Rattle.wjs_quick.proofs.Operations.{prefix_is}
use Rattle.wjs_stopping.specs.Ends.{gives_in}
use Rattle.wjs_stopping.specs.Waiting.{at_node}
use Rattle.wjs_direct_lines.specs.declared.operands.Query.TheVariants as queries
use Rattle.wjs_direct_lines.specs.Deeds.{IsNode}
use Rattle.wjs_direct_lines.specs.Operands.{operator_of}
use Rattle.wjs_direct_lines.proofs.Forming.{form_goes_on, node_there}
use Rattle.wjs_direct_lines.proofs.Parts.{broke_does, broke_found, broke_later, later_stopped, later_then, line_form, ready_does, stop_found}
use Rattle.wjs_tree.specs.declared.operators.PrefixOperator.{PrefixOperator}
use Rattle.wjs_tree.specs.declared.operators.UpdateOperator.TheVariants as updates
use Rattle.wjs_model.specs.declared.point.Fix.TheVariants as fixes
use Rattle.wjs_direct.proofs.+direct.Goals as goal

-- ---- operators before an operand

pub prefix-operand-requires : goal.prefixes::prefix-operand-requires
prefix-operand-requires g t c =
    let operator : is_of_value c.args.operator ≡ true = sym c.is_of_value.ensures ∙ c.if-is_of_value.true in
    search (rules, operator)

pub prefix-returns-then-is_of_value-clause-does : goal.prefixes::prefix-returns-then-is_of_value-clause-does
prefix-returns-then-is_of_value-clause-does g t c =
    let m = g.S.WorldStore.meaning in
    let old = c.args.config.now in
    let f = c.args.frame.now in
    let k = c.operand.new.stops in
    line_form m gives_in old c.operand.new.config f (λ t env. entry (AtExpr c.args.node.0) env) c.operand.result k.waits k.top (AtExpr c.args.part.0) (λ t env. then_value (after_prefix c.args.operator env))
    (λ t more. expr_is m old f c.args.node (nodes.Prefix c.args.operator c.args.part) t c.requires.is ∙ prefix_is c.args.operator c.args.part.0 (env_in m old t f) (sym c.is_of_value.ensures ∙ c.if-is_of_value.true)) c.operand.ensures.does

pub on_target-returns-in_default-clause-later : goal.prefixes::on_target-returns-in_default-clause-later
on_target-returns-in_default-clause-later g t c =
    later_stopped g.S.WorldStore.meaning {A = Value} c.args.config.now c.stop.new.config (Err c.stop.result) c.requires.base c.stop.ensures.same

pub on_target-returns-in_default-clause-found : goal.prefixes::on_target-returns-in_default-clause-found
on_target-returns-in_default-clause-found g t c =
    let s = c.stop.new.stops in
    stop_found g.S.WorldStore.meaning c.args.config.now c.stop.new.config c.args.frame.now c.args.node [] (phases.Ready starts.Expr) c.stop.result s.waits s.top c.stop.ensures.same
    c.requires.there c.requires.node tt tt c.stop.ensures.stops

pub on_target-returns-in_default-clause-does : goal.prefixes::on_target-returns-in_default-clause-does
on_target-returns-in_default-clause-does g t c =
    let s = c.stop.new.stops in
    ready_does g.S.WorldStore.meaning gives_in c.args.config.now c.stop.new.config c.args.frame.now c.stop.result s.waits s.top c.stop.ensures.same (part.Expr c.args.node) c.stop.ensures.stops

pub operand-value-requires : goal.prefixes::operand-value-requires
operand-value-requires g t c =
    let m = g.S.WorldStore.meaning in
    let old = c.args.config.now in
    let f = c.args.frame.now in
    let part : StandsHere old f c.args.part = stands_here m old (at_node f c.args.node []) (nodes.Prefix c.args.operator c.args.part) c.args.part (node_there m old f c.args.node [] c.requires.there c.requires.node tt) c.requires.is (inl refl) in
    search (rules, part)

pub operand-after_operand-requires : goal.prefixes::operand-after_operand-requires
operand-after_operand-requires g t c =
    let m = g.S.WorldStore.meaning in
    let old = c.args.config.now in
    let f = c.args.frame.now in
    let mid = c.value.new.config in
    let l = c.in-Ok.ensures.later in
    record {
      base = l.base;
      there = l.frames f c.requires.there;
      node = stands_later m old f mid c.args.node l c.requires.node;
      empty = c.in-Ok.ensures.found.1;
      operator = c.requires.operator;
      value = c.in-Ok.ensures.found.0;
    }

pub operand-returns-in-Ok-clause-later : goal.prefixes::operand-returns-in-Ok-clause-later
operand-returns-in-Ok-clause-later g t c =
    later_then g.S.WorldStore.meaning c.args.config.now c.value.new.config c.after_operand.new.config c.after_operand.result c.in-Ok.ensures.later c.after_operand.ensures.later

pub operand-returns-in-Ok-clause-does : goal.prefixes::operand-returns-in-Ok-clause-does
operand-returns-in-Ok-clause-does g t c =
    let s = c.value.new.stops in
    let k = c.after_operand.new.stops in
    form_goes_on g.S.WorldStore.meaning gives_in gives_in c.args.config.now c.value.new.config c.after_operand.new.config c.args.frame.now (AtExpr c.args.part.0) (λ t env. then_value (after_prefix c.args.operator env)) c.in-Ok.value
    c.after_operand.result s.waits s.top k.waits k.top c.in-Ok.ensures.later c.in-Ok.ensures.does c.after_operand.ensures.does

pub operand-returns-in-Err-clause-later : goal.prefixes::operand-returns-in-Err-clause-later
operand-returns-in-Err-clause-later g t c =
    let m = g.S.WorldStore.meaning in
    let old = c.args.config.now in
    let f = c.args.frame.now in
    let s = c.value.new.stops in
    let k = c.waits.new.stops in
    broke_later m Value Value old c.value.new.config c.waits.new.config f c.args.node [] (points.Expr c.point_of.result) c.in-Err.end s.waits s.top c.waits.result k.waits k.top
    c.waits.ensures.same c.waits.ensures.waits c.in-Err.ensures.later

pub operand-returns-in-Err-clause-found : goal.prefixes::operand-returns-in-Err-clause-found
operand-returns-in-Err-clause-found g t c =
    let m = g.S.WorldStore.meaning in
    let old = c.args.config.now in
    let f = c.args.frame.now in
    let s = c.value.new.stops in
    let k = c.waits.new.stops in
    broke_found m Value Value old c.value.new.config c.waits.new.config f c.args.node [] (points.Expr c.point_of.result) c.in-Err.end s.waits s.top c.waits.result k.waits k.top
    c.waits.ensures.same c.waits.ensures.waits c.in-Err.ensures.later c.requires.there c.requires.node tt (prefix_stands m old (at_node f c.args.node []) c.args.operator c.point_of.result c.point_of.ensures) c.in-Err.ensures.found

pub operand-returns-in-Err-clause-does : goal.prefixes::operand-returns-in-Err-clause-does
operand-returns-in-Err-clause-does g t c =
    let m = g.S.WorldStore.meaning in
    let old = c.args.config.now in
    let f = c.args.frame.now in
    let s = c.value.new.stops in
    let k = c.waits.new.stops in
    broke_does m Value Value old c.value.new.config c.waits.new.config f c.args.node [] (points.Expr c.point_of.result) c.in-Err.end s.waits s.top c.waits.result k.waits k.top
    c.waits.ensures.same c.waits.ensures.waits gives_in gives_in (AtExpr c.args.part.0) (λ t env. then_value (after_prefix c.args.operator env)) (λ l t env. prefix_waits m c.value.new.config (at_node f c.args.node []) c.args.operator c.point_of.result c.point_of.ensures c.requires.operator t env) (λ t env e. refl) c.in-Err.ensures.later c.in-Err.ensures.does

-- `++` and `--` before their target

pub on_target-update-requires : goal.prefixes::on_target-update-requires
on_target-update-requires g t c =
    let m = g.S.WorldStore.meaning in
    let old = c.args.config.now in
    let f = c.args.frame.now in
    let target : StandsHere old f c.args.part = stands_here m old (at_node f c.args.node []) (nodes.Prefix c.args.operator c.args.part) c.args.part (node_there m old f c.args.node [] c.requires.there c.requires.node tt) c.requires.is (inl refl) in
    search (rules, target)

pub on_target-update-requires-in-Decrement : goal.prefixes::on_target-update-requires-in-Decrement
on_target-update-requires-in-Decrement g t c =
    let m = g.S.WorldStore.meaning in
    let old = c.args.config.now in
    let f = c.args.frame.now in
    let target : StandsHere old f c.args.part = stands_here m old (at_node f c.args.node []) (nodes.Prefix c.args.operator c.args.part) c.args.part (node_there m old f c.args.node [] c.requires.there c.requires.node tt) c.requires.is (inl refl) in
    search (rules, target)

pub on_target-returns-in-Increment-clause-does : goal.prefixes::on_target-returns-in-Increment-clause-does
on_target-returns-in-Increment-clause-does g t c =
    let m = g.S.WorldStore.meaning in
    let old = c.args.config.now in
    let f = c.args.frame.now in
    let k = c.update.new.stops in
    line_form m gives_in old c.update.new.config f (λ t env. entry (AtExpr c.args.node.0) env) c.update.result k.waits k.top (AtTarget c.args.part.0) (λ t env. then_reference (line.update_reference (fix_in fixes.Pre) updates.Increment env))
    (λ t more. expr_is m old f c.args.node (nodes.Prefix c.args.operator c.args.part) t c.requires.is ∙ ap (λ (o : PrefixOperator). line.prefix_of o c.args.part.0 (env_in m old t f)) c.in-Increment.is) c.update.ensures.does

pub on_target-returns-in-Decrement-clause-does : goal.prefixes::on_target-returns-in-Decrement-clause-does
on_target-returns-in-Decrement-clause-does g t c =
    let m = g.S.WorldStore.meaning in
    let old = c.args.config.now in
    let f = c.args.frame.now in
    let k = c.update-in-Decrement.new.stops in
    line_form m gives_in old c.update-in-Decrement.new.config f (λ t env. entry (AtExpr c.args.node.0) env) c.update-in-Decrement.result k.waits k.top (AtTarget c.args.part.0) (λ t env. then_reference (line.update_reference (fix_in fixes.Pre) updates.Decrement env))
    (λ t more. expr_is m old f c.args.node (nodes.Prefix c.args.operator c.args.part) t c.requires.is ∙ ap (λ (o : PrefixOperator). line.prefix_of o c.args.part.0 (env_in m old t f)) c.in-Decrement.is) c.update-in-Decrement.ensures.does

-- `delete` and `typeof`

pub on_target-asked-requires : goal.prefixes::on_target-asked-requires
on_target-asked-requires g t c =
    let m = g.S.WorldStore.meaning in
    let old = c.args.config.now in
    let f = c.args.frame.now in
    let is : IsNode m old f c.args.node (nodes.Prefix (operator_of queries.Delete) c.args.part) = subst (λ (o : PrefixOperator). IsNode m old f c.args.node (nodes.Prefix o c.args.part)) c.in-Delete.is c.requires.is in
    search (rules, is)

pub on_target-asked-requires-in-Typeof : goal.prefixes::on_target-asked-requires-in-Typeof
on_target-asked-requires-in-Typeof g t c =
    let m = g.S.WorldStore.meaning in
    let old = c.args.config.now in
    let f = c.args.frame.now in
    let is : IsNode m old f c.args.node (nodes.Prefix (operator_of queries.Typeof) c.args.part) = subst (λ (o : PrefixOperator). IsNode m old f c.args.node (nodes.Prefix o c.args.part)) c.in-Typeof.is c.requires.is in
    search (rules, is)
