-- What holds of the functions of `operands`.
use Rattle.std.proofs.Common.{◌≡◌, rules, [], inl, refl, ◌∙◌}
use Rattle.std.specs.Prelude.{Err}
use Rattle.wjs_base.specs.declared.values.Value.{Value}
use Rattle.wjs_tree.specs.declared.node.Node.TheVariants as nodes
use Rattle.wjs_meaning.specs.Deeds.{AtExpr, AtTarget, then_reference, then_value}
use Rattle.wjs_meaning.specs.Programs.{entry}
use Rattle.wjs_model.specs.declared.frame.Reference.{Reference}
use Rattle.wjs_model.specs.declared.point.Point.TheVariants as points
use Rattle.wjs_model.specs.Soundness.{StandsHere}
use Rattle.wjs_frames.specs.Parts.{env_in}
use Rattle.wjs_frames.proofs.OperandLines.{expr_is}
use Rattle.wjs_frames.proofs.Parting.{stands_here}
use Rattle.wjs_stopping.specs.Ends.{gives_in}
use Rattle.wjs_stopping.specs.Waiting.{at_node}
use Rattle.wjs_direct_lines.specs.Deeds.{refers_in}
use Rattle.wjs_direct_lines.specs.Operands.{after_reference, after_value, operator_of}
use Rattle.wjs_direct_lines.proofs.Forming.{form_goes_on, node_there}
use Rattle.wjs_direct_lines.proofs.Parts.{broke_does, broke_found, broke_later, later_then, line_form}
use Rattle.wjs_direct_lines.proofs.Querying.{target_line, target_stands, target_waits, value_line, value_stands, value_waits}
use Rattle.wjs_direct.proofs.+direct.Goals as goal

-- ---- by what the operand is

pub asked-target_asked-requires : goal.operands::asked-target_asked-requires
asked-target_asked-requires g t c =
    let m = g.S.WorldStore.meaning in
    let old = c.args.config.now in
    let f = c.args.frame.now in
    let part : StandsHere old f c.args.part = stands_here m old (at_node f c.args.node []) (nodes.Prefix (operator_of c.args.query) c.args.part) c.args.part (node_there m old f c.args.node [] c.requires.there c.requires.node tt) c.requires.is (inl refl) in
    search (rules, part)

pub asked-returns-then-is_target-clause-does : goal.operands::asked-returns-then-is_target-clause-does
asked-returns-then-is_target-clause-does g t c =
    let m = g.S.WorldStore.meaning in
    let old = c.args.config.now in
    let f = c.args.frame.now in
    let k = c.target_asked.new in
    line_form m gives_in old k.config f (λ u env. entry (AtExpr c.args.node.0) env) c.target_asked.result k.stops.waits k.stops.top (AtTarget c.args.part.0) (λ u env. then_reference (after_reference c.args.query env))
    (λ u more. expr_is m old f c.args.node (nodes.Prefix (operator_of c.args.query) c.args.part) u c.requires.is ∙ target_line c.args.query c.args.part.0 (env_in m old u f) (c.is_target.ensures u ∙ c.if-is_target.true)) c.target_asked.ensures.does

-- one that is none

pub asked-value-requires : goal.operands::asked-value-requires
asked-value-requires g t c =
    let m = g.S.WorldStore.meaning in
    let old = c.args.config.now in
    let f = c.args.frame.now in
    let part : StandsHere old f c.args.part = stands_here m old (at_node f c.args.node []) (nodes.Prefix (operator_of c.args.query) c.args.part) c.args.part (node_there m old f c.args.node [] c.requires.there c.requires.node tt) c.requires.is (inl refl) in
    search (rules, part)

pub asked-value_told-requires : goal.operands::asked-value_told-requires
asked-value_told-requires g t c = record {
  base = c.in-Ok.ensures.later.base;
  empty = c.in-Ok.ensures.found.1;
  value = c.in-Ok.ensures.found.0;
}

pub asked-returns-in-Ok-clause-later : goal.operands::asked-returns-in-Ok-clause-later
asked-returns-in-Ok-clause-later g t c =
    later_then g.S.WorldStore.meaning c.args.config.now c.value.new.config c.value_told.new.config c.value_told.result c.in-Ok.ensures.later c.value_told.ensures.later

pub asked-returns-in-Ok-clause-does : goal.operands::asked-returns-in-Ok-clause-does
asked-returns-in-Ok-clause-does g t c =
    let m = g.S.WorldStore.meaning in
    let old = c.args.config.now in
    let f = c.args.frame.now in
    let s = c.value.new.stops in
    let k = c.value_told.new.stops in
    let new = c.value_told.new.config in
    line_form m gives_in old new f (λ u env. entry (AtExpr c.args.node.0) env) c.value_told.result k.waits k.top (AtExpr c.args.part.0) (λ u env. then_value (after_value c.args.query))
    (λ u more. expr_is m old f c.args.node (nodes.Prefix (operator_of c.args.query) c.args.part) u c.requires.is ∙ value_line c.args.query c.args.part.0 (env_in m old u f) (c.is_target.ensures u ∙ c.if-is_target.false))
    (form_goes_on m gives_in gives_in old c.value.new.config new f (AtExpr c.args.part.0) (λ u env. then_value (after_value c.args.query)) c.in-Ok.value
    c.value_told.result s.waits s.top k.waits k.top c.in-Ok.ensures.later c.in-Ok.ensures.does c.value_told.ensures.does)

pub asked-returns-in-Err-clause-later : goal.operands::asked-returns-in-Err-clause-later
asked-returns-in-Err-clause-later g t c =
    let m = g.S.WorldStore.meaning in
    let s = c.value.new.stops in
    let k = c.waits.new.stops in
    broke_later m Value Value c.args.config.now c.value.new.config c.waits.new.config c.args.frame.now c.args.node [] (points.Expr c.value_point.result) c.in-Err.end s.waits s.top c.waits.result k.waits k.top
    c.waits.ensures.same c.waits.ensures.waits c.in-Err.ensures.later

pub asked-returns-in-Err-clause-found : goal.operands::asked-returns-in-Err-clause-found
asked-returns-in-Err-clause-found g t c =
    let m = g.S.WorldStore.meaning in
    let old = c.args.config.now in
    let f = c.args.frame.now in
    let s = c.value.new.stops in
    let k = c.waits.new.stops in
    broke_found m Value Value old c.value.new.config c.waits.new.config f c.args.node [] (points.Expr c.value_point.result) c.in-Err.end s.waits s.top c.waits.result k.waits k.top
    c.waits.ensures.same c.waits.ensures.waits c.in-Err.ensures.later c.requires.there c.requires.node tt (value_stands m old (at_node f c.args.node []) c.args.query c.value_point.result c.value_point.ensures) c.in-Err.ensures.found

pub asked-returns-in-Err-clause-does : goal.operands::asked-returns-in-Err-clause-does
asked-returns-in-Err-clause-does g t c =
    let m = g.S.WorldStore.meaning in
    let old = c.args.config.now in
    let f = c.args.frame.now in
    let s = c.value.new.stops in
    let k = c.waits.new.stops in
    let last = c.waits.new.config in
    line_form m gives_in old last f (λ u env. entry (AtExpr c.args.node.0) env) (Err c.waits.result) k.waits k.top (AtExpr c.args.part.0) (λ u env. then_value (after_value c.args.query))
    (λ u more. expr_is m old f c.args.node (nodes.Prefix (operator_of c.args.query) c.args.part) u c.requires.is ∙ value_line c.args.query c.args.part.0 (env_in m old u f) (c.is_target.ensures u ∙ c.if-is_target.false))
    (broke_does m Value Value old c.value.new.config last f c.args.node [] (points.Expr c.value_point.result) c.in-Err.end s.waits s.top c.waits.result k.waits k.top
    c.waits.ensures.same c.waits.ensures.waits gives_in gives_in (AtExpr c.args.part.0) (λ u env. then_value (after_value c.args.query))
    (λ l u env. value_waits m c.value.new.config (at_node f c.args.node []) c.args.query c.value_point.result c.value_point.ensures u env) (λ u env e. refl) c.in-Err.ensures.later c.in-Err.ensures.does)

-- ---- an operand that is a target

pub target_asked-reference_told-requires : goal.operands::target_asked-reference_told-requires
target_asked-reference_told-requires g t c =
    let m = g.S.WorldStore.meaning in
    let old = c.args.config.now in
    let f = c.args.frame.now in
    let mid = c.target.new.config in
    let l = c.in-Ok.ensures.later in
    record {
      base = l.base;
      there = l.frames f c.requires.there;
      empty = c.in-Ok.ensures.found.1;
      reference = c.in-Ok.ensures.found.0;
    }

pub target_asked-returns-in-Ok-clause-later : goal.operands::target_asked-returns-in-Ok-clause-later
target_asked-returns-in-Ok-clause-later g t c =
    later_then g.S.WorldStore.meaning c.args.config.now c.target.new.config c.reference_told.new.config c.reference_told.result c.in-Ok.ensures.later c.reference_told.ensures.later

pub target_asked-returns-in-Ok-clause-does : goal.operands::target_asked-returns-in-Ok-clause-does
target_asked-returns-in-Ok-clause-does g t c =
    let s = c.target.new.stops in
    let k = c.reference_told.new.stops in
    form_goes_on g.S.WorldStore.meaning refers_in gives_in c.args.config.now c.target.new.config c.reference_told.new.config c.args.frame.now (AtTarget c.args.part.0) (λ u env. then_reference (after_reference c.args.query env)) c.in-Ok.reference
    c.reference_told.result s.waits s.top k.waits k.top c.in-Ok.ensures.later c.in-Ok.ensures.does c.reference_told.ensures.does

pub target_asked-returns-in-Err-clause-later : goal.operands::target_asked-returns-in-Err-clause-later
target_asked-returns-in-Err-clause-later g t c =
    let m = g.S.WorldStore.meaning in
    let s = c.target.new.stops in
    let k = c.waits.new.stops in
    broke_later m Reference Value c.args.config.now c.target.new.config c.waits.new.config c.args.frame.now c.args.node [] (points.Expr c.target_point.result) c.in-Err.end s.waits s.top c.waits.result k.waits k.top
    c.waits.ensures.same c.waits.ensures.waits c.in-Err.ensures.later

pub target_asked-returns-in-Err-clause-found : goal.operands::target_asked-returns-in-Err-clause-found
target_asked-returns-in-Err-clause-found g t c =
    let m = g.S.WorldStore.meaning in
    let old = c.args.config.now in
    let f = c.args.frame.now in
    let s = c.target.new.stops in
    let k = c.waits.new.stops in
    broke_found m Reference Value old c.target.new.config c.waits.new.config f c.args.node [] (points.Expr c.target_point.result) c.in-Err.end s.waits s.top c.waits.result k.waits k.top
    c.waits.ensures.same c.waits.ensures.waits c.in-Err.ensures.later c.requires.there c.requires.node tt (target_stands m old (at_node f c.args.node []) c.args.query c.target_point.result c.target_point.ensures) c.in-Err.ensures.found

pub target_asked-returns-in-Err-clause-does : goal.operands::target_asked-returns-in-Err-clause-does
target_asked-returns-in-Err-clause-does g t c =
    let m = g.S.WorldStore.meaning in
    let old = c.args.config.now in
    let f = c.args.frame.now in
    let s = c.target.new.stops in
    let k = c.waits.new.stops in
    broke_does m Reference Value old c.target.new.config c.waits.new.config f c.args.node [] (points.Expr c.target_point.result) c.in-Err.end s.waits s.top c.waits.result k.waits k.top
    c.waits.ensures.same c.waits.ensures.waits refers_in gives_in (AtTarget c.args.part.0) (λ u env. then_reference (after_reference c.args.query env))
    (λ l u env. target_waits m c.target.new.config (at_node f c.args.node []) c.args.query c.target_point.result c.target_point.ensures u env) (λ u env e. refl) c.in-Err.ensures.later c.in-Err.ensures.does
