use Rattle.std.proofs.Common.{◌∙◌, ap, Vec, Global}
use Rattle.wjs_base.specs.declared.ids.NodeId.{NodeId}
use Rattle.wjs_scope.proofs.Functions.{here, with_one, without}
use Rattle.wjs_scope.proofs.body.functions_of.Goals as goal
use Rattle.wjs_scope.proofs.body.functions_of.Goals.{then-is_function+in_ok-push, else-is_function}

pub is_function-requires : goal.is_function-requires
is_function-requires c = here c.args.nodes.now c.args.elements.now c.loop-element.element-index c.loop-element.functions.items (record { 0 = 0 }) c.loop-element-test.true c.loop-element.invariant

pub loop-element-preserved : goal.loop-element-preserved
loop-element-preserved c = elim c.if-is_function.branch [
  | then-is_function+in_ok-push w ↦
      let next = ap (λ (v : Vec NodeId Global). v.items) w.functions-is ∙ w.in_ok-push.ensures.items in
      with_one c.args.nodes.now c.args.elements.now c.loop-element.element-index c.loop-element.functions.items c.if-is_function.functions.items (record { 0 = 0 }) c.is_function.result c.loop-element-test.true c.is_function.ensures w.if-is_function.true next c.loop-element.invariant
  | else-is_function w ↦
      without c.args.nodes.now c.args.elements.now c.loop-element.element-index c.loop-element.functions.items c.if-is_function.functions.items (record { 0 = 0 }) c.is_function.result c.loop-element-test.true c.is_function.ensures w.if-is_function.false (ap (λ (v : Vec NodeId Global). v.items) w.functions-is) c.loop-element.invariant
]
