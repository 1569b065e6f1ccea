use Rattle.wjs_scope.proofs.Visiting.{element_here, element_added, all_added}
use Rattle.wjs_scope.proofs.body.add_functions.Goals as goal

pub add_function-requires : goal.add_function-requires
add_function-requires c = element_here c.args.nodes.now c.args.elements.now c.args.names.now c.loop-element.element-index c.loop-element.names (record { 0 = 0 }) c.loop-element-test.true c.loop-element.invariant

pub loop-element-preserved : goal.loop-element-preserved
loop-element-preserved c = element_added c.args.nodes.now c.args.elements.now c.args.names.now c.loop-element.element-index c.loop-element.names c.add_function.new.names (record { 0 = 0 }) c.loop-element-test.true c.in_ok-add_function.ensures c.loop-element.invariant

pub returns : goal.returns
returns c = all_added c.args.nodes.now c.args.elements.now c.args.names.now c.loop-element.element-index c.loop-element.names c.loop-element-test.false c.loop-element.invariant
