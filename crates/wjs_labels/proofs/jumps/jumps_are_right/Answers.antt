use Rattle.wjs_tree.specs.Jumps.{outermost}
use Rattle.wjs_labels.proofs.Lists.{elements_here, elements_on, elements_wrong, elements_done}
use Rattle.wjs_labels.proofs.jumps.jumps_are_right.Goals as goal

pub element_is_right-requires : goal.element_is_right-requires
element_is_right-requires c = elements_here c.args.nodes.now (outermost c.args.function) 200 c.args.elements.now c.loop-element.element-index (record { 0 = 0 }) c.loop-element-test.true c.loop-element.invariant

pub returns-then-not-element_is_right : goal.returns-then-not-element_is_right
returns-then-not-element_is_right c = elements_wrong c.args.nodes.now (outermost c.args.function) 200 c.args.elements.now c.loop-element.element-index (record { 0 = 0 }) c.element_is_right.result c.loop-element-test.true c.if-not-element_is_right.true c.element_is_right.ensures c.loop-element.invariant

pub loop-element-preserved : goal.loop-element-preserved
loop-element-preserved c = elements_on c.args.nodes.now (outermost c.args.function) 200 c.args.elements.now c.loop-element.element-index (record { 0 = 0 }) c.element_is_right.result c.loop-element-test.true c.if-not-element_is_right.false c.element_is_right.ensures c.loop-element.invariant

pub returns : goal.returns
returns c = elements_done c.args.nodes.now (outermost c.args.function) 200 c.args.elements.now c.loop-element.element-index c.loop-element-test.false c.loop-element.invariant
