use Rattle.wjs_scope.proofs.Functions.{variables_found}
use Rattle.wjs_scope.proofs.Lists.{elements_here, elements_on, elements_done}
use Rattle.wjs_scope.proofs.body.variables_of.Goals as goal

pub element_names-requires : goal.element_names-requires
element_names-requires c = elements_here c.args.nodes.now 200 c.args.elements.now c.new-vars.result c.loop-element.element-index c.loop-element.vars (record { 0 = 0 }) c.loop-element-test.true c.loop-element.invariant

pub loop-element-preserved : goal.loop-element-preserved
loop-element-preserved c = elements_on c.args.nodes.now 200 c.args.elements.now c.new-vars.result c.loop-element.element-index c.loop-element.vars c.element_names.new.vars (record { 0 = 0 }) c.loop-element-test.true c.in_ok-element_names.ensures c.loop-element.invariant

pub returns : goal.returns
returns c = variables_found c.args.nodes.now c.args.elements.now c.new-vars.result c.loop-element.vars c.to_sequence.result c.new-vars.ensures (elements_done c.args.nodes.now 200 c.args.elements.now c.new-vars.result c.loop-element.element-index c.loop-element.vars c.loop-element-test.false c.loop-element.invariant) c.to_sequence.ensures
