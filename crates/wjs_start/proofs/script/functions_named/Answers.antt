use Rattle.wjs_start.proofs.Declares.{functions_on}
use Rattle.wjs_start.proofs.script.functions_named.Goals as goal

pub loop-function-preserved : goal.loop-function-preserved
loop-function-preserved c = record {
  are = λ t. functions_on t c.args.script.now c.args.functions.now c.loop-function.function-index _ c.loop-function.names.items c.add_name.new.names.items c.loop-function-test.true (c.in_ok-add_name.ensures.are t) (c.loop-function.invariant.are t);
  found = λ t known. c.in_ok-add_name.ensures.found t known (c.loop-function.invariant.found t known);
}
