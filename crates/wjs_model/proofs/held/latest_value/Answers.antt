use Rattle.std.proofs.Common.{sym, ◌∙◌, refl, arith}
use Rattle.wjs_model.specs.Contents.{value_held}
use Rattle.wjs_model.proofs.Holdings.{found, skip_value}
use Rattle.wjs_model.proofs.held.latest_value.Goals as goal

pub returns-in-Value : goal.returns-in-Value
returns-in-Value c = found value_held c.args.items.now c.back.i _ _ c.back-test.true c.back.invariant.within c.in-Value.is c.back.invariant.same

pub back-preserved : goal.back-preserved
back-preserved c = record {
  within = omega arith;
  same = sym (skip_value _ _ c.in_default.not-Value) ∙ found value_held c.args.items.now c.back.i _ _ c.back-test.true c.back.invariant.within refl c.back.invariant.same;
}
