use Rattle.std.proofs.Common.{sym, ◌∙◌, refl, arith}
use Rattle.wjs_model.specs.Contents.{earlier_held}
use Rattle.wjs_model.proofs.Holdings.{found, skip_earlier}
use Rattle.wjs_model.proofs.held.latest_completion.Goals as goal

pub returns-in-Earlier : goal.returns-in-Earlier
returns-in-Earlier c = found earlier_held c.args.items.now c.back.i _ _ c.back-test.true c.back.invariant.within c.in-Earlier.is c.back.invariant.same

pub back-preserved : goal.back-preserved
back-preserved c = record {
  within = omega arith;
  same = sym (skip_earlier _ _ c.in_default.not-Earlier) ∙ found earlier_held c.args.items.now c.back.i _ _ c.back-test.true c.back.invariant.within refl c.back.invariant.same;
}
