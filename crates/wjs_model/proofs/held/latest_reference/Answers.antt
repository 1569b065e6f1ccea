use Rattle.std.proofs.Common.{sym, ◌∙◌, refl, arith}
use Rattle.wjs_model.specs.Contents.{reference_held}
use Rattle.wjs_model.proofs.Holdings.{found, skip_reference}
use Rattle.wjs_model.proofs.held.latest_reference.Goals as goal

pub returns-in-Reference : goal.returns-in-Reference
returns-in-Reference c = found reference_held c.args.items.now c.back.i _ _ c.back-test.true c.back.invariant.within c.in-Reference.is c.back.invariant.same

pub back-preserved : goal.back-preserved
back-preserved c = record {
  within = omega arith;
  same = sym (skip_reference _ _ c.in_default.not-Reference) ∙ found reference_held c.args.items.now c.back.i _ _ c.back-test.true c.back.invariant.within refl c.back.invariant.same;
}
