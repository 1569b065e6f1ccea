use Rattle.std.proofs.Common.{sym, ◌∙◌, refl, arith}
use Rattle.wjs_model.specs.Contents.{elements_held}
use Rattle.wjs_model.proofs.Holdings.{found, skip_elements}
use Rattle.wjs_model.proofs.held.latest_elements.Goals as goal

pub returns-in-Elements : goal.returns-in-Elements
returns-in-Elements c = found elements_held c.args.items.now c.back.i _ _ c.back-test.true c.back.invariant.within c.in-Elements.is c.back.invariant.same

pub back-preserved : goal.back-preserved
back-preserved c = record {
  within = omega arith;
  same = sym (skip_elements _ _ c.in_default.not-Elements) ∙ found elements_held c.args.items.now c.back.i _ _ c.back-test.true c.back.invariant.within refl c.back.invariant.same;
}
