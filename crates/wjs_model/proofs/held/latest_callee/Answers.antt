use Rattle.std.proofs.Common.{sym, ◌∙◌, refl, arith}
use Rattle.wjs_model.specs.Contents.{callee_held}
use Rattle.wjs_model.proofs.Holdings.{found, skip_callee}
use Rattle.wjs_model.proofs.held.latest_callee.Goals as goal

pub returns-in-Callee : goal.returns-in-Callee
returns-in-Callee c = found callee_held c.args.items.now c.back.i _ _ c.back-test.true c.back.invariant.within c.in-Callee.is c.back.invariant.same

pub back-preserved : goal.back-preserved
back-preserved c = record {
  within = omega arith;
  same = sym (skip_callee _ _ c.in_default.not-Callee) ∙ found callee_held c.args.items.now c.back.i _ _ c.back-test.true c.back.invariant.within refl c.back.invariant.same;
}
