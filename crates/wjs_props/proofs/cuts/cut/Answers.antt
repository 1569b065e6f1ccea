use Rattle.wjs_heap.specs.Means.{parts}
use Rattle.std.proofs.Common.{◌≤◌, ◌<◌, ◌-◌, arith}
use Rattle.std.proofs.lemmas.Result.{IfOk-weaker}
use Rattle.wjs_props.proofs.Cutting.{cut_few, cut_many}
use Rattle.wjs_props.proofs.cuts.cut.Goals as goal

pub returns-then-saturating_sub-le-MOST_ONE_BY_ONE : goal.returns-then-saturating_sub-le-MOST_ONE_BY_ONE
returns-then-saturating_sub-le-MOST_ONE_BY_ONE g c =
    let p = parts g.S.WorldStore.meaning in
    let few : c.args.to - c.args.from ≤ 64 = omega (arith, c.saturating_sub.ensures, c.if-saturating_sub-le-MOST_ONE_BY_ONE.true) in
    IfOk-weaker c.cut_each.result _ _ (λ a f. cut_few c.args.world c.args.object c.args.from c.args.to (p c.args.heap.now) (p c.cut_each.new.heap) few f) c.cut_each.ensures

pub returns-else-saturating_sub-le-MOST_ONE_BY_ONE : goal.returns-else-saturating_sub-le-MOST_ONE_BY_ONE
returns-else-saturating_sub-le-MOST_ONE_BY_ONE g c =
    let p = parts g.S.WorldStore.meaning in
    let many : 64 < c.args.to - c.args.from = omega (arith, c.saturating_sub.ensures, c.if-saturating_sub-le-MOST_ONE_BY_ONE.false) in
    IfOk-weaker c.cut_listed.result _ _ (λ a f. cut_many c.args.world c.args.object c.args.from c.args.to (p c.args.heap.now) (p c.cut_listed.new.heap) many f) c.cut_listed.ensures
