use Rattle.wjs_heap.specs.Means.{parts}
use Rattle.wjs_props.proofs.Cutting.{cut_begins, cut_goes_on, cut_ends}
use Rattle.wjs_props.proofs.cuts.cut_each.Goals as goal

pub cut-init : goal.cut-init
cut-init g c = cut_begins c.args.world c.args.object c.args.from c.args.to (parts g.S.WorldStore.meaning c.args.heap.now) c.requires.heap c.requires.world c.requires.object

pub cut-preserved : goal.cut-preserved
cut-preserved g c =
    let p = parts g.S.WorldStore.meaning in
    cut_goes_on c.args.world c.args.object c.args.from c.args.to (p c.args.heap.now) (p c.cut.heap) c.cut.at c.cut.invariant (p c.cut_one.new.heap) c.cut-test.true c.in_ok-cut_one.ensures

pub returns : goal.returns
returns g c =
    let p = parts g.S.WorldStore.meaning in
    cut_ends c.args.world c.args.object c.args.from c.args.to (p c.args.heap.now) (p c.cut.heap) c.cut.at c.cut.invariant c.cut-test.false
