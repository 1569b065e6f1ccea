use Rattle.wjs_heap.specs.Means.{parts}
use Rattle.wjs_props.proofs.Cutting.{listed_cut}
use Rattle.wjs_props.proofs.cuts.cut_listed.Goals as goal

pub returns : goal.returns
returns g c =
    let p = parts g.S.WorldStore.meaning in
    listed_cut c.args.world c.args.object c.args.from c.args.to c.in_ok-names.names (p c.args.heap.now) (p c.list.new.heap) (p c.cut_names.new.heap) c.in_ok-names.ensures.lists c.in_ok-names.ensures.names c.in_ok-names.ensures.ascends c.in_ok-cut_names.ensures
