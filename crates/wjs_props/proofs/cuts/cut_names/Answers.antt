use Rattle.std.proofs.Common.{arith}
use Rattle.wjs_heap.specs.Means.{parts}
use Rattle.wjs_props.proofs.Cutting.{naming_begins, naming_goes_on, naming_ends, name_there}
use Rattle.wjs_props.proofs.cuts.cut_names.Goals as goal

pub cut-init : goal.cut-init
cut-init g c = naming_begins c.args.world c.args.object c.args.names.now c.args.from c.args.to (parts g.S.WorldStore.meaning c.args.heap.now) c.requires.heap c.requires.world c.requires.object c.requires.names

pub cut_name-requires-clause-name : goal.cut_name-requires-clause-name
cut_name-requires-clause-name g c =
    let p = parts g.S.WorldStore.meaning in
    name_there c.args.world c.args.object c.args.names.now c.args.from c.args.to (p c.args.heap.now) (p c.cut.heap) c.cut.place c.cut.invariant c.at.result c.at.ensures

pub cut-preserved : goal.cut-preserved
cut-preserved g c =
    let p = parts g.S.WorldStore.meaning in
    naming_goes_on c.args.world c.args.object c.args.names.now c.args.from c.args.to (p c.args.heap.now) (p c.cut.heap) c.cut.place c.cut.invariant (p c.cut_name.new.heap) c.at.result c.at.ensures c.in_ok-cut_name.ensures

pub returns : goal.returns
returns g c =
    let p = parts g.S.WorldStore.meaning in
    naming_ends c.args.world c.args.object c.args.names.now c.args.from c.args.to (p c.args.heap.now) (p c.cut.heap) c.cut.place c.cut.invariant (omega (arith, c.cut-test.false, c.len.ensures))
