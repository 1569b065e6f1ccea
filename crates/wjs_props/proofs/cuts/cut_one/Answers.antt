use Rattle.std.proofs.Common.{ap}
use Rattle.wjs_store.specs.Shown.{content_of}
use Rattle.wjs_heap.specs.Means.{parts}
use Rattle.wjs_props.proofs.Cutting.{one_absent, one_present}
use Rattle.wjs_props.proofs.cuts.cut_one.Goals as goal

pub returns-in-Absent : goal.returns-in-Absent
returns-in-Absent g c =
    let p = parts g.S.WorldStore.meaning in
    one_absent c.args.world c.args.object c.args.index c.requires.index (p c.args.heap.now) (p c.read.new.heap) c.in_ok-read.field-0 c.in_ok-read.ensures.reads (ap content_of c.in-Absent.is)

pub returns-in_ok-write-in-Present : goal.returns-in_ok-write-in-Present
returns-in_ok-write-in-Present g c =
    let p = parts g.S.WorldStore.meaning in
    one_present c.args.world c.args.object c.args.index c.requires.index (p c.args.heap.now) (p c.read.new.heap) c.in_ok-read.field-0 c.in_ok-read.ensures.reads c.in-Present.field-0 (ap content_of c.in-Present.is) (p c.write.new.heap) c.in_ok-write-in-Present.ensures
