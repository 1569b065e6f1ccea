use Rattle.wjs_heap.specs.Means.{parts}
use Rattle.wjs_props.proofs.Actions.{did_read, found_there}
use Rattle.wjs_props.proofs.deeds.look.Goals as goal

pub returns-in-Some-clause-reads : goal.returns-in-Some-clause-reads
returns-in-Some-clause-reads g c =
    let m = g.S.WorldStore.meaning in
    let store = c.args.heap.now.store in
    did_read (parts m c.args.heap.now) (m store) c.requires.heap (g.met.S.WorldStore.sound store c.in-Some.ensures.1).admits_own c.args.world c.args.slot c.in-Some.found c.requires.slot c.in-Some.ensures.0

pub returns-in-Some-clause-found : goal.returns-in-Some-clause-found
returns-in-Some-clause-found g c =
    let m = g.S.WorldStore.meaning in
    let store = c.args.heap.now.store in
    found_there (parts m c.args.heap.now) (m store) c.requires.heap (g.met.S.WorldStore.sound store c.in-Some.ensures.1).admits_own c.args.world c.args.slot c.in-Some.found c.in-Some.ensures.0
