use Rattle.std.proofs.Common.{subst}
use Rattle.wjs_base.specs.declared.values.Content.{Content}
use Rattle.wjs_by_content.specs.Plans.{Gives, Reads}
use Rattle.wjs_by_content.specs.Tables.{slot_in, content_in}
use Rattle.wjs_heap.specs.Heap.{Performs}
use Rattle.wjs_heap.specs.Means.{parts}
use Rattle.wjs_props.proofs.Actions.{did_read, held_there}
use Rattle.wjs_props.proofs.deeds.look_held.Goals as goal

pub returns-in-Present-clause-slot : goal.returns-in-Present-clause-slot
returns-in-Present-clause-slot g c =
    let m = g.S.WorldStore.meaning in
    let store = c.args.heap.now.store in
    (held_there (parts m c.args.heap.now) (m store) c.requires.heap (g.met.S.WorldStore.sound store c.in_ok-found.ensures.1).admits_own c.args.world c.args.slot c.in_ok-found.found c.in-Present.value c.in-Present.is c.in_ok-found.ensures.0).0

pub returns-in-Present-clause-reads : goal.returns-in-Present-clause-reads
returns-in-Present-clause-reads g c =
    let m = g.S.WorldStore.meaning in
    let store = c.args.heap.now.store in
    let p = parts m c.args.heap.now in
    let sound = (g.met.S.WorldStore.sound store c.in_ok-found.ensures.1).admits_own in
    let held = held_there p (m store) c.requires.heap sound c.args.world c.args.slot c.in_ok-found.found c.in-Present.value c.in-Present.is c.in_ok-found.ensures.0 in
    subst (λ (x : Content). Performs c.args.world (λ t. Reads (slot_in t c.args.slot) Gives) (λ t. content_in t x) p p) c.in-Present.is
    (did_read p (m store) c.requires.heap sound c.args.world c.args.slot c.in_ok-found.found held.0 c.in_ok-found.ensures.0)

pub returns-in-Present-clause-found : goal.returns-in-Present-clause-found
returns-in-Present-clause-found g c =
    let m = g.S.WorldStore.meaning in
    let store = c.args.heap.now.store in
    (held_there (parts m c.args.heap.now) (m store) c.requires.heap (g.met.S.WorldStore.sound store c.in_ok-found.ensures.1).admits_own c.args.world c.args.slot c.in_ok-found.found c.in-Present.value c.in-Present.is c.in_ok-found.ensures.0).1
