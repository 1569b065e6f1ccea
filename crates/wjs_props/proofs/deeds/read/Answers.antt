use Rattle.std.proofs.Common.{ap, ◌∙◌}
use Rattle.std.specs.Prelude.{not}
use Rattle.wjs_heap.specs.Means.{parts}
use Rattle.wjs_props.proofs.Actions.{did_read, found_there}
use Rattle.wjs_props.proofs.deeds.read.Goals as goal

pub returns-clause-reads : goal.returns-clause-reads
returns-clause-reads g c =
    let m = g.S.WorldStore.meaning in
    let does = c.in_ok-found.ensures.0 in
    let works = c.in_ok-found.ensures.1 in
    let sound = g.met.S.WorldStore.sound c.read.new.self (ap not does.spent ∙ works) in
    did_read (parts m c.args.heap.now) (m c.read.new.self) c.requires.heap sound.admits_own c.args.world c.args.slot c.in_ok-found.found c.requires.slot does

pub returns-clause-found : goal.returns-clause-found
returns-clause-found g c =
    let m = g.S.WorldStore.meaning in
    let does = c.in_ok-found.ensures.0 in
    let works = c.in_ok-found.ensures.1 in
    let sound = g.met.S.WorldStore.sound c.read.new.self (ap not does.spent ∙ works) in
    found_there (parts m c.args.heap.now) (m c.read.new.self) c.requires.heap sound.admits_own c.args.world c.args.slot c.in_ok-found.found does
