use Rattle.std.proofs.Common.{ap, ◌∙◌}
use Rattle.std.specs.Prelude.{not}
use Rattle.wjs_heap.specs.Means.{parts}
use Rattle.wjs_props.proofs.Actions.{did_list, listed_there, listed_ascends}
use Rattle.wjs_props.proofs.deeds.list.Goals as goal

pub returns-clause-lists : goal.returns-clause-lists
returns-clause-lists g c =
    let m = g.S.WorldStore.meaning in
    let does = c.in_ok-names.ensures.0 in
    let works = c.in_ok-names.ensures.1 in
    let sound = g.met.S.WorldStore.sound c.list.new.self (ap not does.spent ∙ works) in
    did_list (parts m c.args.heap.now) (m c.list.new.self) c.requires.heap sound.admits_own c.args.world c.args.object c.in_ok-names.names does

pub returns-clause-names : goal.returns-clause-names
returns-clause-names g c =
    let m = g.S.WorldStore.meaning in
    let does = c.in_ok-names.ensures.0 in
    let works = c.in_ok-names.ensures.1 in
    let sound = g.met.S.WorldStore.sound c.list.new.self (ap not does.spent ∙ works) in
    listed_there (parts m c.args.heap.now) (m c.list.new.self) c.requires.heap sound.admits_own c.args.world c.args.object c.in_ok-names.names does

pub returns-clause-ascends : goal.returns-clause-ascends
returns-clause-ascends g c =
    let m = g.S.WorldStore.meaning in
    let does = c.in_ok-names.ensures.0 in
    let works = c.in_ok-names.ensures.1 in
    let sound = g.met.S.WorldStore.sound c.list.new.self (ap not does.spent ∙ works) in
    listed_ascends (parts m c.args.heap.now) (m c.list.new.self) c.requires.heap sound.admits_own c.args.world c.args.object c.in_ok-names.names does
