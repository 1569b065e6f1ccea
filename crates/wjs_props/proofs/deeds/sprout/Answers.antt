use Rattle.std.proofs.Common.{ap, ◌∙◌}
use Rattle.std.specs.Prelude.{not}
use Rattle.wjs_heap.specs.Means.{parts}
use Rattle.wjs_props.proofs.Actions.{did_sprout, child_there}
use Rattle.wjs_props.proofs.deeds.sprout.Goals as goal

pub returns-clause-sprouts : goal.returns-clause-sprouts
returns-clause-sprouts g c =
    let m = g.S.WorldStore.meaning in
    let does = c.in_ok-child.ensures.0 in
    let works = c.in_ok-child.ensures.1 in
    let sound = g.met.S.WorldStore.sound c.sprout.new.self (ap not does.spent ∙ works) in
    did_sprout (parts m c.args.heap.now) (m c.sprout.new.self) c.requires.heap sound.admits_own c.args.world c.args.owner c.args.strict c.in_ok-child.child c.requires.world does

pub returns-clause-there : goal.returns-clause-there
returns-clause-there g c =
    let m = g.S.WorldStore.meaning in
    let does = c.in_ok-child.ensures.0 in
    let works = c.in_ok-child.ensures.1 in
    let sound = g.met.S.WorldStore.sound c.sprout.new.self (ap not does.spent ∙ works) in
    child_there (parts m c.args.heap.now) (m c.sprout.new.self) c.requires.heap sound.admits_own c.args.world c.args.owner c.args.strict c.in_ok-child.child c.requires.world does
