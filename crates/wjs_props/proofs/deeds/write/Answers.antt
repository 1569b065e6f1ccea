use Rattle.std.proofs.Common.{ap, ◌∙◌}
use Rattle.std.specs.Prelude.{not}
use Rattle.wjs_heap.specs.Means.{parts}
use Rattle.wjs_props.proofs.Actions.{did_write}
use Rattle.wjs_props.proofs.deeds.write.Goals as goal

pub returns : goal.returns
returns g c =
    let m = g.S.WorldStore.meaning in
    let does = c.in_ok-write.ensures.0 in
    let works = c.in_ok-write.ensures.1 in
    let sound = g.met.S.WorldStore.sound c.write.new.self (ap not does.spent ∙ works) in
    did_write (parts m c.args.heap.now) (m c.write.new.self) c.requires.heap sound.admits_own c.args.world c.args.slot c.args.content c.requires.slot c.requires.content does
