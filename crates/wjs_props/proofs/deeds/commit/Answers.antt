use Rattle.std.proofs.Common.{ap, ◌∙◌}
use Rattle.std.specs.Prelude.{not}
use Rattle.wjs_heap.specs.Means.{parts}
use Rattle.wjs_props.proofs.Actions.{did_commit}
use Rattle.wjs_props.proofs.deeds.commit.Goals as goal

pub returns : goal.returns
returns g c =
    let m = g.S.WorldStore.meaning in
    let does = c.in_ok-verdict.ensures.0 in
    let works = c.in_ok-verdict.ensures.1 in
    let sound = g.met.S.WorldStore.sound c.commit.new.self (ap not does.spent ∙ works) in
    did_commit (parts m c.args.heap.now) (m c.commit.new.self) c.requires.heap sound.admits_own c.args.world c.in_ok-verdict.verdict does
