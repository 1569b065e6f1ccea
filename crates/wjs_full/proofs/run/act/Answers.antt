use Rattle.std.proofs.Common.{ap, sym, ◌∙◌}
use Rattle.wjs_store.specs.Meaning.{worlds}
use Rattle.wjs_store.specs.State.{has_world}
use Rattle.wjs_store.proofs.RunLaws.{run_none}
use Rattle.wjs_full.proofs.run.act.Goals as goal

pub returns-else-has_world : goal.returns-else-has_world
returns-else-has_world g c =
    let m = g.S.WorldStore.meaning in
    run_none (m c.args.store.now) c.args.action c.requires (g.met.S.WorldStore.sound c.args.store.now) (ap (has_world (worlds (m c.args.store.now))) (sym c.world.ensures) ∙ sym c.has_world.ensures ∙ c.if-has_world.false)
