use Rattle.std.proofs.Common.{refl}
use Rattle.wjs_machine.proofs.Stepping.{measure_falls}
use Rattle.wjs_turns.proofs.Going.{under_none, under_on, went_sound, turn_falls}
use Rattle.wjs_turns.proofs.walks.walk_to_step.Goals as goal

pub loop-config-init : goal.loop-config-init
loop-config-init g c = (under_none g.S.WorldStore.meaning c.args.config.now c.requires.running c.requires.sound, refl)

pub step-requires-clause-sound : goal.step-requires-clause-sound
step-requires-clause-sound g c = went_sound g.S.WorldStore.meaning c.args.config.now c.loop-config.config c.loop-config.invariant.0.went

pub loop-config-smaller : goal.loop-config-smaller
loop-config-smaller g c =
    let m = g.S.WorldStore.meaning in
    let old = c.loop-config.config in
    let new = c.step.new.config in
    let sound = went_sound m c.args.config.now old c.loop-config.invariant.0.went in
    measure_falls m c.args.config.now old new (c.goes_on.ensures.yes c.loop-config-test.true) c.if-config-left.true (turn_falls m g.met.S.WorldStore.sound old new sound c.in-Ok.ensures)

pub loop-config-preserved : goal.loop-config-preserved
loop-config-preserved g c = (
  under_on g.S.WorldStore.meaning g.met.S.WorldStore.sound c.args.config.now c.loop-config.config c.step.new.config c.requires.running c.requires.sound (c.goes_on.ensures.yes c.loop-config-test.true) c.if-config-left.true c.loop-config.invariant.0 c.in-Ok.ensures,
  refl,
)
