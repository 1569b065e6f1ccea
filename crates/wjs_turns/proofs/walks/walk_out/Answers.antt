use Rattle.std.proofs.Common.{refl}
use Rattle.wjs_turns.proofs.Going.{went_none, went_more, went_sound, way_out}
use Rattle.wjs_turns.proofs.walks.walk_out.Goals as goal

pub loop-config-init : goal.loop-config-init
loop-config-init g c = (went_none g.S.WorldStore.meaning c.args.config.now c.requires.running c.requires.sound, refl)

pub walk_to_step-requires-clause-sound : goal.walk_to_step-requires-clause-sound
walk_to_step-requires-clause-sound g c = went_sound g.S.WorldStore.meaning c.args.config.now c.loop-config.config c.loop-config.invariant.0

pub loop-config-preserved : goal.loop-config-preserved
loop-config-preserved g c = (
  went_more g.S.WorldStore.meaning c.args.config.now c.loop-config.config c.walk_to_step.new.config c.requires.sound (c.goes_on.ensures.yes c.loop-config-test.true) c.loop-config.invariant.0 c.in-Ok.ensures,
  refl,
)

pub returns-clause-way : goal.returns-clause-way
returns-clause-way g c = way_out g.S.WorldStore.meaning c.args.config.now c.loop-config.config c.loop-config.invariant.0
