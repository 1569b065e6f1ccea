use Rattle.wjs_frames.proofs.Parting.{stands_later}
use Rattle.wjs_frames.proofs.Handling.{runs_later}
use Rattle.wjs_blocks.proofs.within.within.Goals as goal

pub enter_within-requires-clause-runs : goal.enter_within-requires-clause-runs
enter_within-requires-clause-runs g c = runs_later _ _ _ _ c.requires.runs c.in_ok-world.ensures.later

pub enter_within-requires-clause-part : goal.enter_within-requires-clause-part
enter_within-requires-clause-part g c = stands_later g.S.WorldStore.meaning c.args.config.now c.args.frame c.world_of.new.config c.args.b c.in_ok-world.ensures.later c.requires.part
