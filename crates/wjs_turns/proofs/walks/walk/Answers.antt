use Rattle.wjs_turns.proofs.Pausing.{sound_left, walks}
use Rattle.wjs_turns.proofs.walks.walk.Goals as goal

pub walk_out-requires-clause-sound : goal.walk_out-requires-clause-sound
walk_out-requires-clause-sound g c = sound_left g.S.WorldStore.meaning c.args.config.now c.min-config.result c.requires.sound

pub returns : goal.returns
returns g c =
    walks g.S.WorldStore.meaning c.args.config.now c.args.steps c.in_ok-taken.taken c.min-config.result c.min-config.ensures c.walk_out.new.config c.given_back-config.result c.in_ok-taken.ensures.way c.in_ok-taken.ensures.ended c.given_back-config.ensures.some c.given_back-config.ensures.none
