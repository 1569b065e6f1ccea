use Rattle.wjs_frames.proofs.Held.{value_there}
use Rattle.wjs_step_common.proofs.held.held_value.Goals as goal

pub returns-clause-found : goal.returns-clause-found
returns-clause-found g c = rw c.value.ensures (value_there c.args.config.now c.args.frame.now.held c.requires.held)
