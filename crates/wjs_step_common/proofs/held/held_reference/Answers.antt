use Rattle.wjs_frames.proofs.Held.{reference_there}
use Rattle.wjs_step_common.proofs.held.held_reference.Goals as goal

pub returns-clause-found : goal.returns-clause-found
returns-clause-found g c = rw c.reference.ensures (reference_there c.args.config.now c.args.frame.now.held c.requires.held)
