use Rattle.wjs_frames.proofs.Held.{callee_there}
use Rattle.wjs_step_common.proofs.held.held_callee.Goals as goal

pub returns-clause-callee : goal.returns-clause-callee
returns-clause-callee g c = rw c.callee.ensures (callee_there c.args.config.now c.args.frame.now.held c.requires.held).0

pub returns-clause-this : goal.returns-clause-this
returns-clause-this g c = rw c.callee.ensures (callee_there c.args.config.now c.args.frame.now.held c.requires.held).1
