use Rattle.wjs_meaning.specs.declared.builtin.Builtin.TheVariants as initial
use Rattle.wjs_frames.proofs.Held.{elements_there}
use Rattle.wjs_step_common.proofs.held.held_elements.Goals as goal

pub returns-clause-found : goal.returns-clause-found
returns-clause-found g c = rw c.elements.ensures (elements_there c.args.config.now c.args.frame.now.held c.requires.there.held (c.requires.base.builtins initial.ObjectPrototype))
