use Rattle.wjs_heap_steps.proofs.Later.{later_same}
use Rattle.wjs_quick.proofs.parts.quick.Goals as goal

pub returns-in_default-clause-later : goal.returns-in_default-clause-later
returns-in_default-clause-later g c = later_same g.S.WorldStore.meaning c.args.config.now c.requires.base
