use Rattle.wjs_heap_steps.proofs.Later.{later_same}
use Rattle.wjs_effects.proofs.sequences.next_element.Goals as goal

pub returns-in-None-clause-later : goal.returns-in-None-clause-later
returns-in-None-clause-later g c = later_same g.S.WorldStore.meaning c.args.config.now c.requires.base
