use Rattle.wjs_heap_steps.proofs.Later.{later_same}
use Rattle.wjs_quick.proofs.Coming.{later_left}
use Rattle.wjs_quick.proofs.parts.quick_value.Goals as goal

pub returns-clause-later : goal.returns-clause-later
returns-clause-later g c = later_left g.S.WorldStore.meaning c.args.config.now c.value_at.new.steps c.requires.base

pub returns-in_err-found-clause-later : goal.returns-in_err-found-clause-later
returns-in_err-found-clause-later g c = later_same g.S.WorldStore.meaning c.args.config.now c.requires.base
