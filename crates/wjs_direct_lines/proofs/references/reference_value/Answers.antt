use Rattle.std.proofs.Common.{refl}
use Rattle.wjs_heap_steps.proofs.Later.{later_same}
use Rattle.wjs_direct_lines.proofs.ReferenceReading.{look_reads}
use Rattle.wjs_direct_lines.proofs.references.reference_value.Goals as goal

-- a look tells it
pub returns-in-Some-clause-later : goal.returns-in-Some-clause-later
returns-in-Some-clause-later g c = later_same g.S.WorldStore.meaning c.args.config.now c.requires.base

pub returns-in-Some-clause-found : goal.returns-in-Some-clause-found
returns-in-Some-clause-found g c = (c.in-Some.ensures.found, refl)

pub returns-in-Some-clause-does : goal.returns-in-Some-clause-does
returns-in-Some-clause-does g c = look_reads g.S.WorldStore.meaning c.args.config.now c.args.frame.now c.args.reference c.in-Some.value c.in-Some.ensures.peeks

-- it is read
pub returns-in-None-clause-does : goal.returns-in-None-clause-does
returns-in-None-clause-does g c = c.value_read.ensures.does
