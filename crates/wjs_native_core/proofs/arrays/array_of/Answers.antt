use Rattle.wjs_meaning.specs.NativesOfObjects as line
use Rattle.wjs_native_core.proofs.arrays.array_of.Goals as goal

pub returns : goal.returns
returns g c = c.in_ok-array.ensures.does.by line.give_object c.give.new.config c.give.result c.give.ensures
