use Rattle.std.proofs.Common.{◌-◌, length}
use Rattle.wjs_strings.proofs.Moving.{Seeks}
use Rattle.wjs_strings.proofs.search.find_last.Given as goal

abbrev pub invariant-places : goal.invariant-places
invariant-places l = Seeks l.pattern l.text l.limit l.best l.start l.matched

abbrev pub decreases-places : goal.decreases-places
decreases-places l = length l.text - l.start
