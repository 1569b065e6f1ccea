use Rattle.std.proofs.Common.{◌+◌, ◌-◌, length}
use Rattle.wjs_strings.proofs.Fronts.{Fronts}
use Rattle.wjs_strings.proofs.periods.periods.Given as goal

abbrev pub invariant-fronts : goal.invariant-fronts
invariant-fronts l = Fronts l.pattern l.periods.items l.period l.matched

abbrev pub decreases-fronts : goal.decreases-fronts
decreases-fronts l = (length l.pattern + 1 - l.period) + (length l.pattern + 1 - (l.period + l.matched))
