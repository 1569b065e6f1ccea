use Rattle.std.proofs.Common.{◌+◌, ◌-◌, length}
use Rattle.wjs_strings.proofs.Moving.{Scans}
use Rattle.wjs_strings.proofs.search.find.Given as goal

abbrev pub invariant-scan : goal.invariant-scan
invariant-scan l = Scans l.pattern l.text l.fn.start l.start l.matched

abbrev pub decreases-scan : goal.decreases-scan
decreases-scan l = (length l.text - l.start) + (length l.text - (l.start + l.matched))
