use Rattle.std.proofs.Common.{◌-◌, length}
use Rattle.wjs_strings.proofs.Units.{Unitwise}
use Rattle.wjs_strings.proofs.pieces.split_units.Given as goal

abbrev pub invariant-units : goal.invariant-units
invariant-units l = Unitwise l.text l.limit l.pieces.items l.start

abbrev pub decreases-units : goal.decreases-units
decreases-units l = length l.text - l.start
