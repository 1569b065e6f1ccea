use Rattle.std.proofs.Common.{◌-◌, length}
use Rattle.wjs_strings.proofs.Parting.{Parted}
use Rattle.wjs_strings.proofs.pieces.split_between.Given as goal

abbrev pub invariant-pieces : goal.invariant-pieces
invariant-pieces l = Parted l.separator l.text l.limit l.pieces.items l.start

abbrev pub decreases-pieces : goal.decreases-pieces
decreases-pieces l = length l.text - l.start
