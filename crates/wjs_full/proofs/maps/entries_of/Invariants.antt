use Rattle.std.proofs.Common.{◌≡◌, ◌++◌}
use Rattle.wjs_full.proofs.maps.entries_of.Given as goal

abbrev pub invariant-loop-slot : goal.invariant-loop-slot
invariant-loop-slot g l = l.all.items ++ l.slot-iterator ≡ l.tree.entries
