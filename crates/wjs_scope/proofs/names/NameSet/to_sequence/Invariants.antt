use Rattle.std.proofs.Common.{◌≡◌, map, take}
use Rattle.wjs_scope.specs.Declarations.{name_of}
use Rattle.wjs_scope.proofs.names.NameSet.to_sequence.Given as goal

abbrev pub invariant-loop-k : goal.invariant-loop-k
invariant-loop-k l = l.names.items ≡ map name_of (take l.k-index l.k-items)
