use Rattle.std.proofs.Common.{take}
use Rattle.wjs_scope.specs.Places.{declarator_names, AddsPlaces}
use Rattle.wjs_scope.proofs.rows.add_declared.Given as goal

abbrev pub invariant-loop-declarator : goal.invariant-loop-declarator
invariant-loop-declarator l = AddsPlaces l.levels l.at (declarator_names (take l.declarator-index l.declarators)) l.initial.list.items l.list.items
