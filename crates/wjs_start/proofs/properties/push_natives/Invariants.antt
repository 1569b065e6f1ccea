use Rattle.std.proofs.Common.{◌≡◌, ◌+◌, ◌++◌, map, drop}
use Rattle.wjs_meaning.specs.Start.{native_properties}
use Rattle.wjs_start.specs.Properties.{property_in}
use Rattle.wjs_start.proofs.properties.push_natives.Given as goal

abbrev pub invariant-loop-i : goal.invariant-loop-i
invariant-loop-i l = map property_in l.initial.list.items ++ native_properties l.first l.natives ≡ map property_in l.list.items ++ native_properties (l.first + l.i) (drop l.i l.natives)
