use Rattle.std.proofs.Common.{◌≡◌, drop}
use Rattle.wjs_scope.specs.Declarations.{with_names}
use Rattle.wjs_scope.proofs.names.NameSet.add_all.Given as goal

abbrev pub invariant-loop-name : goal.invariant-loop-name
invariant-loop-name l = with_names l.initial.self l.list ≡ with_names l.self (drop l.name-index l.list)
