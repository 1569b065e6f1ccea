use Rattle.std.proofs.Common.{◌≡◌, take}
use Rattle.wjs_scope.specs.Scopes.{none_of}
use Rattle.wjs_scope.proofs.names.NameSet.absent.Given as goal

abbrev pub invariant-loop-name : goal.invariant-loop-name
invariant-loop-name l = l.names.items ≡ none_of l.self (take l.name-index l.list)
