use Rattle.wjs_start.proofs.Blueprinting.{Pushed}
use Rattle.wjs_start.proofs.blueprints.push_natives.Given as goal

abbrev pub invariant-loop-native : goal.invariant-loop-native
invariant-loop-native l = Pushed l.initial.list.items l.list.items l.natives l.native-index
