use Rattle.wjs_natives.proofs.Holding.{Holds}
use Rattle.wjs_natives.proofs.items.items_of.Given as goal

abbrev pub invariant-loop-value : goal.invariant-loop-value
invariant-loop-value g l = Holds l.config l.values l.items l.value-index
