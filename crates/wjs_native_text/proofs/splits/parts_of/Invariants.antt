use Rattle.wjs_native_text.proofs.Interning.{Interned}
use Rattle.wjs_native_text.proofs.splits.parts_of.Given as goal

abbrev pub invariant-loop-piece : goal.invariant-loop-piece
invariant-loop-piece g l = Interned g.S.WorldStore.meaning l.text l.pieces l.initial.config l.config l.parts.items l.piece-index
