use Rattle.wjs_division.proofs.Programs.{Loaded}
use Rattle.wjs_division.proofs.input.load_pieces.Given as goal

-- the units are those of the parts so far
abbrev pub invariant-loop-piece : goal.invariant-loop-piece
invariant-loop-piece l = Loaded l.bytes l.piece-index l.fn.texts l.texts l.units.items
