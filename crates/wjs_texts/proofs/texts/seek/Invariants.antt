use Rattle.std.proofs.Common.{◌++◌}
use Rattle.wjs_texts.specs.Spans.{units_in}
use Rattle.wjs_texts.proofs.Finding.{AreOthers}
use Rattle.wjs_texts.proofs.texts.seek.Given as goal

-- the turns so far are taken by other texts
abbrev pub invariant-loop-turn : goal.invariant-loop-turn
invariant-loop-turn l = AreOthers l.buffers l.spans.entries (units_in l.buffers l.front ++ l.back) l.turn
