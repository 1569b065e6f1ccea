use Rattle.std.proofs.Common.{◌≡◌, ◌+◌, ◌≤◌}
use Rattle.wjs_lexer.specs.Places.{line_at}
use Rattle.wjs_division.proofs.lines.count.Given as goal

-- so many lines end before a place, and no more than characters stand there
abbrev pub invariant-loop-at : goal.invariant-loop-at
invariant-loop-at l = record {
  lines : l.ends + 1 ≡ line_at l.chars l.at;
  few : l.ends ≤ l.at;
}
