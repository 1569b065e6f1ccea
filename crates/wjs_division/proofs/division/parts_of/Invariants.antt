use Rattle.std.proofs.Common.{◌≡◌, ◌≤◌, ◌-◌, length, drop}
use Rattle.std.specs.Prelude.{All}
use Rattle.wjs_division.specs.Division.{lines_of, parts_of}
use Rattle.wjs_division.specs.Pieces.{IsInside, all_parts}
use Rattle.wjs_division.proofs.division.parts_of.Given as goal

-- the parts that were found, with the one at hand and the lines that are left, are all parts
abbrev pub invariant-loop-line : goal.invariant-loop-line
invariant-loop-line l = record {
  within : l.line ≤ length l.bytes;
  from : l.division.from ≤ l.line;
  inside : All (IsInside l.bytes) l.division.pieces.items;
  parts : all_parts l.bytes l.division l.line (lines_of (drop l.line l.bytes)) ≡ parts_of l.bytes;
}

abbrev pub decreases-loop-line : goal.decreases-loop-line
decreases-loop-line l = length l.bytes - l.line
