use Rattle.std.proofs.Common.{◌≡◌, ℕ, ◌+◌, ◌-◌, ◌<◌, ◌≤◌, length}
use Rattle.std.specs.Prelude.{slice_range}
use Rattle.std.specs.List.{list_any}
use Rattle.wjs_lexer.specs.Characters.{is_line_end}
use Rattle.wjs_lexer.specs.Comments.{Closes}
use Rattle.wjs_lexer.specs.Cursors.{IsPlaced}
use Rattle.wjs_lexer.proofs.cursor.Cursor.block_comment.Given as goal

abbrev pub invariant-loop-ch : goal.invariant-loop-ch
invariant-loop-ch l = record {
  placed : IsPlaced l.self;
  same : l.self.chars.now ≡ l.fn.self.chars.now;
  some : l.fn.self.at + 2 ≤ l.self.at;
  before : (k : ℕ) → l.fn.self.at + 2 ≤ k → k < l.self.at → Closes l.fn.self.chars.now k → ⊥;
  holds : l.holds_line ≡ list_any is_line_end (slice_range l.fn.self.chars.now l.fn.self.at l.self.at);
}

abbrev pub decreases-loop-ch : goal.decreases-loop-ch
decreases-loop-ch l = length l.self.chars.now - l.self.at
