use Rattle.std.proofs.Common.{◌≡◌, ◌+◌, ◌-◌, ◌≤◌, not, length}
use Rattle.wjs_lexer.specs.Places.{AllPass}
use Rattle.wjs_lexer.specs.Characters.{is_line_end}
use Rattle.wjs_lexer.specs.Cursors.{IsPlaced}
use Rattle.wjs_lexer.proofs.cursor.Cursor.line_comment.Given as goal

abbrev pub invariant-loop-ch : goal.invariant-loop-ch
invariant-loop-ch l = record {
  placed : IsPlaced l.self;
  same : l.self.chars.now ≡ l.fn.self.chars.now;
  some : l.fn.self.at + 2 ≤ l.self.at;
  inside : AllPass (λ c. not (is_line_end c)) l.fn.self.chars.now (l.fn.self.at + 2) l.self.at;
}

abbrev pub decreases-loop-ch : goal.decreases-loop-ch
decreases-loop-ch l = length l.self.chars.now - l.self.at
