use Rattle.std.proofs.Common.{◌≡◌, ◌-◌, length}
use Rattle.wjs_tree.specs.Signs.{spelling}
use Rattle.wjs_lexer.specs.Signs.{Spells}
use Rattle.wjs_lexer.specs.Cursors.{IsPlaced}
use Rattle.wjs_lexer.proofs.SignsAhead.{Ahead}
use Rattle.wjs_lexer.proofs.cursor.Cursor.sign.Given as goal

abbrev pub invariant-loop-next : goal.invariant-loop-next
invariant-loop-next l = record {
  placed : IsPlaced l.self;
  same : l.self.chars.now ≡ l.fn.self.chars.now;
  spelled : Spells l.fn.self.chars.now (spelling l.sign) l.fn.self.at l.self.at;
  ahead : Ahead l.fn.self.chars.now l.fn.self.at l.sign l.self.at;
}

abbrev pub decreases-loop-next : goal.decreases-loop-next
decreases-loop-next l = length l.self.chars.now - l.self.at
