use Rattle.std.proofs.Common.{◌≡◌, ◌+◌, ◌-◌, length}
use Rattle.wjs_lexer.specs.Cursors.{IsPlaced}
use Rattle.wjs_lexer.proofs.StringsFound.{Open}
use Rattle.wjs_lexer.proofs.cursor.Cursor.string.Given as goal

abbrev pub invariant-loop-part : goal.invariant-loop-part
invariant-loop-part l = record {
  placed : IsPlaced l.self;
  same : l.self.chars.now ≡ l.fn.self.chars.now;
  opened : Open l.fn.self.chars.now l.quote (l.fn.self.at + 1) l.units.items l.self.at;
}

abbrev pub decreases-loop-part : goal.decreases-loop-part
decreases-loop-part l = length l.self.chars.now - l.self.at
