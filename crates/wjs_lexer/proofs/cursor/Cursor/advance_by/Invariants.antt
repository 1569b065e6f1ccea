use Rattle.std.proofs.Common.{◌≡◌, ◌+◌}
use Rattle.wjs_lexer.specs.Cursors.{IsPlaced}
use Rattle.wjs_lexer.proofs.cursor.Cursor.advance_by.Given as goal

abbrev pub invariant-loop : goal.invariant-loop
invariant-loop l = record {
  placed : IsPlaced l.self;
  same : l.self.chars.now ≡ l.fn.self.chars.now;
  at : l.self.at ≡ l.fn.self.at + l.counter;
}
