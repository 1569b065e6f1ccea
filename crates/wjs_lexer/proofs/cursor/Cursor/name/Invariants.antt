use Rattle.std.proofs.Common.{◌≡◌, ◌+◌, ◌-◌, ◌<◌, length}
use Rattle.wjs_lexer.specs.Places.{AllPass}
use Rattle.wjs_lexer.specs.Characters.{continues_name}
use Rattle.wjs_lexer.specs.Cursors.{IsPlaced}
use Rattle.wjs_lexer.proofs.cursor.Cursor.name.Given as goal

abbrev pub invariant-loop-ch : goal.invariant-loop-ch
invariant-loop-ch l = record {
  placed : IsPlaced l.self;
  same : l.self.chars.now ≡ l.fn.self.chars.now;
  some : l.fn.self.at < l.self.at;
  rest : AllPass continues_name l.fn.self.chars.now (l.fn.self.at + 1) l.self.at;
}

abbrev pub decreases-loop-ch : goal.decreases-loop-ch
decreases-loop-ch l = length l.self.chars.now - l.self.at
