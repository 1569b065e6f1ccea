use Rattle.std.proofs.Common.{◌≡◌, ◌-◌, ◌<◌, ◌≤◌, ◌^◌, length}
use Rattle.std.specs.Prelude.{slice_range}
use Rattle.std.specs.Char.{is_digit}
use Rattle.std.specs.Str.Parse.{digits_value}
use Rattle.wjs_lexer.specs.Places.{AllPass}
use Rattle.wjs_lexer.specs.Numbers.{radix}
use Rattle.wjs_lexer.specs.Cursors.{IsPlaced}
use Rattle.wjs_lexer.proofs.cursor.Cursor.digits.Given as goal

abbrev pub invariant-loop-digit : goal.invariant-loop-digit
invariant-loop-digit l = record {
  placed : IsPlaced l.self;
  same : l.self.chars.now ≡ l.fn.self.chars.now;
  some : l.fn.self.at ≤ l.self.at;
  digits : AllPass (λ c. is_digit c (radix l.base)) l.fn.self.chars.now l.fn.self.at l.self.at;
  value : l.value ≡ digits_value (radix l.base) (slice_range l.fn.self.chars.now l.fn.self.at l.self.at);
  small : l.value < 2 ^ 53;
}

abbrev pub decreases-loop-digit : goal.decreases-loop-digit
decreases-loop-digit l = length l.self.chars.now - l.self.at
