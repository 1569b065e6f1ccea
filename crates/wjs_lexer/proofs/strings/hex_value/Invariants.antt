use Rattle.std.proofs.Common.{◌≡◌, ◌<◌, ◌^◌, true, take}
use Rattle.std.specs.List.{list_all}
use Rattle.std.specs.Char.{is_digit}
use Rattle.std.specs.Str.Parse.{digits_value}
use Rattle.wjs_lexer.proofs.strings.hex_value.Given as goal

abbrev pub invariant-loop-digit : goal.invariant-loop-digit
invariant-loop-digit l = record {
  all : list_all (λ c. is_digit c 16) (take l.digit-index l.digits) ≡ true;
  value : l.value ≡ digits_value 16 (take l.digit-index l.digits);
  small : l.value < 16 ^ l.digit-index;
}
