use Rattle.std.proofs.Common.{◌≡◌, ◌++◌, take}
use Rattle.std.specs.List.{flat_map}
use Rattle.std.specs.Char.Escape.{encode_utf16}
use Rattle.wjs_lexer.proofs.words.push_units.Given as goal

abbrev pub invariant-loop-ch : goal.invariant-loop-ch
invariant-loop-ch l = l.units.items ≡ l.fn.units.items ++ flat_map encode_utf16 (take l.ch-index l.text)
