use Rattle.std.proofs.Common.{◌≡◌, take}
use Rattle.wjs_lexer.proofs.words.is_key.Given as goal

abbrev pub invariant-loop-i : goal.invariant-loop-i
invariant-loop-i l = take l.i l.word ≡ take l.i l.spelling
