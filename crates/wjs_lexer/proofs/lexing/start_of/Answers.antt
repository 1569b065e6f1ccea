use Rattle.std.proofs.Common.{refl}
use Rattle.wjs_lexer.proofs.Onward.{start_placed, starts_none}
use Rattle.wjs_lexer.proofs.lexing.start_of.Goals as goal

pub advance-requires-clause-placed : goal.advance-requires-clause-placed
advance-requires-clause-placed c = start_placed _ c.requires refl refl refl

pub returns-else-has : goal.returns-else-has
returns-else-has c = record {
  placed = start_placed _ c.requires refl refl refl;
  same = refl;
  at = starts_none c.args.chars.now (λ h. let a = c.has.ensures.1 h in let b = c.if-has.false in cc);
}
