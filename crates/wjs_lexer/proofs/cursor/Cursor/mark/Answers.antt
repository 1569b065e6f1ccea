use Rattle.std.proofs.Common.{refl, sym}
use Rattle.wjs_lexer.proofs.SlashFound.{no_mark}
use Rattle.wjs_lexer.proofs.cursor.Cursor.mark.Goals as goal

pub returns-in_default : goal.returns-in_default
returns-in_default c = λ units. record {
  placed = c.requires.placed;
  same = refl;
  nothing = no_mark c.args.self.now.chars.now c.args.self.now.at c.args.ch c.requires.start c.requires.mark (sym c.in_default.ensures);
}
