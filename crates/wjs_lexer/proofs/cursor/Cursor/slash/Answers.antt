use Rattle.std.proofs.Common.{refl, inr}
use Rattle.wjs_lexer.proofs.KindLemmas.{slash_kind}
use Rattle.wjs_lexer.proofs.SlashFound.{line_found, block_found, unclosed}
use Rattle.wjs_lexer.proofs.cursor.Cursor.slash.Goals as goal

pub sign-requires-clause-start : goal.sign-requires-clause-start
sign-requires-clause-start c = record {
  here = c.requires.start;
  sign = refl;
  mark = inr (slash_kind, (λ h. let a = c.has_behind.ensures.1 h in let b = c.if-has_behind.false in cc, λ h. let a = c.has_behind-else-has_behind.ensures.1 h in let b = c.if-has_behind-2.false in cc));
}

pub returns-then-has_behind : goal.returns-then-has_behind
returns-then-has_behind c = let a = c.line_comment.ensures in λ units. record {
  placed = a.placed;
  same = a.same;
  piece = line_found c.args.self.now.chars.now c.args.self.now.at c.line_comment.new.self.at c.requires.start (c.has_behind.ensures.0 c.if-has_behind.true) a.some a.inside a.stop;
}

pub returns-in-Some : goal.returns-in-Some
returns-in-Some c = let a = c.in-Some.ensures in λ units. record {
  placed = a.placed;
  same = a.same;
  piece = block_found c.args.self.now.chars.now c.args.self.now.at c.block_comment.new.self.at c.in-Some.holds_line a.comment;
}

pub returns-in-None : goal.returns-in-None
returns-in-None c = let a = c.in-None.ensures in λ units. record {
  placed = a.placed;
  same = a.same;
  nothing = unclosed c.args.self.now.chars.now c.args.self.now.at c.requires.start (c.has_behind-else-has_behind.ensures.0 c.if-has_behind-2.true) a.never;
}
