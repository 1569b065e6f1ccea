use Rattle.std.proofs.Common.{sym, ◌∙◌}
use Rattle.wjs_lexer.specs.Numbers.{is_bound_to_number}
use Rattle.wjs_lexer.proofs.NumbersFound.{zero_found, zero_bound}
use Rattle.wjs_lexer.proofs.Texts.{behind}
use Rattle.wjs_lexer.proofs.cursor.Cursor.zero.Goals as goal

pub returns-then-is_bound_to_number : goal.returns-then-is_bound_to_number
returns-then-is_bound_to_number c = let f = c.advance.ensures in λ units. record {
  placed = f.placed;
  same = f.same;
  nothing = zero_bound c.args.self.now.chars.now c.args.self.now.at c.advance.new.self.at c.requires.start c.requires.alone f.at
      (behind is_bound_to_number _ _ _ _ f.same (sym c.is_bound_to_number.ensures ∙ c.if-is_bound_to_number.true));
}

pub returns-else-is_bound_to_number : goal.returns-else-is_bound_to_number
returns-else-is_bound_to_number c = let f = c.advance.ensures in λ units. record {
  placed = f.placed;
  same = f.same;
  piece = zero_found c.args.self.now.chars.now c.args.self.now.at c.advance.new.self.at c.requires.start c.requires.alone f.at
      (behind is_bound_to_number _ _ _ _ f.same (sym c.is_bound_to_number.ensures ∙ c.if-is_bound_to_number.false));
}
