use Rattle.std.proofs.Common.{sym, ◌∙◌, arith}
use Rattle.wjs_lexer.specs.Numbers.{is_bound_to_number}
use Rattle.wjs_lexer.specs.Cursors.{DigitsEnd, TooBig}
use Rattle.wjs_lexer.proofs.Texts.{behind, moved}
use Rattle.wjs_lexer.proofs.NumbersFound.{numeral_found, numeral_bound, numeral_empty, numeral_big}
use Rattle.wjs_lexer.proofs.cursor.Cursor.numeral.Goals as goal

pub returns-in_default : goal.returns-in_default
returns-in_default c = let t = c.to_digits.ensures in let f = c.in_default.ensures in λ units. record {
  placed = f.placed;
  same = f.same ∙ t.same;
  nothing = numeral_big c.args.base c.args.self.now.chars.now c.args.self.now.at c.requires.opens (moved (λ xs j. TooBig c.args.base xs j) _ _ _ _ t.same t.at f.run);
}

pub returns-then-self-first : goal.returns-then-self-first
returns-then-self-first c = let t = c.to_digits.ensures in let f = c.in-Some.ensures in λ units. record {
  placed = f.placed;
  same = f.same ∙ t.same;
  nothing = numeral_empty c.args.base c.args.self.now.chars.now c.args.self.now.at c.digits.new.self.at c.in-Some.value c.requires.opens (c.if-self-first.true ∙ t.at)
      (moved (λ xs j. DigitsEnd c.args.base xs j c.digits.new.self.at c.in-Some.value) _ _ _ _ t.same t.at f.run);
}

pub returns-then-is_bound_to_number : goal.returns-then-is_bound_to_number
returns-then-is_bound_to_number c = let t = c.to_digits.ensures in let f = c.in-Some.ensures in λ units. record {
  placed = f.placed;
  same = f.same ∙ t.same;
  nothing = numeral_bound c.args.base c.args.self.now.chars.now c.args.self.now.at c.digits.new.self.at c.in-Some.value c.requires.opens
      (moved (λ xs j. DigitsEnd c.args.base xs j c.digits.new.self.at c.in-Some.value) _ _ _ _ t.same t.at f.run)
      (behind is_bound_to_number _ _ _ _ (f.same ∙ t.same) (sym c.is_bound_to_number.ensures ∙ c.if-is_bound_to_number.true));
}

pub returns-else-is_bound_to_number : goal.returns-else-is_bound_to_number
returns-else-is_bound_to_number c = let t = c.to_digits.ensures in let f = c.in-Some.ensures in λ units. record {
  placed = f.placed;
  same = f.same ∙ t.same;
  piece = numeral_found c.args.base c.args.self.now.chars.now c.args.self.now.at c.digits.new.self.at c.in-Some.value c.requires.opens
      (let s = f.run.some in let n = c.if-self-first.false in let e = t.at in omega (arith, s, n, e))
      (moved (λ xs j. DigitsEnd c.args.base xs j c.digits.new.self.at c.in-Some.value) _ _ _ _ t.same t.at f.run)
      (behind is_bound_to_number _ _ _ _ (f.same ∙ t.same) (sym c.is_bound_to_number.ensures ∙ c.if-is_bound_to_number.false));
}
