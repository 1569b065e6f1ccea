use Rattle.std.proofs.Common.{◌≡◌, ℕ, ◌+◌, ◌*◌, refl, ◌∙◌, arith}
use Rattle.std.specs.Char.{is_digit, digit_value}
use Rattle.std.proofs.lemmas.Option.{slice_get_within}
use Rattle.wjs_lexer.specs.Numbers.{radix}
use Rattle.wjs_lexer.proofs.Texts.{some_at}
use Rattle.wjs_lexer.proofs.Ranges.{pass_more}
use Rattle.wjs_lexer.proofs.NumbersFound.{digit_char, value_more, too_big}
use Rattle.wjs_lexer.proofs.cursor.Cursor.digits.Goals as goal

-- the value with one more digit
grown : (v r a d b x : ℕ) → a ≡ r → b ≡ d → d ≡ x → v * a + b ≡ v * r + x
grown v r a d b x e f g = rw (e, f, g) refl

pub returns-then-value-ge-TOO_BIG : goal.returns-then-value-ge-TOO_BIG
returns-then-value-ge-TOO_BIG c =
    let l = c.loop-digit.invariant in
    let k = digit_char (radix c.args.base) _ c.in-Some.digit c.in-Some.ensures in
    let h = some_at c.args.self.now.chars.now c.loop-digit.self.chars.now c.loop-digit.self.at k.0 l.same k.1.0 in
    record {
      placed = l.placed;
      same = l.same;
      run = too_big c.args.base c.args.self.now.chars.now c.args.self.now.at c.loop-digit.self.at k.0 c.loop-digit.value (c.loop-digit.value * c.from.result + c.from-in-Some.result) l.some l.digits h k.1.1.0 l.value
          (grown c.loop-digit.value (radix c.args.base) c.from.result c.in-Some.digit c.from-in-Some.result (digit_value k.0) (c.from.ensures ∙ c.radix.ensures) c.from-in-Some.ensures k.1.1.1) c.if-value-ge-TOO_BIG.true;
    }

pub advance-requires-clause-more : goal.advance-requires-clause-more
advance-requires-clause-more c =
    let k = digit_char (radix c.args.base) _ c.in-Some.digit c.in-Some.ensures in
    slice_get_within _ _ k.0 k.1.0

pub loop-digit-preserved : goal.loop-digit-preserved
loop-digit-preserved c =
    let l = c.loop-digit.invariant in
    let a = c.advance.ensures in
    let s = l.some in
    let k = digit_char (radix c.args.base) _ c.in-Some.digit c.in-Some.ensures in
    let h = some_at c.args.self.now.chars.now c.loop-digit.self.chars.now c.loop-digit.self.at k.0 l.same k.1.0 in
    record {
      placed = a.placed;
      same = a.same ∙ l.same;
      some = let e = a.at in omega (arith, e, s);
      digits = rw a.at (pass_more (λ x. is_digit x (radix c.args.base)) c.args.self.now.chars.now c.args.self.now.at c.loop-digit.self.at k.0 l.digits h k.1.1.0);
      value = rw a.at (value_more (radix c.args.base) c.args.self.now.chars.now c.args.self.now.at c.loop-digit.self.at k.0 c.loop-digit.value (c.loop-digit.value * c.from.result + c.from-in-Some.result) l.some h l.value
          (grown c.loop-digit.value (radix c.args.base) c.from.result c.in-Some.digit c.from-in-Some.result (digit_value k.0) (c.from.ensures ∙ c.radix.ensures) c.from-in-Some.ensures k.1.1.1));
      small = c.if-value-ge-TOO_BIG.false;
    }
