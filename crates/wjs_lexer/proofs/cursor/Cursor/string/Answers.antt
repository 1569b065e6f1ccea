use Rattle.std.proofs.Common.{ℕ, ◌+◌, List, sym, ap, ◌∙◌, arith, length}
use Rattle.std.proofs.lemmas.Option.{slice_get_within}
use Rattle.wjs_lexer.specs.Strings.{part_at}
use Rattle.wjs_lexer.proofs.Texts.{some_at}
use Rattle.wjs_lexer.proofs.Parts.{part_sized}
use Rattle.wjs_lexer.proofs.StringsFound.{open_more, text_found, text_missing}
use Rattle.wjs_lexer.proofs.cursor.Cursor.string.Goals as goal

pub advance_by-requires-clause-more : goal.advance_by-requires-clause-more
advance_by-requires-clause-more c = (part_sized c.loop-part.self.chars.now c.args.quote c.loop-part.self.at c.in-Some.part (sym c.in-Some.ensures)).within

pub loop-part-smaller : goal.loop-part-smaller
loop-part-smaller c =
    let p = part_sized c.loop-part.self.chars.now c.args.quote c.loop-part.self.at c.in-Some.part (sym c.in-Some.ensures) in
    let a = c.advance_by.ensures.at in
    let s = ap (λ (xs : List ℕ). length xs) c.advance_by.ensures.same in
    let x = p.some in
    let w = p.within in
    omega (arith, a, s, x, w)

pub loop-part-preserved : goal.loop-part-preserved
loop-part-preserved c =
    let l = c.loop-part.invariant in
    let a = c.advance_by.ensures in
    record {
      placed = a.placed;
      same = a.same ∙ l.same;
      opened = open_more c.args.self.now.chars.now c.args.quote (c.args.self.now.at + 1) c.loop-part.self.at c.advance_by.new.self.at c.in-Some.part c.loop-part.units.items c.push_part.new.units.items c.requires.quotes
          (ap (λ (xs : List ℕ). part_at xs c.args.quote c.loop-part.self.at) (sym l.same) ∙ sym c.in-Some.ensures) a.at c.in_ok-push_part.ensures l.opened;
    }

pub advance-requires-then-has-clause-more : goal.advance-requires-then-has-clause-more
advance-requires-then-has-clause-more c = slice_get_within _ _ c.args.quote (c.has.ensures.0 c.if-has.true)

pub returns-then-has : goal.returns-then-has
returns-then-has c =
    let l = c.loop-part.invariant in
    let a = c.advance-then-has.ensures in
    record {
      placed = a.placed;
      same = a.same ∙ l.same;
      piece = text_found c.args.self.now.chars.now c.args.quote c.args.self.now.at c.loop-part.self.at c.advance-then-has.new.self.at c.loop-part.units.items c.requires.start c.requires.quotes
          (some_at c.args.self.now.chars.now c.loop-part.self.chars.now c.loop-part.self.at c.args.quote l.same (c.has.ensures.0 c.if-has.true)) a.at l.opened;
    }

pub returns-else-has : goal.returns-else-has
returns-else-has c =
    let l = c.loop-part.invariant in
    record {
      placed = l.placed;
      same = l.same;
      nothing = text_missing c.args.self.now.chars.now c.args.quote c.args.self.now.at c.loop-part.self.at c.loop-part.units.items c.requires.start c.requires.quotes
          (λ h. let a = c.has.ensures.1 (some_at c.loop-part.self.chars.now c.args.self.now.chars.now c.loop-part.self.at c.args.quote (sym l.same) h) in let b = c.if-has.false in cc)
          (ap (λ (xs : List ℕ). part_at xs c.args.quote c.loop-part.self.at) (sym l.same) ∙ sym c.in_default.ensures) l.opened;
    }
