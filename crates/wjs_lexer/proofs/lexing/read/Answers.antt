use Rattle.std.proofs.Common.{List, ℕ, ◌∙◌, ap, arith, length}
use Rattle.wjs_base.proofs.TextLaws.{Grows-trans}
use Rattle.wjs_lexer.specs.Lexing.{start}
use Rattle.wjs_lexer.proofs.Sizes.{short_length}
use Rattle.wjs_lexer.proofs.Onward.{finished, forward, takes_on, skips_on, fault_of, as_takes, as_skips}
use Rattle.wjs_lexer.proofs.lexing.read.Goals as goal

pub start_of-cursor-requires : goal.start_of-cursor-requires
start_of-cursor-requires c = short_length c.args.chars.now c.requires

pub loop-cursor-smaller-in-Ok-Token : goal.loop-cursor-smaller-in-Ok-Token
loop-cursor-smaller-in-Ok-Token c =
    let l = c.loop-cursor.invariant in
    let k = as_takes c.loop-cursor.cursor c.take_piece.new.cursor c.take_piece.new.texts c.in-Ok-Token.field-0 c.in-Ok-Token.token c.in-Ok-Token.field-0-is c.in-Ok-Token.ensures.ok in
    let f = forward k.which c.loop-cursor.cursor.chars.now c.loop-cursor.cursor.at c.take_piece.new.cursor.at k.piece.stands in
    let w = k.placed.within in
    let e = ap (λ (xs : List ℕ). length xs) (k.same ∙ l.same) in
    omega (arith, f, w, e)

pub loop-cursor-preserved-in-Ok-Token : goal.loop-cursor-preserved-in-Ok-Token
loop-cursor-preserved-in-Ok-Token c =
    let l = c.loop-cursor.invariant in
    let k = as_takes c.loop-cursor.cursor c.take_piece.new.cursor c.take_piece.new.texts c.in-Ok-Token.field-0 c.in-Ok-Token.token c.in-Ok-Token.field-0-is c.in-Ok-Token.ensures.ok in
    record {
      placed = k.placed;
      same = k.same ∙ l.same;
      grows = Grows-trans c.args.texts.now c.loop-cursor.texts c.take_piece.new.texts l.grows c.in-Ok-Token.ensures.grows;
      onward = takes_on c.args.chars.now (start c.args.chars.now) c.loop-cursor.cursor c.take_piece.new.cursor c.loop-cursor.after_line c.loop-cursor.texts c.take_piece.new.texts c.loop-cursor.toks.items c.push.new.self.items c.in-Ok-Token.token
          l.placed l.same c.in-Ok-Token.ensures.grows k c.in-Ok.ensures.items l.onward;
    }

pub loop-cursor-preserved : goal.loop-cursor-preserved
loop-cursor-preserved c =
    let l = c.loop-cursor.invariant in
    let k = as_skips c.loop-cursor.cursor c.take_piece.new.cursor c.take_piece.new.texts c.in-Ok-Skip.field-0 c.in-Ok-Skip.holds_line c.in-Ok-Skip.field-0-is c.in-Ok-Skip.ensures.ok in
    record {
      placed = k.placed;
      same = k.same ∙ l.same;
      grows = Grows-trans c.args.texts.now c.loop-cursor.texts c.take_piece.new.texts l.grows c.in-Ok-Skip.ensures.grows;
      onward = skips_on c.args.chars.now (start c.args.chars.now) c.loop-cursor.cursor c.take_piece.new.cursor c.loop-cursor.after_line c.in-Ok-Skip.holds_line c.loop-cursor.texts c.take_piece.new.texts c.loop-cursor.toks.items
          l.same c.in-Ok-Skip.ensures.grows k l.onward;
    }

pub returns-in-Err-clause-fault : goal.returns-in-Err-clause-fault
returns-in-Err-clause-fault c =
    let l = c.loop-cursor.invariant in
    fault_of c.args.chars.now (start c.args.chars.now) c.loop-cursor.cursor c.loop-cursor.after_line c.loop-cursor.texts c.loop-cursor.toks.items c.in-Err.fault l.same c.loop-cursor-test.true c.in-Err.ensures.fault l.onward

pub returns-clause-ok : goal.returns-clause-ok
returns-clause-ok c =
    let l = c.loop-cursor.invariant in
    let w = l.placed.within in
    let t = c.loop-cursor-test.false in
    let e = ap (λ (xs : List ℕ). length xs) l.same in
    finished c.args.chars.now (start c.args.chars.now) c.loop-cursor.cursor.at c.loop-cursor.after_line c.loop-cursor.texts c.loop-cursor.toks.items (omega arith) l.onward
