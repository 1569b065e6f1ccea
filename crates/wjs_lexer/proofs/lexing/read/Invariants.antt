use Rattle.std.proofs.Common.{◌≡◌, ◌-◌, length}
use Rattle.wjs_base.specs.Text.{Grows}
use Rattle.wjs_lexer.specs.Lexing.{start}
use Rattle.wjs_lexer.specs.Cursors.{IsPlaced}
use Rattle.wjs_lexer.proofs.Onward.{Onward}
use Rattle.wjs_lexer.proofs.lexing.read.Given as goal

abbrev pub invariant-loop-cursor : goal.invariant-loop-cursor
invariant-loop-cursor l = record {
  placed : IsPlaced l.cursor;
  same : l.cursor.chars.now ≡ l.chars;
  grows : Grows l.fn.texts l.texts;
  onward : Onward l.chars (start l.chars) l.cursor.at l.after_line l.texts l.toks.items;
}

abbrev pub decreases-loop-cursor : goal.decreases-loop-cursor
decreases-loop-cursor l = length l.chars - l.cursor.at
