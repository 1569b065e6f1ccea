use Rattle.std.proofs.Common.{◌≡◌, ℕ, ◌+◌, List, length, sym, ap, ◌∙◌, arith}
use Rattle.wjs_lexer.specs.Places.{line_at}
use Rattle.wjs_division.proofs.Ended.{first_line, ends_more}
use Rattle.wjs_division.proofs.lines.count.Goals as goal

-- at the end
at_end : (cs : List ℕ) (i ends : ℕ) → i ≡ length cs → ends + 1 ≡ line_at cs i → ends + 1 ≡ line_at cs (length cs)
at_end cs i ends e h = h ∙ ap (line_at cs) e

pub loop-at-init : goal.loop-at-init
loop-at-init c = record { lines = sym (first_line c.args.chars.now); few = omega arith }

pub loop-at-preserved : goal.loop-at-preserved
loop-at-preserved c =
    let before = c.loop-at.invariant in
    let small = c.ends_at-ends.ensures.small in
    record {
      lines = ends_more c.args.chars.now c.loop-at.at c.loop-at.ends c.ends_at-ends.result before.lines c.ends_at-ends.ensures.value;
      few = omega arith;
    }

pub returns : goal.returns
returns c = at_end c.args.chars.now c.loop-at.at c.loop-at.ends (omega arith) c.loop-at.invariant.lines
