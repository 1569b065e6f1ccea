use Rattle.std.proofs.Common.{◌^◌, ◌≤◌, List, ℕ, length, sym, subst}
use Rattle.wjs_division.proofs.Ended.{few_chars, ends_of_text}
use Rattle.wjs_division.proofs.lines.line_ends.Goals as goal

pub count-requires : goal.count-requires
count-requires c = subst (λ (cs : List ℕ). length cs ≤ 2 ^ 24) (sym c.deref.ensures.value) (few_chars c.args.text.now c.in_ok-chars.chars.items c.in_ok-chars.ensures c.requires.short)

pub returns : goal.returns
returns c = ends_of_text c.args.text.now c.in_ok-chars.chars.items c.deref.result.now c.count.result c.requires.utf8 c.in_ok-chars.ensures c.deref.ensures.value c.count.ensures
