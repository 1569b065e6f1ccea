use Rattle.std.proofs.Common.{sym, ◌∙◌}
use Rattle.wjs_overlay.proofs.MarkLaws.{not_none}
use Rattle.wjs_overlay.proofs.marks.count_marks.Goals as goal

pub returns-then-is_first-clause-reads : goal.returns-then-is_first-clause-reads
returns-then-is_first-clause-reads g c = sym (c.is_first.ensures.reads c.if-is_first.true)

pub returns-then-is_first-clause-writes : goal.returns-then-is_first-clause-writes
returns-then-is_first-clause-writes g c = sym (c.is_first.ensures.writes c.if-is_first.true)

pub count_rows-requires-clause-child : goal.count_rows-requires-clause-child
count_rows-requires-clause-child g c = not_none c.args.layer.now.above (sym c.is_first.ensures.first ∙ c.if-is_first.false)
