use Rattle.std.proofs.Common.{◌&&◌, ap, sym, ◌∙◌}
use Rattle.wjs_base.proofs.Options.{no_none}
use Rattle.wjs_layers.specs.Cursor.{to_come}
use Rattle.wjs_overlay.proofs.MarkLaws.{not_none}
use Rattle.wjs_overlay.proofs.marks.next_written.Goals as goal

pub returns-then-is_first : goal.returns-then-is_first
returns-then-is_first g c = record {
  passes = λ s e. no_none s e;
  before = λ s b. ap (λ w. w && to_come c.args.after s) (c.is_first.ensures.written c.if-is_first.true s);
}

pub next_marked-requires-clause-child : goal.next_marked-requires-clause-child
next_marked-requires-clause-child g c = not_none c.args.layer.now.above (sym c.is_first.ensures.first ∙ c.if-is_first.false)
