use Rattle.std.proofs.Common.{◌∙◌, ap, sym}
use Rattle.std.specs.Map.{lookup_entry}
use Rattle.wjs_base.specs.Order.{name_cmp}
use Rattle.wjs_rows.specs.Order.{is_after}
use Rattle.wjs_names.specs.Kept.{rows_of}
use Rattle.wjs_names.proofs.kept.Kept.next_after_past_three.Goals as goal

pub returns-in-Four : goal.returns-in-Four
returns-in-Four g c = c.next_after.ensures ∙ ap (λ k. lookup_entry (is_after name_cmp c.args.name) (rows_of k)) (sym c.in-Four.is)
