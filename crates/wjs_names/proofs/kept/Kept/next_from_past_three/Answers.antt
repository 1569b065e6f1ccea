use Rattle.std.proofs.Common.{◌∙◌, ap, sym}
use Rattle.std.specs.Map.{lookup_entry}
use Rattle.wjs_base.specs.Order.{name_cmp}
use Rattle.wjs_rows.specs.Order.{is_from}
use Rattle.wjs_names.specs.Kept.{rows_of}
use Rattle.wjs_names.proofs.kept.Kept.next_from_past_three.Goals as goal

pub returns-in-Four : goal.returns-in-Four
returns-in-Four g c = c.next_from.ensures ∙ ap (λ k. lookup_entry (is_from name_cmp c.args.name) (rows_of k)) (sym c.in-Four.is)
