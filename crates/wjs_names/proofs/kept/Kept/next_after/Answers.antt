use Rattle.std.proofs.Common.{◌∙◌, ap}
use Rattle.std.specs.Map.{lookup_entry}
use Rattle.wjs_base.specs.Order.{name_cmp}
use Rattle.wjs_rows.specs.Order.{is_after}
use Rattle.wjs_names.proofs.kept.Kept.next_after.Goals as goal

pub returns-in-Some : goal.returns-in-Some
returns-in-Some g c = c.next_after.ensures ∙ ap (lookup_entry (is_after name_cmp c.args.name)) c.in-Some.ensures.rows
