use Rattle.std.proofs.Common.{◌∙◌, ap, sym}
use Rattle.std.specs.FinMap as map
use Rattle.std.specs.Map.{lookup_entry}
use Rattle.wjs_base.specs.Order.{name_cmp}
use Rattle.wjs_rows.specs.Order.{is_from}
use Rattle.wjs_names.specs.Kept.{rows_of}
use Rattle.wjs_names.proofs.by_name.RowsByName.next_from.Goals as goal

pub returns : goal.returns
returns g c = c.next_from.ensures ∙ ap (lookup_entry (is_from name_cmp c.args.name)) (sym (map.entries-from_sorted name_cmp (rows_of c.self.inside.kept) c.self.invariant) ∙ ap map.entries c.self.view_is)
