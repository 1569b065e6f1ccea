use Rattle.std.proofs.Common.{sym, ap, ◌∙◌}
use Rattle.std.specs.Map.{lookup_entry}
use Rattle.std.specs.Option.{option_map}
use Rattle.std.specs.FinMap as map
use Rattle.wjs_base.specs.Order.{slot_cmp}
use Rattle.wjs_rows.specs.Order.{is_from}
use Rattle.wjs_layers.specs.Keyed.{entry_by}
use Rattle.wjs_layers.specs.Shorts.{row_in}
use Rattle.wjs_layers.proofs.Tables.{rows_lookup}
use Rattle.wjs_layers.proofs.touched.Touched.next_from.Goals as goal

pub returns-clause-least : goal.returns-clause-least
returns-clause-least g c =
    let kept = row_in c.self.inside.before in
    let passes = is_from slot_cmp c.args.slot in
    c.full_entry.ensures ∙ ap (option_map (entry_by kept)) c.next_from.ensures.least ∙ sym (rows_lookup kept passes c.self.inside.rows) ∙ ap (λ m. lookup_entry passes (map.entries m)) c.self.view_is
