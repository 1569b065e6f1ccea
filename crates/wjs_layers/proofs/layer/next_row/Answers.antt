use Rattle.std.proofs.Common.{sym, ap, ◌∙◌, subst}
use Rattle.std.specs.FinMap as map
use Rattle.std.specs.Map.{lookup_entry}
use Rattle.std.specs.Option.{option_map}
use Rattle.wjs_base.specs.declared.values.Slot.{Slot}
use Rattle.wjs_slots.specs.Least.{is_next_on}
use Rattle.wjs_layers.specs.declared.maps.Row.{Row}
use Rattle.wjs_layers.specs.Cursor.{IsNextRow}
use Rattle.wjs_layers.proofs.NextRows.{next_is}
use Rattle.wjs_layers.proofs.layer.next_row.Goals as goal

pub returns-clause-next : goal.returns-clause-next
returns-clause-next g c =
    subst (IsNextRow c.args.layer.now.rows c.args.object c.args.passed)
    (sym (c.slot_of.ensures ∙ ap (option_map (λ (e : Slot × Row). e.0)) (c.next_on.ensures.least ∙ ap (λ n. lookup_entry (is_next_on c.args.object n) (map.entries c.args.layer.now.rows)) c.name_of.ensures)))
    (next_is c.args.layer.now.rows c.args.object c.args.passed c.requires)
