use Rattle.std.proofs.Common.{refl, sym, ap, ◌∙◌, None}
use Rattle.std.specs.FinMap as map
use Rattle.std.specs.Map.{lookup_entry}
use Rattle.wjs_base.specs.Order.{slot_cmp}
use Rattle.wjs_rows.specs.Order.{is_from}
use Rattle.wjs_layers.specs.Cursor.{to_come}
use Rattle.wjs_slots.specs.Least.{first_slot}
use Rattle.wjs_layers.proofs.Entries.{from_is, all_slots}
use Rattle.wjs_overlay.proofs.marks.row_after.Goals as goal

pub returns-in-None : goal.returns-in-None
returns-in-None g c =
    let es = map.entries c.args.layer.now.rows in
    c.next_from.ensures.least
    ∙ ap (λ k. lookup_entry (is_from slot_cmp k) es) c.least_slot.ensures
    ∙ from_is (is_from slot_cmp first_slot) es all_slots
    ∙ sym (from_is (to_come None) es (λ s. refl))
    ∙ ap (λ p. lookup_entry (to_come p) es) (sym c.in-None.is)

pub returns-in-Some : goal.returns-in-Some
returns-in-Some g c = c.next_after.ensures.least ∙ ap (λ p. lookup_entry (to_come p) (map.entries c.args.layer.now.rows)) (sym c.in-Some.is)
