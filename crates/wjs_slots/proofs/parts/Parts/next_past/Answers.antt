use Rattle.std.proofs.Common.{◌∙◌, Some, ap, sym}
use Rattle.std.specs.FinMap as map
use Rattle.std.specs.Map.{lookup_entry}
use Rattle.wjs_base.specs.Order.{slot_cmp}
use Rattle.wjs_rows.specs.Order.{is_after}
use Rattle.wjs_slots.specs.Least.{is_next_on}
use Rattle.wjs_slots.proofs.Nexts.{next_either}
use Rattle.wjs_slots.proofs.parts.Parts.next_past.Goals as goal

pub next_past-near-requires : goal.next_past-near-requires
next_past-near-requires g c = c.self.invariant.short

pub returns : goal.returns
returns g c =
    let p = c.self.inside in
    let slot = c.args.slot in
    c.lesser_row.ensures
    ∙ next_either p.near.owner p.near.first p.near.objects.items p.far.entries c.self.invariant slot
    (c.requires ∙ ap (λ m. lookup_entry (is_next_on slot.object (Some slot.name)) (map.entries m)) (sym c.self.view_is))
    c.next_past-near.result c.next_after.result c.next_past-near.ensures c.next_after.ensures
    ∙ ap (λ m. lookup_entry (is_after slot_cmp slot) (map.entries m)) c.self.view_is
