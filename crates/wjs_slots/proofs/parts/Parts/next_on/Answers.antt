use Rattle.std.proofs.Common.{◌∙◌, ap, sym}
use Rattle.std.specs.FinMap as map
use Rattle.std.specs.Map.{lookup_entry}
use Rattle.std.specs.Option.{option_map}
use Rattle.wjs_slots.specs.Least.{is_next_on, row_on}
use Rattle.wjs_slots.proofs.OnObjects.{near_next, far_next}
use Rattle.wjs_slots.proofs.parts.Parts.next_on.Goals as goal

pub returns-in-Some : goal.returns-in-Some
returns-in-Some g c =
    let p = c.self.inside in
    c.with_slot.ensures
    ∙ ap (option_map (row_on c.args.object)) c.next_past.ensures
    ∙ near_next p.near.owner p.near.first p.near.objects.items p.far.entries c.args.object c.args.passed c.in-Some.place c.index.result.now c.self.invariant (sym c.in-Some.ensures) c.index.ensures
    ∙ ap (λ m. lookup_entry (is_next_on c.args.object c.args.passed) (map.entries m)) c.self.view_is

pub returns-in-None : goal.returns-in-None
returns-in-None g c =
    let p = c.self.inside in
    c.next_far.ensures
    ∙ far_next p.near.owner p.near.first p.near.objects.items p.far.entries c.args.object c.args.passed c.self.invariant (sym c.in-None.ensures)
    ∙ ap (λ m. lookup_entry (is_next_on c.args.object c.args.passed) (map.entries m)) c.self.view_is
