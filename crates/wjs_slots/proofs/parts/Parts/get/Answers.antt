use Rattle.std.proofs.Common.{◌∙◌, ap, sym}
use Rattle.std.specs.FinMap as map
use Rattle.wjs_slots.proofs.Values.{get_near, get_far}
use Rattle.wjs_slots.proofs.parts.Parts.get.Goals as goal

pub returns-in-Some : goal.returns-in-Some
returns-in-Some g c =
    let p = c.self.inside in
    c.get.ensures
    ∙ ap (λ m. map.get m c.args.slot.name) c.index.ensures
    ∙ sym (get_near p.near.owner p.near.first p.near.objects.items p.far.entries c.args.slot c.in-Some.place c.index.result.now c.self.invariant.apart (sym c.in-Some.ensures))
    ∙ ap (λ m. map.get m c.args.slot) c.self.view_is

pub returns-in-None : goal.returns-in-None
returns-in-None g c =
    let p = c.self.inside in
    c.get-in-None.ensures
    ∙ sym (get_far p.near.owner p.near.first p.near.objects.items p.far.entries c.args.slot (sym c.in-None.ensures))
    ∙ ap (λ m. map.get m c.args.slot) c.self.view_is
