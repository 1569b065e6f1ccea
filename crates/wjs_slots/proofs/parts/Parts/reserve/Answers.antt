use Rattle.std.proofs.Common.{◌∙◌, ap}
use Rattle.wjs_slots.proofs.Changes.{set_back}
use Rattle.wjs_slots.proofs.Values.{table}
use Rattle.wjs_slots.proofs.parts.Parts.reserve.Goals as goal

pub returns-in-Some : goal.returns-in-Some
returns-in-Some g c =
    let p = c.self.inside in
    ap (λ ms. table p.near.owner p.near.first ms p.far.entries) (set_back p.near.objects.items c.in-Some.place c.reserve.new.self c.index_mut-names.result.now (c.reserve.ensures ∙ c.index_mut-names.ensures.value))
    ∙ (c.self.view_is ∙ c.reach.ensures)
