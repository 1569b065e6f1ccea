use Rattle.std.proofs.Common.{◌∙◌, ap, sym, subst, length}
use Rattle.wjs_slots.specs.Near.{IsSplit}
use Rattle.wjs_slots.proofs.Halves.{settled, split_settled}
use Rattle.wjs_slots.proofs.Values.{table}
use Rattle.wjs_slots.proofs.parts.Parts.settle.Goals as goal

pub returns-in-Some : goal.returns-in-Some
returns-in-Some g c =
    let near = c.self.inside.near in
    let far = c.self.inside.far.entries in
    let s = c.settle.new.self in
    ap (λ ms. table s.owner s.first ms far) c.settle.ensures.objects
    ∙ settled near.owner s.owner near.first s.first near.objects.items far c.settle.ensures.owner c.settle.ensures.first
    ∙ c.self.view_is

pub invariant_of-self : goal.invariant_of-self
invariant_of-self g c =
    let near = c.self.inside.near in
    let far = c.self.inside.far.entries in
    let s = c.settle.new.self in
    subst (λ ms. IsSplit s.owner s.first (length ms) far) (sym c.settle.ensures.objects)
    (split_settled near.owner s.owner near.first s.first (length near.objects.items) far c.settle.ensures.owner c.settle.ensures.first c.settle.ensures.short c.self.invariant)
