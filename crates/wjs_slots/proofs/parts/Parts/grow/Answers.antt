use Rattle.std.proofs.Common.{◌≡◌, ◌≤◌, ◌+◌, ◌∙◌, ◌-◌, true, None, ap, sym, refl, subst, length}
use Rattle.std.specs.FinMap.{find}
use Rattle.std.specs.Ordering.{is_le}
use Rattle.wjs_base.specs.declared.values.Slot.{Slot}
use Rattle.wjs_base.specs.Order.{obj_cmp, slot_cmp}
use Rattle.wjs_slots.specs.Near.{IsSplit}
use Rattle.wjs_slots.proofs.Changes.{grown}
use Rattle.wjs_slots.proofs.Halves.{split_grown}
use Rattle.wjs_slots.proofs.Values.{table}
use Rattle.wjs_slots.proofs.parts.Parts.grow.Goals as goal

pub returns : goal.returns
returns g c =
    let near = c.self.inside.near in
    let far = c.self.inside.far.entries in
    let r = c.reach.new.self in
    ap (λ o. table o r.first r.objects.items far) c.reach.ensures.owner
    ∙ ap (λ f. table near.owner f r.objects.items far) c.reach.ensures.first
    ∙ ap (λ ms. table near.owner near.first ms far) c.reach.ensures.same
    ∙ grown near.owner near.first (length r.objects.items - length near.objects.items) near.objects.items far
    ∙ c.self.view_is

pub invariant_of-self : goal.invariant_of-self
invariant_of-self g c =
    let near = c.self.inside.near in
    let far = c.self.inside.far.entries in
    let r = c.reach.new.self in
    subst (λ o. IsSplit o r.first (length r.objects.items) far) (sym c.reach.ensures.owner)
    (subst (λ f. IsSplit near.owner f (length r.objects.items) far) (sym c.reach.ensures.first)
    (split_grown near.owner near.first (length near.objects.items) (length r.objects.items) c.args.object far c.self.invariant (c.if-not-is_close.ensures.owner refl) (c.if-not-is_close.ensures.small refl)
    (subst (λ f. f + length r.objects.items ≤ c.args.object.serial + 1) c.reach.ensures.first c.reach.ensures.reach)
    (subst (λ e. (q : Slot) → is_le (obj_cmp e q.object) ≡ true → is_le (obj_cmp q.object c.args.object) ≡ true → find slot_cmp q far ≡ None) c.end.ensures
    (c.has_between.ensures c.if-has_between.false))))
