use Rattle.std.proofs.Common.{◌≡◌, Option, None, Some, refl, sym, ap, ◌∙◌}
use Rattle.wjs_literals.proofs.Items.{hole_skipped, items_end}
use Rattle.wjs_literals.proofs.arrays.next_among.Goals as goal

none_is : {A : Type 0} (o : Option A) → ((x : A) → o ≡ Some x → ⊥) → o ≡ None
none_is None h = refl
none_is (Some x) h = absurd (h x refl)

pub holes-preserved : goal.holes-preserved
holes-preserved c = λ o env. c.holes.invariant o env ∙ hole_skipped c.args.items.now c.holes.at o env (sym c.in-Some.ensures ∙ ap Some (none_is _ c.in_default-item.not-Some))

pub returns : goal.returns
returns c = λ o env. c.holes.invariant o env ∙ items_end c.args.items.now c.holes.at o env (sym c.item_at.ensures ∙ none_is _ c.in_default.not-Some)
