use Rattle.std.proofs.Common.{sym, ap, ◌∙◌, subst, refl, arith, Some, None}
use Rattle.std.proofs.lemmas.Result.{IfOk-weaker}
use Rattle.wjs_layers.specs.Sparse.{full_of}
use Rattle.wjs_layers.specs.Cursor.{IsNextSlot, with_present}
use Rattle.wjs_layers.proofs.Looks.{found_at}
use Rattle.wjs_layers.proofs.Scans.{Found, found_none, found_step, found_all, found_slots, left_lt}
use Rattle.wjs_layers.proofs.layers.present.Goals as goal

pub slots-init : goal.slots-init
slots-init g c = record { on = tt; found = subst (λ m. Found m (full_of c.args.layers.now) c.args.world.world c.args.object None) (sym c.new-found.ensures) (found_none (full_of c.args.layers.now) c.args.world.world c.args.object) }

pub slots-smaller : goal.slots-smaller
slots-smaller g c =
    let n = c.in-Some.ensures.next in
    let slot = c.in-Some.slot in
    omega (arith, left_lt (full_of c.args.layers.now) c.args.world.world c.args.object c.slots.passed slot (n.on slot refl) (n.later slot refl) (n.kept slot refl))

pub slots-preserved : goal.slots-preserved
slots-preserved g c = record {
  on = c.in-Some.ensures.next.on c.in-Some.slot refl;
  found = subst (λ m. Found m (full_of c.args.layers.now) c.args.world.world c.args.object (Some c.in-Some.slot)) (sym (c.in_ok-keep_present.ensures ∙ ap (λ d. with_present c.slots.found d c.in-Some.slot) c.content.ensures.content)) (found_step (full_of c.args.layers.now) c.args.world.world c.args.object c.slots.passed c.in-Some.slot c.in-Some.ensures.next c.slots.found c.slots.invariant.found);
}

pub returns : goal.returns
returns g c =
    let n = subst (IsNextSlot (full_of c.args.layers.now) c.args.world.world c.args.object c.slots.passed) c.in_default.is c.next_slot.ensures.next in
    let x = found_at (full_of c.args.layers.now) c.args.world.world c.args.world.place c.requires.there in
    record { slots = IfOk-weaker c.slots-2.result _ _ (λ all h. h ∙ found_slots (full_of c.args.layers.now) c.args.world.world c.args.object x.0 c.slots.found x.1 (found_all (full_of c.args.layers.now) c.args.world.world c.args.object c.slots.passed c.slots.found n c.slots.invariant.found)) c.slots-2.ensures }
