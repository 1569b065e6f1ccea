use Rattle.std.proofs.Common.{◌≡◌, ◌++◌, ◌∷◌, [], ◌+◌, ◌<◌, ◌≤◌, take, length, slice_get, refl, sym, ap, ◌∙◌, subst, arith, length-append}
use Rattle.std.specs.FinMap as map
use Rattle.std.specs.Map.{lookup_entry}
use Rattle.std.proofs.lemmas.List.{take_all}
use Rattle.std.proofs.lemmas.Option.{slice_get_within}
use Rattle.wjs_base.specs.Order.{slot_cmp, slot_total}
use Rattle.wjs_base.proofs.Lists.{get_past, take_next}
use Rattle.wjs_rows.specs.Order.{is_from}
use Rattle.wjs_slots.specs.Least.{first_slot}
use Rattle.wjs_layers.proofs.Entries.{after_is, from_is, all_slots}
use Rattle.wjs_layers.proofs.layer.Layer.entries.Goals as goal

pub rows-init : goal.rows-init
rows-init g c =
    let e = c.new-all.ensures.items in
    let n : length c.new-all.result.items ≡ 0 = ap length e in
    record {
      all = subst (λ xs. xs ≡ take (length xs) (map.entries c.args.self.now.rows)) (sym e) refl;
      next = c.next_from-next.ensures.least ∙ ap (λ k. lookup_entry (is_from slot_cmp k) (map.entries c.args.self.now.rows)) c.least_slot.ensures ∙ from_is (is_from slot_cmp first_slot) (map.entries c.args.self.now.rows) all_slots ∙ ap (slice_get (map.entries c.args.self.now.rows)) (sym n);
      cost = omega (arith, n, c.next_from-next.ensures.step);
      some = omega (arith, n);
    }

pub returns-in_err-push-clause-steps : goal.returns-in_err-push-clause-steps
returns-in_err-push-clause-steps g c = omega (arith, c.rows.invariant.cost, c.rows.invariant.some)

pub rows-smaller : goal.rows-smaller
rows-smaller g c =
    let s = sym c.rows.invariant.next ∙ c.in-Some.is in
    let l : length c.rows.all.items < length (map.entries c.args.self.now.rows) = slice_get_within (map.entries c.args.self.now.rows) (length c.rows.all.items) c.in-Some.row s in
    let pushed : c.push.new.self.items ≡ c.rows.all.items ++ c.in-Some.row ∷ [] = c.in_ok-push.ensures.items in
    let n : length c.push.new.self.items ≡ length c.rows.all.items + 1 = ap length pushed ∙ length-append c.rows.all.items (c.in-Some.row ∷ []) in
    omega arith

pub rows-preserved : goal.rows-preserved
rows-preserved g c =
    let s = sym c.rows.invariant.next ∙ c.in-Some.is in
    let i = length c.rows.all.items in
    let l : length c.rows.all.items < length (map.entries c.args.self.now.rows) = slice_get_within (map.entries c.args.self.now.rows) i c.in-Some.row s in
    let pushed : c.push.new.self.items ≡ c.rows.all.items ++ c.in-Some.row ∷ [] = c.in_ok-push.ensures.items in
    let n : length c.push.new.self.items ≡ length c.rows.all.items + 1 = ap length pushed ∙ length-append c.rows.all.items (c.in-Some.row ∷ []) in
    record {
      all = pushed ∙ ap (λ xs. xs ++ c.in-Some.row ∷ []) c.rows.invariant.all ∙ sym (take_next (map.entries c.args.self.now.rows) i c.in-Some.row s) ∙ ap (λ m. take m (map.entries c.args.self.now.rows)) (sym n);
      next = c.next_after-next.ensures.least ∙ after_is slot_total c.args.self.now.rows i c.in-Some.row s ∙ ap (slice_get (map.entries c.args.self.now.rows)) (sym n);
      cost = omega (arith, n, c.rows.invariant.cost, c.next_after-next.ensures.step);
      some = omega (arith, n, l);
    }

pub returns-clause-all : goal.returns-clause-all
returns-clause-all g c =
    let l : length (map.entries c.args.self.now.rows) ≤ length c.rows.all.items = get_past (map.entries c.args.self.now.rows) (length c.rows.all.items) (sym c.rows.invariant.next ∙ c.in_default.is) in
    c.rows.invariant.all ∙ take_all (length c.rows.all.items) (map.entries c.args.self.now.rows) l

pub returns-clause-steps : goal.returns-clause-steps
returns-clause-steps g c = omega (arith, c.rows.invariant.cost, c.rows.invariant.some)
