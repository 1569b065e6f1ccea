use Rattle.std.proofs.Common.{◌≡◌, ◌++◌, ◌∷◌, [], ◌+◌, ◌<◌, ◌≤◌, take, length, slice_get, refl, sym, ap, ◌∙◌, subst, arith, length-append}
use Rattle.std.specs.FinMap as map
use Rattle.std.specs.Map.{lookup_key}
use Rattle.std.proofs.lemmas.List.{take_all}
use Rattle.std.proofs.lemmas.Option.{slice_get_within}
use Rattle.wjs_base.specs.Order.{obj_cmp, obj_total}
use Rattle.wjs_base.proofs.Lists.{get_past, take_next}
use Rattle.wjs_rows.specs.Order.{is_from}
use Rattle.wjs_layers.specs.Least.{first_object}
use Rattle.wjs_layers.proofs.Entries.{after_key, from_key, all_objects}
use Rattle.wjs_layers.proofs.maps.ObjectSet.objects.Goals as goal

pub objects-init : goal.objects-init
objects-init g c =
    let e = c.new-all.ensures.items in
    let n : length c.new-all.result.items ≡ 0 = ap length e in
    record {
      all = subst (λ xs. xs ≡ take (length xs) (map.keys c.args.self.now)) (sym e) refl;
      next = c.next_from-next.ensures.least ∙ ap (λ k. lookup_key (is_from obj_cmp k) (map.entries c.args.self.now)) c.least_object.ensures ∙ from_key (is_from obj_cmp first_object) (map.entries c.args.self.now) all_objects ∙ ap (slice_get (map.keys c.args.self.now)) (sym n);
      cost = omega (arith, n, c.next_from-next.ensures.step);
      some = omega (arith, n);
    }

pub returns-in_err-push-clause-steps : goal.returns-in_err-push-clause-steps
returns-in_err-push-clause-steps g c = omega (arith, c.objects.invariant.cost, c.objects.invariant.some)

pub objects-smaller : goal.objects-smaller
objects-smaller g c =
    let s = sym c.objects.invariant.next ∙ c.in-Some.is in
    let l : length c.objects.all.items < length (map.keys c.args.self.now) = slice_get_within (map.keys c.args.self.now) (length c.objects.all.items) c.in-Some.object s in
    let pushed : c.push.new.self.items ≡ c.objects.all.items ++ c.in-Some.object ∷ [] = c.in_ok-push.ensures.items in
    let n : length c.push.new.self.items ≡ length c.objects.all.items + 1 = ap length pushed ∙ length-append c.objects.all.items (c.in-Some.object ∷ []) in
    omega arith

pub objects-preserved : goal.objects-preserved
objects-preserved g c =
    let s = sym c.objects.invariant.next ∙ c.in-Some.is in
    let i = length c.objects.all.items in
    let l : length c.objects.all.items < length (map.keys c.args.self.now) = slice_get_within (map.keys c.args.self.now) i c.in-Some.object s in
    let pushed : c.push.new.self.items ≡ c.objects.all.items ++ c.in-Some.object ∷ [] = c.in_ok-push.ensures.items in
    let n : length c.push.new.self.items ≡ length c.objects.all.items + 1 = ap length pushed ∙ length-append c.objects.all.items (c.in-Some.object ∷ []) in
    record {
      all = pushed ∙ ap (λ xs. xs ++ c.in-Some.object ∷ []) c.objects.invariant.all ∙ sym (take_next (map.keys c.args.self.now) i c.in-Some.object s) ∙ ap (λ m. take m (map.keys c.args.self.now)) (sym n);
      next = c.next_after-next.ensures.least ∙ after_key obj_total c.args.self.now i c.in-Some.object s ∙ ap (slice_get (map.keys c.args.self.now)) (sym n);
      cost = omega (arith, n, c.objects.invariant.cost, c.next_after-next.ensures.step);
      some = omega (arith, n, l);
    }

pub returns-clause-all : goal.returns-clause-all
returns-clause-all g c =
    let l : length (map.keys c.args.self.now) ≤ length c.objects.all.items = get_past (map.keys c.args.self.now) (length c.objects.all.items) (sym c.objects.invariant.next ∙ c.in_default.is) in
    c.objects.invariant.all ∙ take_all (length c.objects.all.items) (map.keys c.args.self.now) l

pub returns-clause-steps : goal.returns-clause-steps
returns-clause-steps g c = omega (arith, c.objects.invariant.cost, c.objects.invariant.some)
