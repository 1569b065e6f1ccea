use Rattle.std.proofs.Common.{◌∙◌, ap, sym, not, is_some, Some, subst, length}
use Rattle.std.specs.FinMap as map
use Rattle.std.specs.FinMap.{find}
use Rattle.std.specs.FinMap.Entries.{find-put}
use Rattle.std.proofs.lemmas.Result.{on_ok_weaker, on_err_weaker}
use Rattle.wjs_base.specs.Order.{slot_cmp, slot_total}
use Rattle.wjs_slots.specs.Near.{IsSplit}
use Rattle.wjs_names.proofs.Basics.{by_result, if_ok}
use Rattle.wjs_slots.proofs.Changes.{near_changed, far_changed, far_apart, set_back, inserted}
use Rattle.wjs_slots.proofs.Halves.{name_set}
use Rattle.wjs_names.proofs.Sorted.{sorted_put}
use Rattle.wjs_slots.proofs.Values.{get_near, get_far, table}
use Rattle.wjs_slots.proofs.parts.Parts.set.Goals as goal

pub invariant_of-self-in-None : goal.invariant_of-self-in-None
invariant_of-self-in-None g c =
    let p = c.self.inside in
    let more = c.set-in-None.new.tree.entries in
    by_result {P = IsSplit p.near.owner p.near.first (length p.near.objects.items) more} c.set-in-None.result
    (λ e. record {
      apart = far_apart p.near.owner p.near.first (length p.near.objects.items) p.far.entries more c.args.slot (Some c.args.value) (sym c.in-None.ensures) c.self.invariant.apart
          (λ q. ap (find slot_cmp q) e ∙ find-put slot_cmp slot_total q c.args.slot c.args.value p.far.entries);
      ordered = sorted_put slot_total p.far.entries more c.args.slot c.args.value c.self.invariant.ordered e;
      short = c.self.invariant.short;
    })
    (λ e. subst (λ es. IsSplit p.near.owner p.near.first (length p.near.objects.items) es) (sym e) c.self.invariant)
    c.set-in-None.ensures.ok c.set-in-None.ensures.err

pub returns-in-Some-clause-ok : goal.returns-in-Some-clause-ok
returns-in-Some-clause-ok g c =
    let p = c.self.inside in
    on_ok_weaker c.set.result (λ e.
    inserted (table p.near.owner p.near.first p.near.objects.items p.far.entries) _ c.args.slot c.args.value
    (near_changed p.near.owner p.near.first p.near.objects.items p.far.entries c.args.slot c.in-Some.place c.set.new.self c.index_mut-names.result.now (Some c.args.value) c.self.invariant.apart (sym c.in-Some.ensures)
    (name_set c.index_mut-names.result.now c.set.new.self _ c.args.slot.name c.args.value e c.index_mut-names.ensures.value))
    ∙ ap (λ m. map.insert m c.args.slot c.args.value) (c.self.view_is ∙ c.reach.ensures)) c.set.ensures.ok

pub returns-in-Some-clause-added : goal.returns-in-Some-clause-added
returns-in-Some-clause-added g c =
    let p = c.self.inside in
    if_ok c.set.result (λ added e.
    e ∙ ap (λ o. not (is_some o)) (ap (λ m. map.get m c.args.slot.name) c.index_mut-names.ensures.value
    ∙ sym (get_near p.near.owner p.near.first p.near.objects.items p.far.entries c.args.slot c.in-Some.place c.index_mut-names.result.now c.self.invariant.apart (sym c.in-Some.ensures))
    ∙ ap (λ m. map.get m c.args.slot) (c.self.view_is ∙ c.reach.ensures))) c.set.ensures.added

pub returns-in-None-clause-ok : goal.returns-in-None-clause-ok
returns-in-None-clause-ok g c =
    let p = c.self.inside in
    on_ok_weaker c.set-in-None.result (λ e.
    inserted (table p.near.owner p.near.first p.near.objects.items p.far.entries) _ c.args.slot c.args.value
    (far_changed p.near.owner p.near.first p.near.objects.items p.far.entries c.set-in-None.new.tree.entries c.args.slot (Some c.args.value) (sym c.in-None.ensures)
    (λ q. ap (find slot_cmp q) e ∙ find-put slot_cmp slot_total q c.args.slot c.args.value p.far.entries))
    ∙ ap (λ m. map.insert m c.args.slot c.args.value) (c.self.view_is ∙ c.reach.ensures)) c.set-in-None.ensures.ok

pub returns-in-None-clause-added : goal.returns-in-None-clause-added
returns-in-None-clause-added g c =
    let p = c.self.inside in
    if_ok c.set-in-None.result (λ added e.
    e ∙ ap (λ o. not (is_some o)) (sym (get_far p.near.owner p.near.first p.near.objects.items p.far.entries c.args.slot (sym c.in-None.ensures))
    ∙ ap (λ m. map.get m c.args.slot) (c.self.view_is ∙ c.reach.ensures))) c.set-in-None.ensures.added

pub returns-in-Some-clause-err : goal.returns-in-Some-clause-err
returns-in-Some-clause-err g c =
    let p = c.self.inside in
    on_err_weaker c.set.result (λ e.
    ap (λ ms. table p.near.owner p.near.first ms p.far.entries) (set_back p.near.objects.items c.in-Some.place c.set.new.self c.index_mut-names.result.now (e ∙ c.index_mut-names.ensures.value))
    ∙ (c.self.view_is ∙ c.reach.ensures)) c.set.ensures.err
