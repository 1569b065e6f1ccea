use Rattle.std.proofs.Common.{◌∙◌, ap, sym, is_some, None}
use Rattle.std.specs.FinMap as map
use Rattle.std.specs.FinMap.{find}
use Rattle.std.proofs.lemmas.Result.{on_ok_weaker, on_err_weaker}
use Rattle.wjs_base.specs.Order.{slot_cmp, slot_total}
use Rattle.wjs_names.proofs.Basics.{if_ok}
use Rattle.wjs_slots.proofs.Changes.{near_changed, far_changed, far_apart, set_back, removed}
use Rattle.wjs_slots.proofs.Halves.{name_removed}
use Rattle.wjs_names.proofs.Sorted.{find_without, sorted_without}
use Rattle.wjs_slots.proofs.Values.{get_near, get_far, table}
use Rattle.wjs_slots.proofs.parts.Parts.remove.Goals as goal

pub returns-in-Some-clause-removed : goal.returns-in-Some-clause-removed
returns-in-Some-clause-removed g c =
    let p = c.self.inside in
    on_ok_weaker c.remove.result (λ e.
    removed (table p.near.owner p.near.first p.near.objects.items p.far.entries) _ c.args.slot
    (near_changed p.near.owner p.near.first p.near.objects.items p.far.entries c.args.slot c.in-Some.place c.remove.new.self c.index_mut-names.result.now None c.self.invariant.apart (sym c.in-Some.ensures)
    (name_removed c.index_mut-names.result.now c.remove.new.self _ c.args.slot.name e c.index_mut-names.ensures.value))
    ∙ ap (λ m. map.remove m c.args.slot) c.self.view_is) c.remove.ensures.removed

pub returns-in-Some-clause-found : goal.returns-in-Some-clause-found
returns-in-Some-clause-found g c =
    let p = c.self.inside in
    if_ok c.remove.result (λ found e.
    e
    ∙ ap is_some (ap (λ m. map.get m c.args.slot.name) c.index_mut-names.ensures.value
    ∙ sym (get_near p.near.owner p.near.first p.near.objects.items p.far.entries c.args.slot c.in-Some.place c.index_mut-names.result.now c.self.invariant.apart (sym c.in-Some.ensures))
    ∙ ap (λ m. map.get m c.args.slot) c.self.view_is)) c.remove.ensures.found

pub returns-in-None-clause-removed : goal.returns-in-None-clause-removed
returns-in-None-clause-removed g c =
    let p = c.self.inside in
    removed (table p.near.owner p.near.first p.near.objects.items p.far.entries) _ c.args.slot
    (far_changed p.near.owner p.near.first p.near.objects.items p.far.entries c.remove-in-None.new.tree.entries c.args.slot None (sym c.in-None.ensures)
    (λ q. ap (find slot_cmp q) c.remove-in-None.ensures.removed ∙ find_without slot_total c.args.slot p.far.entries q))
    ∙ ap (λ m. map.remove m c.args.slot) c.self.view_is

pub returns-in-None-clause-found : goal.returns-in-None-clause-found
returns-in-None-clause-found g c =
    let p = c.self.inside in
    c.remove-in-None.ensures.found
    ∙ ap is_some (sym (get_far p.near.owner p.near.first p.near.objects.items p.far.entries c.args.slot (sym c.in-None.ensures)) ∙ ap (λ m. map.get m c.args.slot) c.self.view_is)

pub invariant_of-self-in-None : goal.invariant_of-self-in-None
invariant_of-self-in-None g c =
    let p = c.self.inside in
    record {
      apart = far_apart p.near.owner p.near.first _ p.far.entries c.remove-in-None.new.tree.entries c.args.slot None (sym c.in-None.ensures) c.self.invariant.apart
          (λ q. ap (find slot_cmp q) c.remove-in-None.ensures.removed ∙ find_without slot_total c.args.slot p.far.entries q);
      ordered = sorted_without slot_total p.far.entries c.remove-in-None.new.tree.entries c.args.slot c.self.invariant.ordered c.remove-in-None.ensures.removed;
      short = c.self.invariant.short;
    }

pub returns-in-Some-clause-err : goal.returns-in-Some-clause-err
returns-in-Some-clause-err g c =
    let p = c.self.inside in
    on_err_weaker c.remove.result (λ e.
    ap (λ ms. table p.near.owner p.near.first ms p.far.entries) (set_back p.near.objects.items c.in-Some.place c.remove.new.self c.index_mut-names.result.now (e ∙ c.index_mut-names.ensures.value))
    ∙ c.self.view_is) c.remove.ensures.err
