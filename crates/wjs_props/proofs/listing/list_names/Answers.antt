use Rattle.std.proofs.Common.{◌∙◌, ◌++◌}
use Rattle.std.specs.FinMap as map
use Rattle.wjs_arena.proofs.Fields.{prototyped, prototyped_is, flags_object}
use Rattle.wjs_heap.specs.Means.{parts}
use Rattle.wjs_props.specs.Listing.{is_in, visits_of}
use Rattle.wjs_props.proofs.Walking.{IsListed, begins, lists_all, all_there, lists_on}
use Rattle.wjs_props.proofs.listing.list_names.Goals as goal

pub up-init : goal.up-init
up-init g c = begins c.args.world c.args.object (parts g.S.WorldStore.meaning c.args.heap.now) c.new-seen.result c.new-visits.result c.requires.heap c.requires.world c.requires.object c.new-seen.ensures.empty c.new-visits.ensures

pub returns-in-None-clause-lists : goal.returns-in-None-clause-lists
returns-in-None-clause-lists g c =
    let p = parts g.S.WorldStore.meaning in
    let listed : IsListed c.args.world c.up.at (p c.up.heap) (p c.list.new.heap) (prototyped (map.get c.list.new.heap.arena c.up.at) c.prototype.result) c.in_ok-order.order = record {
      names = c.in_ok-names.names;
      did = c.in_ok-names.ensures.lists;
      there = c.in_ok-names.ensures.names;
      ascends = c.in_ok-names.ensures.ascends;
      moved = c.in_ok-order.ensures.permutation;
      sorted = c.in_ok-order.ensures.sorted;
      object = prototyped_is (map.get c.list.new.heap.arena c.up.at) c.prototype.result c.prototype.ensures.prototype;
    } in
    lists_all c.args.world c.args.object (p c.args.heap.now) (p c.up.heap) (p c.list.new.heap) c.up.at c.up.seen c.up.visits c.up.invariant (prototyped (map.get c.list.new.heap.arena c.up.at) c.prototype.result) c.in_ok-order.order listed c.visit_names.new.visits (c.in_ok-visit_names.ensures ∙ (λ i. c.up.visits ++ visits_of c.up.at (λ n. (flags_object (map.get c.list.new.heap.arena c.up.at) n i).hidden) (is_in c.up.seen) c.in_ok-order.order)) c.in-None.is

pub returns-in-None-clause-there : goal.returns-in-None-clause-there
returns-in-None-clause-there g c =
    let p = parts g.S.WorldStore.meaning in
    let listed : IsListed c.args.world c.up.at (p c.up.heap) (p c.list.new.heap) (prototyped (map.get c.list.new.heap.arena c.up.at) c.prototype.result) c.in_ok-order.order = record {
      names = c.in_ok-names.names;
      did = c.in_ok-names.ensures.lists;
      there = c.in_ok-names.ensures.names;
      ascends = c.in_ok-names.ensures.ascends;
      moved = c.in_ok-order.ensures.permutation;
      sorted = c.in_ok-order.ensures.sorted;
      object = prototyped_is (map.get c.list.new.heap.arena c.up.at) c.prototype.result c.prototype.ensures.prototype;
    } in
    all_there c.args.world c.args.object (p c.args.heap.now) (p c.up.heap) (p c.list.new.heap) c.up.at c.up.seen c.up.visits c.up.invariant (prototyped (map.get c.list.new.heap.arena c.up.at) c.prototype.result) c.in_ok-order.order listed c.visit_names.new.visits (c.in_ok-visit_names.ensures ∙ (λ i. c.up.visits ++ visits_of c.up.at (λ n. (flags_object (map.get c.list.new.heap.arena c.up.at) n i).hidden) (is_in c.up.seen) c.in_ok-order.order))

pub up-preserved : goal.up-preserved
up-preserved g c =
    let p = parts g.S.WorldStore.meaning in
    let listed : IsListed c.args.world c.up.at (p c.up.heap) (p c.list.new.heap) (prototyped (map.get c.list.new.heap.arena c.up.at) c.prototype.result) c.in_ok-order.order = record {
      names = c.in_ok-names.names;
      did = c.in_ok-names.ensures.lists;
      there = c.in_ok-names.ensures.names;
      ascends = c.in_ok-names.ensures.ascends;
      moved = c.in_ok-order.ensures.permutation;
      sorted = c.in_ok-order.ensures.sorted;
      object = prototyped_is (map.get c.list.new.heap.arena c.up.at) c.prototype.result c.prototype.ensures.prototype;
    } in
    lists_on c.args.world c.args.object (p c.args.heap.now) (p c.up.heap) (p c.list.new.heap) c.up.at c.up.seen c.up.visits c.up.invariant (prototyped (map.get c.list.new.heap.arena c.up.at) c.prototype.result) c.in_ok-order.order listed c.visit_names.new.visits (c.in_ok-visit_names.ensures ∙ (λ i. c.up.visits ++ visits_of c.up.at (λ n. (flags_object (map.get c.list.new.heap.arena c.up.at) n i).hidden) (is_in c.up.seen) c.in_ok-order.order)) c.in-Some.prototype c.see.new.seen c.in-Some.is c.in_ok-see-in-Some.ensures
