use Rattle.std.proofs.Common.{◌≡◌, ◌∙◌, None, length, is_some, ap, sym}
use Rattle.std.specs.FinMap as map
use Rattle.std.specs.FinMap.{find}
use Rattle.wjs_base.specs.Order.{name_cmp, name_total}
use Rattle.wjs_names.specs.Dense.{index_in}
use Rattle.wjs_names.proofs.Dense.{all, placed, get_index, get_rest, place_changed, rest_changed, rest_beside, fewer_beside, removed}
use Rattle.wjs_names.proofs.Sorted.{find_without, sorted_without}
use Rattle.wjs_names.proofs.many.Many.remove.Goals as goal

pub take-requires : goal.take-requires
take-requires g c =
    let m = c.self.inside in
    (placed (length m.dense) c.args.name c.in-Some.place (sym (c.in-Some.ensures ∙ ap (λ k. index_in k c.args.name) c.len.ensures))).below

pub invariant_of-self : goal.invariant_of-self
invariant_of-self g c =
    let m = c.self.inside in
    fewer_beside (length m.dense) (length c.take.new.self) m.rest.entries c.self.invariant c.take.ensures.len

pub returns-in_ok-found-in-Some-clause-removed : goal.returns-in_ok-found-in-Some-clause-removed
returns-in_ok-found-in-Some-clause-removed g c =
    let m = c.self.inside in
    removed (all m.dense m.rest.entries) _ c.args.name
    (place_changed m.dense c.take.new.self m.rest.entries c.args.name c.in-Some.place None c.self.invariant (sym (c.in-Some.ensures ∙ ap (λ k. index_in k c.args.name) c.len.ensures)) c.in_ok-found-in-Some.ensures.values)
    ∙ ap (λ x. map.remove x c.args.name) c.self.view_is

pub returns-in_ok-found-in-Some-clause-found : goal.returns-in_ok-found-in-Some-clause-found
returns-in_ok-found-in-Some-clause-found g c =
    let m = c.self.inside in
    c.in_ok-found-in-Some.ensures.found
    ∙ ap is_some (sym (get_index m.dense m.rest.entries c.args.name c.in-Some.place c.self.invariant (sym (c.in-Some.ensures ∙ ap (λ k. index_in k c.args.name) c.len.ensures))))
    ∙ ap (λ x. is_some (map.get x c.args.name)) c.self.view_is

pub invariant_of-self-in-None : goal.invariant_of-self-in-None
invariant_of-self-in-None g c =
    let m = c.self.inside in
    let n : c.len.result ≡ length m.dense = c.len.ensures in
    rest_beside (length m.dense) m.rest.entries c.remove.new.tree.entries c.args.name None c.self.invariant (sym (c.in-None.ensures ∙ ap (λ k. index_in k c.args.name) n))
    (λ q. ap (find name_cmp q) c.remove.ensures.removed ∙ find_without name_total c.args.name m.rest.entries q)
    (sorted_without name_total m.rest.entries c.remove.new.tree.entries c.args.name c.self.invariant.ordered c.remove.ensures.removed)

pub returns-in-None-clause-removed : goal.returns-in-None-clause-removed
returns-in-None-clause-removed g c =
    let m = c.self.inside in
    let n : c.len.result ≡ length m.dense = c.len.ensures in
    removed (all m.dense m.rest.entries) _ c.args.name
    (rest_changed m.dense m.rest.entries c.remove.new.tree.entries c.args.name None (sym (c.in-None.ensures ∙ ap (λ k. index_in k c.args.name) n))
    (λ q. ap (find name_cmp q) c.remove.ensures.removed ∙ find_without name_total c.args.name m.rest.entries q))
    ∙ ap (λ x. map.remove x c.args.name) c.self.view_is

pub returns-in-None-clause-found : goal.returns-in-None-clause-found
returns-in-None-clause-found g c =
    let m = c.self.inside in
    let n : c.len.result ≡ length m.dense = c.len.ensures in
    c.remove.ensures.found
    ∙ ap is_some (sym (get_rest m.dense m.rest.entries c.args.name (sym (c.in-None.ensures ∙ ap (λ k. index_in k c.args.name) n))) ∙ ap (λ x. map.get x c.args.name) c.self.view_is)
