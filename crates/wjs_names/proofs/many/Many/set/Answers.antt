use Rattle.std.proofs.Common.{◌≡◌, ◌∙◌, Some, cond, length, length-set, not, is_some, ap, sym, subst}
use Rattle.std.specs.Ordering.{eq_by_cmp}
use Rattle.std.specs.FinMap as map
use Rattle.std.specs.FinMap.{find}
use Rattle.std.specs.FinMap.Entries.{find-put}
use Rattle.std.proofs.lemmas.Result.{on_ok_weaker}
use Rattle.wjs_base.specs.declared.values.Name.TheVariants.{Index}
use Rattle.wjs_base.specs.Order.{name_cmp, name_total}
use Rattle.wjs_names.specs.Dense.{index_in, dense_value, IsBeside}
use Rattle.wjs_names.proofs.Basics.{by_result, if_ok}
use Rattle.wjs_names.proofs.Dense.{all, get_index, get_rest, placed, place_changed, held_changed, rest_changed, dense_pushed, rest_beside, inserted}
use Rattle.wjs_names.proofs.Sorted.{sorted_put}
use Rattle.wjs_names.proofs.many.Many.set.Goals as goal

pub set-requires : goal.set-requires
set-requires g c =
    let m = c.self.inside in
    (placed (length m.dense) c.args.name c.in-Some.place (sym (c.in-Some.ensures ∙ ap (λ k. index_in k c.args.name) c.len.ensures))).below

pub invariant_of-self : goal.invariant_of-self
invariant_of-self g c =
    let m = c.self.inside in
    by_result {P = IsBeside (length c.set.new.self) m.rest.entries} c.set.result
    (λ e. subst (λ k. IsBeside k m.rest.entries) (sym (ap length e ∙ length-set m.dense c.in-Some.place (Some c.args.value))) c.self.invariant)
    (λ e. subst (λ k. IsBeside k m.rest.entries) (sym (ap length e)) c.self.invariant)
    c.set.ensures.ok c.set.ensures.err

pub returns-in_ok-added-in-Some-clause-ok : goal.returns-in_ok-added-in-Some-clause-ok
returns-in_ok-added-in-Some-clause-ok g c =
    let m = c.self.inside in
    let n : c.len.result ≡ length m.dense = c.len.ensures in
    inserted (all m.dense m.rest.entries) _ c.args.name c.args.value
    (place_changed m.dense c.set.new.self m.rest.entries c.args.name c.in-Some.place (Some c.args.value) c.self.invariant (sym (c.in-Some.ensures ∙ ap (λ k. index_in k c.args.name) n)) (λ q. ap (λ dense. dense_value dense q) c.in_ok-added-in-Some.ensures.ok))
    ∙ ap (λ x. map.insert x c.args.name c.args.value) c.self.view_is

pub returns-in_ok-added-in-Some-clause-added : goal.returns-in_ok-added-in-Some-clause-added
returns-in_ok-added-in-Some-clause-added g c =
    let m = c.self.inside in
    let n : c.len.result ≡ length m.dense = c.len.ensures in
    c.in_ok-added-in-Some.ensures.added
    ∙ ap (λ o. not (is_some o)) (sym (get_index m.dense m.rest.entries c.args.name c.in-Some.place c.self.invariant (sym (c.in-Some.ensures ∙ ap (λ k. index_in k c.args.name) n))))
    ∙ ap (λ x. not (is_some (map.get x c.args.name))) c.self.view_is

pub returns-then-goes_next-clause-ok : goal.returns-then-goes_next-clause-ok
returns-then-goes_next-clause-ok g c =
    let m = c.self.inside in
    let n : c.len-then-not-is_hollow.result ≡ length m.dense = c.len-then-not-is_hollow.ensures in
    let is = c.goes_next.ensures.next c.if-goes_next.true ∙ ap Index n in
    on_ok_weaker c.push.result (λ e.
    inserted (all m.dense m.rest.entries) _ c.args.name c.args.value
    (held_changed m.dense c.push.new.self m.rest.entries c.args.name (Some c.args.value) (c.goes_next.ensures.none c.if-goes_next.true)
    (λ q. ap (λ dense. dense_value dense q) e ∙ dense_pushed m.dense (Some c.args.value) q ∙ ap (λ k. cond (eq_by_cmp name_cmp q k) (Some c.args.value) (dense_value m.dense q)) (sym is)))
    ∙ ap (λ x. map.insert x c.args.name c.args.value) c.self.view_is) c.push.ensures.ok

pub returns-then-goes_next-clause-added : goal.returns-then-goes_next-clause-added
returns-then-goes_next-clause-added g c =
    let m = c.self.inside in
    let n : c.len.result ≡ length m.dense = c.len.ensures in
    if_ok c.push.result (λ added e.
    e ∙ sym (ap (λ o. not (is_some o)) (ap (λ x. map.get x c.args.name) (sym c.self.view_is)
    ∙ get_rest m.dense m.rest.entries c.args.name (sym (c.in-None.ensures ∙ ap (λ k. index_in k c.args.name) n))
    ∙ c.goes_next.ensures.none c.if-goes_next.true))) c.push.ensures.added

pub invariant_of-self-in-None : goal.invariant_of-self-in-None
invariant_of-self-in-None g c =
    let m = c.self.inside in
    let n : c.len.result ≡ length m.dense = c.len.ensures in
    let more = c.set-in-None.new.tree.entries in
    by_result {P = IsBeside (length m.dense) more} c.set-in-None.result
    (λ e. rest_beside (length m.dense) m.rest.entries more c.args.name (Some c.args.value) c.self.invariant (sym (c.in-None.ensures ∙ ap (λ k. index_in k c.args.name) n))
    (λ q. ap (find name_cmp q) e ∙ find-put name_cmp name_total q c.args.name c.args.value m.rest.entries)
    (sorted_put name_total m.rest.entries more c.args.name c.args.value c.self.invariant.ordered e))
    (λ e. subst (λ es. IsBeside (length m.dense) es) (sym e) c.self.invariant)
    c.set-in-None.ensures.ok c.set-in-None.ensures.err

pub returns-else-not-is_hollow-clause-ok : goal.returns-else-not-is_hollow-clause-ok
returns-else-not-is_hollow-clause-ok g c =
    let m = c.self.inside in
    let n : c.len.result ≡ length m.dense = c.len.ensures in
    on_ok_weaker c.set-in-None.result (λ e.
    inserted (all m.dense m.rest.entries) _ c.args.name c.args.value
    (rest_changed m.dense m.rest.entries c.set-in-None.new.tree.entries c.args.name (Some c.args.value) (sym (c.in-None.ensures ∙ ap (λ k. index_in k c.args.name) n))
    (λ q. ap (find name_cmp q) e ∙ find-put name_cmp name_total q c.args.name c.args.value m.rest.entries))
    ∙ ap (λ x. map.insert x c.args.name c.args.value) c.self.view_is) c.set-in-None.ensures.ok

pub returns-else-not-is_hollow-clause-added : goal.returns-else-not-is_hollow-clause-added
returns-else-not-is_hollow-clause-added g c =
    let m = c.self.inside in
    let n : c.len.result ≡ length m.dense = c.len.ensures in
    if_ok c.set-in-None.result (λ added e.
    e ∙ ap (λ o. not (is_some o)) (sym (get_rest m.dense m.rest.entries c.args.name (sym (c.in-None.ensures ∙ ap (λ k. index_in k c.args.name) n)))
    ∙ ap (λ x. map.get x c.args.name) c.self.view_is)) c.set-in-None.ensures.added
