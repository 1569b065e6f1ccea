use Rattle.std.proofs.Common.{◌≡◌, ◌∙◌, [], length, ap, sym, subst, arith}
use Rattle.std.specs.FinMap as map
use Rattle.wjs_base.specs.Order.{name_cmp, name_total}
use Rattle.wjs_base.proofs.Booleans.{by_bool}
use Rattle.wjs_names.specs.Kept.{rows_of}
use Rattle.wjs_names.specs.Lists.{IsInOrder}
use Rattle.wjs_names.specs.Several.{with_rows}
use Rattle.wjs_names.proofs.Filling.{sorted_all, map_all}
use Rattle.wjs_names.proofs.Sorted.{empty_sorted}
use Rattle.wjs_names.proofs.by_name.RowsByName.fill.Goals as goal

pub invariant_of-self : goal.invariant_of-self
invariant_of-self g c = by_bool c.fill.result
    (λ t. subst (IsInOrder name_cmp) (sym (c.fill.ensures.filled t)) (sorted_all name_total c.args.rows.now [] tt))
    (λ f. subst (IsInOrder name_cmp) (sym (c.fill.ensures.same f)) c.self.invariant)

pub returns-clause-filled : goal.returns-clause-filled
returns-clause-filled g c = λ t.
    let rows = c.args.rows.now in
    ap (λ es. map.from_sorted {R = name_cmp} es) (c.fill.ensures.filled t)
    ∙ map_all name_total rows [] tt
    ∙ ap (λ es. with_rows rows (map.from_sorted {R = name_cmp} es)) (sym (c.fill.ensures.none t))
    ∙ ap (with_rows rows) c.self.view_is

pub returns-clause-len : goal.returns-clause-len
returns-clause-len g c = λ t.
    let es = rows_of c.fill.new.self in
    let ordered = subst (IsInOrder name_cmp) (sym (c.fill.ensures.filled t)) (sorted_all name_total c.args.rows.now [] tt) in
    let none : map.len c.args.self.now ≡ 0 = ap map.len (sym c.self.view_is ∙ empty_sorted name_cmp (rows_of c.self.inside.kept) (c.fill.ensures.none t)) ∙ map.len-empty name_cmp _ in
    let all =
    map.len-entries (map.from_sorted {R = name_cmp} es)
    ∙ ap length (map.entries-from_sorted name_cmp es ordered)
    ∙ c.fill.ensures.len t in
    omega (arith, none, all)

pub returns-clause-same : goal.returns-clause-same
returns-clause-same g c = λ f. ap (λ es. map.from_sorted {R = name_cmp} es) (c.fill.ensures.same f) ∙ c.self.view_is
