use Rattle.std.proofs.Common.{◌∙◌, ap, sym, not, is_some, subst}
use Rattle.std.specs.FinMap as map
use Rattle.std.proofs.lemmas.Result.{on_ok_weaker}
use Rattle.wjs_base.specs.Order.{name_cmp, name_total}
use Rattle.wjs_names.specs.Kept.{rows_of}
use Rattle.wjs_names.specs.Lists.{IsInOrder}
use Rattle.wjs_names.proofs.Basics.{by_result, if_ok}
use Rattle.wjs_names.proofs.Sorted.{sorted_put, set_sorted}
use Rattle.wjs_names.proofs.by_name.RowsByName.set.Goals as goal

pub invariant_of-self : goal.invariant_of-self
invariant_of-self g c = by_result c.set.result
    (λ e. sorted_put name_total (rows_of c.self.inside.kept) (rows_of c.set.new.self) c.args.name c.args.value c.self.invariant e)
    (λ e. subst (IsInOrder name_cmp) (sym e) c.self.invariant)
    c.set.ensures.ok c.set.ensures.err

pub returns-clause-ok : goal.returns-clause-ok
returns-clause-ok g c = on_ok_weaker c.set.result (λ e.
    set_sorted name_total (rows_of c.self.inside.kept) (rows_of c.set.new.self) c.args.name c.args.value c.self.invariant e
    ∙ ap (λ m. map.insert m c.args.name c.args.value) c.self.view_is) c.set.ensures.ok

pub returns-clause-added : goal.returns-clause-added
returns-clause-added g c = if_ok c.set.result (λ added e.
    e ∙ ap (λ o. not (is_some o)) (sym (map.get-from_sorted name_cmp (rows_of c.self.inside.kept) c.args.name c.self.invariant) ∙ ap (λ m. map.get m c.args.name) c.self.view_is)) c.set.ensures.added
