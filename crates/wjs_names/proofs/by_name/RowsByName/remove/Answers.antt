use Rattle.std.proofs.Common.{◌∙◌, ap, sym, is_some, subst}
use Rattle.std.specs.FinMap as map
use Rattle.std.proofs.lemmas.Result.{on_ok_weaker}
use Rattle.wjs_base.specs.Order.{name_cmp, name_total, name_exact}
use Rattle.wjs_names.specs.Kept.{rows_of}
use Rattle.wjs_names.specs.Lists.{IsInOrder}
use Rattle.wjs_names.proofs.Basics.{by_result, if_ok}
use Rattle.wjs_names.proofs.Sorted.{sorted_without, remove_sorted}
use Rattle.wjs_names.proofs.by_name.RowsByName.remove.Goals as goal

pub invariant_of-self : goal.invariant_of-self
invariant_of-self g c = by_result c.remove.result
    (λ e. sorted_without name_total (rows_of c.self.inside.kept) (rows_of c.remove.new.self) c.args.name c.self.invariant e)
    (λ e. subst (IsInOrder name_cmp) (sym e) c.self.invariant)
    c.remove.ensures.removed c.remove.ensures.err

pub returns-clause-removed : goal.returns-clause-removed
returns-clause-removed g c = on_ok_weaker c.remove.result (λ e.
    remove_sorted name_total name_exact (rows_of c.self.inside.kept) (rows_of c.remove.new.self) c.args.name c.self.invariant e
    ∙ ap (λ m. map.remove m c.args.name) c.self.view_is) c.remove.ensures.removed

pub returns-clause-found : goal.returns-clause-found
returns-clause-found g c = if_ok c.remove.result (λ found e.
    e ∙ ap is_some (sym (map.get-from_sorted name_cmp (rows_of c.self.inside.kept) c.args.name c.self.invariant) ∙ ap (λ m. map.get m c.args.name) c.self.view_is)) c.remove.ensures.found
