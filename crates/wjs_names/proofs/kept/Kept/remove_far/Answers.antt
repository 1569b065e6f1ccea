use Rattle.std.proofs.Common.{◌∙◌, is_some, ap, sym}
use Rattle.std.specs.FinMap as map
use Rattle.std.specs.FinMap.Entries.{find}
use Rattle.std.proofs.lemmas.Result.{on_ok_weaker}
use Rattle.wjs_base.specs.Order.{name_cmp, name_total, name_exact}
use Rattle.wjs_names.specs.Kept.{rows_of}
use Rattle.wjs_names.specs.Lists.{without}
use Rattle.wjs_names.proofs.Basics.{if_ok}
use Rattle.wjs_names.proofs.Sorted.{entries_removed}
use Rattle.wjs_names.proofs.kept.Kept.remove_far.Goals as goal

pub returns-in-Many-clause-removed : goal.returns-in-Many-clause-removed
returns-in-Many-clause-removed g c = on_ok_weaker c.remove-in-Many.result (λ e.
    entries_removed name_total name_exact c.deref_mut.result.now c.remove-in-Many.new.self c.args.name e
    ∙ ap (without name_cmp c.args.name) (ap map.entries c.deref_mut.ensures.value ∙ ap rows_of (sym c.in-Many.is))) c.remove-in-Many.ensures.removed

pub returns-in-Many-clause-found : goal.returns-in-Many-clause-found
returns-in-Many-clause-found g c = if_ok c.remove-in-Many.result (λ found e.
    e
    ∙ ap is_some (map.get-entries c.deref_mut.result.now c.args.name)
    ∙ ap (λ es. is_some (find name_cmp c.args.name es)) (ap map.entries c.deref_mut.ensures.value ∙ ap rows_of (sym c.in-Many.is))) c.remove-in-Many.ensures.found
