use Rattle.std.proofs.Common.{◌∙◌, ap, sym}
use Rattle.std.specs.FinMap as map
use Rattle.std.specs.Map.{lookup_entry}
use Rattle.wjs_names.specs.Least.{comes_past}
use Rattle.wjs_names.proofs.Walks.{all_come}
use Rattle.wjs_names.proofs.by_name.RowsByName.next_past.Goals as goal

pub returns-in-None : goal.returns-in-None
returns-in-None g c =
    c.next_from.ensures
    ∙ ap (λ p. lookup_entry p (map.entries c.args.self.now)) all_come
    ∙ ap (λ o. lookup_entry (comes_past o) (map.entries c.args.self.now)) (sym c.in-None.is)

pub returns-in-Some : goal.returns-in-Some
returns-in-Some g c = c.next_after.ensures ∙ ap (λ o. lookup_entry (comes_past o) (map.entries c.args.self.now)) (sym c.in-Some.is)
