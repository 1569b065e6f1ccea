use Rattle.std.proofs.Common.{◌∙◌, ap, sym}
use Rattle.std.specs.FinMap as map
use Rattle.wjs_base.specs.Order.{name_cmp}
use Rattle.wjs_names.specs.Kept.{rows_of}
use Rattle.wjs_names.proofs.by_name.RowsByName.get.Goals as goal

pub returns : goal.returns
returns g c = c.get.ensures ∙ sym (map.get-from_sorted name_cmp (rows_of c.self.inside.kept) c.args.name c.self.invariant) ∙ ap (λ m. map.get m c.args.name) c.self.view_is
