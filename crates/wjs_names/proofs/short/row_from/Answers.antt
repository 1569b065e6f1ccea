use Rattle.std.proofs.Common.{◌∙◌, cond, not, Some, ap}
use Rattle.wjs_base.specs.Order.{name_cmp}
use Rattle.wjs_names.proofs.Shorts.{not_gt}
use Rattle.wjs_names.proofs.short.row_from.Goals as goal

pub returns : goal.returns
returns g c = c.or_behind.ensures ∙ ap (λ b. cond b (Some c.args.row) c.args.behind) (ap not c.is_before-before.ensures ∙ not_gt (name_cmp c.args.name c.args.row.0))
