use Rattle.std.proofs.Common.{◌∙◌, cond, not, Some, ap, sym}
use Rattle.wjs_base.specs.Order.{name_cmp}
use Rattle.wjs_names.proofs.Shorts.{not_eq, gt_not_lt}
use Rattle.wjs_names.proofs.short.row_after.Goals as goal

pub returns-then-is_before : goal.returns-then-is_before
returns-then-is_before g c = sym (ap (λ b. cond b (Some c.args.row) c.args.behind) (gt_not_lt (name_cmp c.args.name c.args.row.0) (sym c.is_before.ensures ∙ c.if-is_before.true)))

pub returns : goal.returns
returns g c = c.or_behind.ensures ∙ ap (λ b. cond b (Some c.args.row) c.args.behind) (ap not c.is_named-named.ensures ∙ not_eq (name_cmp c.args.name c.args.row.0) (sym c.is_before.ensures ∙ c.if-is_before.false))
