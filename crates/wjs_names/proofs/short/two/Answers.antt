use Rattle.std.proofs.Common.{[], ◌∙◌, ap, sym}
use Rattle.wjs_base.specs.Order.{name_cmp, name_total}
use Rattle.std.specs.Ordering.{is_gt}
use Rattle.wjs_names.proofs.Shorts.{more_behind, more_before}
use Rattle.wjs_names.proofs.short.two.Goals as goal

pub returns-then-is_before : goal.returns-then-is_before
returns-then-is_before g c = more_behind name_total c.args.row.0 c.args.row.1 c.args.first (ap (λ n. is_gt (name_cmp n c.args.first.0)) (sym c.name.ensures) ∙ sym c.is_before.ensures ∙ c.if-is_before.true)

pub returns-else-is_before : goal.returns-else-is_before
returns-else-is_before g c = more_before name_total c.args.row.0 c.args.row.1 c.args.first [] (ap (λ n. is_gt (name_cmp n c.args.first.0)) (sym c.name.ensures) ∙ sym c.is_before.ensures ∙ c.if-is_before.false) c.requires
