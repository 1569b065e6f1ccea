use Rattle.std.proofs.Common.{[], ◌∷◌, ◌∙◌, ap, sym}
use Rattle.wjs_base.specs.Order.{name_cmp, name_total}
use Rattle.std.specs.Ordering.{is_gt}
use Rattle.wjs_names.proofs.Shorts.{more_last, more_between, more_before}
use Rattle.wjs_names.proofs.short.three.Goals as goal

pub returns-then-is_before : goal.returns-then-is_before
returns-then-is_before g c = more_last name_total c.args.row.0 c.args.row.1 c.args.first c.args.second c.requires.ordered (ap (λ n. is_gt (name_cmp n c.args.second.0)) (sym c.name.ensures) ∙ sym c.is_before.ensures ∙ c.if-is_before.true)

pub returns-then-is_before-2 : goal.returns-then-is_before-2
returns-then-is_before-2 g c =
    more_between name_total c.args.row.0 c.args.row.1 c.args.first c.args.second
    (ap (λ n. is_gt (name_cmp n c.args.first.0)) (sym c.name-2.ensures) ∙ sym c.is_before-2.ensures ∙ c.if-is_before-2.true)
    (ap (λ n. is_gt (name_cmp n c.args.second.0)) (sym c.name.ensures) ∙ sym c.is_before.ensures ∙ c.if-is_before.false)
    c.requires.none

pub returns : goal.returns
returns g c = more_before name_total c.args.row.0 c.args.row.1 c.args.first (c.args.second ∷ []) (ap (λ n. is_gt (name_cmp n c.args.first.0)) (sym c.name-2.ensures) ∙ sym c.is_before-2.ensures ∙ c.if-is_before-2.false) c.requires.none
