use Rattle.std.proofs.Common.{[], ◌∷◌, ◌∙◌, ap, sym}
use Rattle.std.specs.Ordering.{is_gt}
use Rattle.wjs_base.specs.Order.{name_cmp, name_total}
use Rattle.wjs_names.proofs.Shorts.{if_some, fourth_last, fourth_third, fourth_second, more_before}
use Rattle.wjs_names.proofs.four.Four.new.Goals as goal

pub returns-then-is_before : goal.returns-then-is_before
returns-then-is_before g c =
    if_some c.of_rows.result (λ four e. e
    ∙ fourth_last name_total c.args.row.0 c.args.row.1 c.args.first c.args.second c.args.third c.requires.ordered
    (ap (λ n. is_gt (name_cmp n c.args.third.0)) (sym c.name.ensures) ∙ sym c.is_before.ensures ∙ c.if-is_before.true)) c.of_rows.ensures

pub returns-then-is_before-2 : goal.returns-then-is_before-2
returns-then-is_before-2 g c =
    if_some c.of_rows-then-is_before-2.result (λ four e. e
    ∙ fourth_third name_total c.args.row.0 c.args.row.1 c.args.first c.args.second c.args.third c.requires.ordered
    (ap (λ n. is_gt (name_cmp n c.args.second.0)) (sym c.name-2.ensures) ∙ sym c.is_before-2.ensures ∙ c.if-is_before-2.true)
    (ap (λ n. is_gt (name_cmp n c.args.third.0)) (sym c.name.ensures) ∙ sym c.is_before.ensures ∙ c.if-is_before.false)
    c.requires.none) c.of_rows-then-is_before-2.ensures

pub returns-then-is_before-3 : goal.returns-then-is_before-3
returns-then-is_before-3 g c =
    if_some c.of_rows-then-is_before-3.result (λ four e. e
    ∙ fourth_second name_total c.args.row.0 c.args.row.1 c.args.first c.args.second c.args.third
    (ap (λ n. is_gt (name_cmp n c.args.first.0)) (sym c.name-3.ensures) ∙ sym c.is_before-3.ensures ∙ c.if-is_before-3.true)
    (ap (λ n. is_gt (name_cmp n c.args.second.0)) (sym c.name-2.ensures) ∙ sym c.is_before-2.ensures ∙ c.if-is_before-2.false)
    c.requires.none) c.of_rows-then-is_before-3.ensures

pub returns : goal.returns
returns g c =
    if_some c.of_rows-2.result (λ four e. e
    ∙ more_before name_total c.args.row.0 c.args.row.1 c.args.first (c.args.second ∷ c.args.third ∷ [])
    (ap (λ n. is_gt (name_cmp n c.args.first.0)) (sym c.name-3.ensures) ∙ sym c.is_before-3.ensures ∙ c.if-is_before-3.false)
    c.requires.none) c.of_rows-2.ensures
