use Rattle.std.proofs.Common.{◌∙◌, cond, Some, ap}
use Rattle.std.specs.Map.{lookup_entry}
use Rattle.std.specs.Ordering.{is_le}
use Rattle.wjs_base.specs.Order.{name_cmp}
use Rattle.wjs_rows.specs.Order as order
use Rattle.wjs_names.proofs.four.Four.next_from.Goals as goal

pub returns : goal.returns
returns g c =
    let n = c.args.name in
    let rows = c.rows-rows.result in
    c.row_from.ensures
    ∙ ap (cond (is_le (name_cmp n rows.first.0)) (Some rows.first)) (c.row_from-rest.ensures
    ∙ ap (cond (is_le (name_cmp n rows.second.0)) (Some rows.second)) (c.row_from-behind.ensures ∙ ap (cond (is_le (name_cmp n rows.third.0)) (Some rows.third)) c.row_from-last.ensures))
    ∙ ap (lookup_entry (order.is_from name_cmp n)) c.rows-rows.ensures
