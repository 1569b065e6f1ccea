use Rattle.std.proofs.Common.{◌∙◌, cond, Some, ap, sym}
use Rattle.std.specs.Map.{lookup_entry}
use Rattle.std.specs.Ordering.{is_le}
use Rattle.wjs_base.specs.Order.{name_cmp}
use Rattle.wjs_rows.specs.Order as order
use Rattle.wjs_names.specs.Kept.{short_rows}
use Rattle.wjs_names.proofs.short.Short.next_from.Goals as goal

pub returns-in-Zero : goal.returns-in-Zero
returns-in-Zero g c = ap (λ s. lookup_entry (order.is_from name_cmp c.args.name) (short_rows s)) (sym c.in-Zero.is)

pub returns-in-One : goal.returns-in-One
returns-in-One g c = c.row_from.ensures ∙ ap (λ s. lookup_entry (order.is_from name_cmp c.args.name) (short_rows s)) (sym c.in-One.is)

pub returns-in-Two : goal.returns-in-Two
returns-in-Two g c =
    let n = c.args.name in
    let a = c.in-Two.first in
    c.row_from-in-Two.ensures
    ∙ ap (cond (is_le (name_cmp n a.0)) (Some a)) c.row_from-behind.ensures
    ∙ ap (λ s. lookup_entry (order.is_from name_cmp n) (short_rows s)) (sym c.in-Two.is)

pub returns-in-Three : goal.returns-in-Three
returns-in-Three g c =
    let n = c.args.name in
    let a = c.in-Three.first in
    let b = c.in-Three.second in
    c.row_from-in-Three.ensures
    ∙ ap (cond (is_le (name_cmp n a.0)) (Some a)) (c.row_from-rest.ensures ∙ ap (cond (is_le (name_cmp n b.0)) (Some b)) c.row_from-last.ensures)
    ∙ ap (λ s. lookup_entry (order.is_from name_cmp n) (short_rows s)) (sym c.in-Three.is)
