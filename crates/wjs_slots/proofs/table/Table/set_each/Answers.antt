use Rattle.std.proofs.Common.{◌+◌, ◌∷◌, ◌≤◌, ◌∙◌, drop, length, ap, sym, refl, arith}
use Rattle.std.proofs.lemmas.List.{drop_more, drop_all}
use Rattle.wjs_slots.specs.Several.{with_rows_on}
use Rattle.wjs_slots.proofs.table.Table.set_each.Goals as goal

pub loop-row-init : goal.loop-row-init
loop-row-init g c = refl

pub loop-row-preserved : goal.loop-row-preserved
loop-row-preserved g c =
    let rows = c.args.rows.now in
    let i = c.loop-row.row-index in
    let row = c.row-item.result in
    ap (with_rows_on c.args.object (drop (i + 1) rows)) c.in_ok-set.ensures.ok
    ∙ ap (λ l. with_rows_on c.args.object l c.loop-row.self) (ap (λ d. d ∷ drop (i + 1) rows) c.row-item.is ∙ sym (drop_more rows i row (omega arith)))
    ∙ c.loop-row.invariant

pub returns : goal.returns
returns g c =
    let rows = c.args.rows.now in
    let i = c.loop-row.row-index in
    let past : length rows ≤ i = omega (arith, c.loop-row-test.false) in
    ap (λ l. with_rows_on c.args.object l c.loop-row.self) (sym (drop_all i rows past))
    ∙ c.loop-row.invariant
