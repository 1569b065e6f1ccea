use Rattle.std.proofs.Common.{◌+◌, ◌∷◌, ◌≤◌, ◌∙◌, List, drop, length, ap, sym, arith}
use Rattle.std.proofs.lemmas.List.{drop_more, drop_all}
use Rattle.wjs_base.specs.declared.values.Name.{Name}
use Rattle.wjs_base.specs.declared.values.Value.{Value}
use Rattle.wjs_layers.specs.Several.{first_rows}
use Rattle.wjs_layers.specs.Shorts.{at_first}
use Rattle.wjs_layers.specs.Keyed.{rows_by}
use Rattle.wjs_layers.proofs.values.set_each.Goals as goal

pub loop-row-init : goal.loop-row-init
loop-row-init g c = ap (λ t. first_rows c.args.object c.args.rows.now (rows_by at_first t)) c.reserve.ensures

pub loop-row-preserved : goal.loop-row-preserved
loop-row-preserved g c =
    let rows = c.args.rows.now in
    let i = c.loop-row.row-index in
    let row = c.row-item.result in
    ap (first_rows c.args.object (drop (i + 1) rows)) c.in_ok-set_value.ensures.ok
    ∙ ap (λ (l : List (Name × Value)). first_rows c.args.object l (rows_by at_first c.loop-row.values)) (ap (λ d. d ∷ drop (i + 1) rows) c.row-item.is ∙ sym (drop_more rows i row (omega arith)))
    ∙ c.loop-row.invariant

pub returns : goal.returns
returns g c =
    let rows = c.args.rows.now in
    let i = c.loop-row.row-index in
    let past : length rows ≤ i = omega (arith, c.loop-row-test.false) in
    ap (λ (l : List (Name × Value)). first_rows c.args.object l (rows_by at_first c.loop-row.values)) (sym (drop_all i rows past))
    ∙ c.loop-row.invariant
