use Rattle.std.proofs.Common.{sym, ◌∙◌, arith, Some, None}
use Rattle.wjs_base.specs.Order.{slot_total, slot_exact}
use Rattle.wjs_layers.specs.Cursor.{to_come}
use Rattle.wjs_overlay.proofs.Keyed.{found_is}
use Rattle.wjs_overlay.proofs.Written.{passed_none, written_found, written_next, written_end, fewer_rows}
use Rattle.wjs_overlay.proofs.marks.next_marked.Goals as goal

pub rows-init : goal.rows-init
rows-init g c = passed_none c.args.layer.now.rows c.args.after

pub returns-then-row : goal.returns-then-row
returns-then-row g c =
    let f = found_is slot_total slot_exact c.args.layer.now.rows (to_come c.rows.passed) (Some (c.in-Some.slot, c.in-Some.row)) c.in-Some.ensures in
    written_found c.args.layer.now.rows c.args.after c.rows.passed c.rows.invariant c.in-Some.slot c.in-Some.row f c.if-row.true

pub rows-smaller : goal.rows-smaller
rows-smaller g c =
    let f = found_is slot_total slot_exact c.args.layer.now.rows (to_come c.rows.passed) (Some (c.in-Some.slot, c.in-Some.row)) c.in-Some.ensures in
    let less = fewer_rows c.args.layer.now.rows c.rows.passed c.in-Some.slot c.in-Some.row f in
    omega (arith, less)

pub rows-preserved : goal.rows-preserved
rows-preserved g c =
    let f = found_is slot_total slot_exact c.args.layer.now.rows (to_come c.rows.passed) (Some (c.in-Some.slot, c.in-Some.row)) c.in-Some.ensures in
    written_next c.args.layer.now.rows c.args.after c.rows.passed c.rows.invariant c.in-Some.slot c.in-Some.row f c.if-row.false

pub returns : goal.returns
returns g c = written_end c.args.layer.now.rows c.args.after c.rows.passed c.rows.invariant (found_is slot_total slot_exact c.args.layer.now.rows (to_come c.rows.passed) None (sym c.in_default.is ∙ c.row_after.ensures))
