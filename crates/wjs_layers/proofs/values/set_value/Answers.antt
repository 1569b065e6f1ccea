use Rattle.std.proofs.Common.{sym, ap, ◌∙◌}
use Rattle.std.proofs.lemmas.Result.{on_ok_weaker}
use Rattle.std.specs.FinMap as map
use Rattle.wjs_store.specs.State.{put}
use Rattle.wjs_layers.specs.Look.{first_row_of}
use Rattle.wjs_layers.specs.Shorts.{at_first}
use Rattle.wjs_layers.specs.Keyed.{rows_by}
use Rattle.wjs_layers.proofs.Packing.{row_present}
use Rattle.wjs_layers.proofs.Tables.{rows_insert, rows_remove}
use Rattle.wjs_layers.proofs.values.set_value.Goals as goal

pub returns-in-Absent-clause-ok : goal.returns-in-Absent-clause-ok
returns-in-Absent-clause-ok g c =
    let rows = rows_by at_first in
    on_ok_weaker c.remove.result (λ e. ap rows e ∙ rows_remove at_first c.args.values.now c.args.slot ∙ ap (λ k. put (rows c.args.values.now) c.args.slot (first_row_of k)) (sym c.in-Absent.is)) c.remove.ensures.removed

pub returns-in-Present-clause-ok : goal.returns-in-Present-clause-ok
returns-in-Present-clause-ok g c =
    let rows = rows_by at_first in
    on_ok_weaker c.set.result (λ e.
    ap rows e
    ∙ rows_insert at_first c.args.values.now c.args.slot c.short_value.result
    ∙ ap (map.insert (rows c.args.values.now) c.args.slot) (row_present c.short_value.result c.in-Present.value c.short_value.ensures.content)
    ∙ ap (λ k. put (rows c.args.values.now) c.args.slot (first_row_of k)) (sym c.in-Present.is)) c.set.ensures.ok
