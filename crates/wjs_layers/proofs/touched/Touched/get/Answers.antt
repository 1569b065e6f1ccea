use Rattle.std.proofs.Common.{sym, ap, ◌∙◌}
use Rattle.std.specs.Option.{option_map}
use Rattle.std.specs.FinMap as map
use Rattle.wjs_layers.specs.Shorts.{row_in}
use Rattle.wjs_layers.proofs.Tables.{rows_get}
use Rattle.wjs_layers.proofs.touched.Touched.get.Goals as goal

pub returns-clause-row : goal.returns-clause-row
returns-clause-row g c =
    let kept = row_in c.self.inside.before in
    c.full_row.ensures ∙ ap (option_map (kept c.args.slot)) c.get.ensures.row ∙ sym (rows_get kept c.self.inside.rows c.args.slot) ∙ ap (λ m. map.get m c.args.slot) c.self.view_is
