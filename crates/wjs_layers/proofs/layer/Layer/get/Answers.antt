use Rattle.std.proofs.Common.{sym, ap, ◌∙◌}
use Rattle.std.specs.Option.{option_map}
use Rattle.std.specs.FinMap as map
use Rattle.wjs_layers.specs.Shorts.{row_first, at_first}
use Rattle.wjs_layers.proofs.Tables.{rows_get}
use Rattle.wjs_layers.proofs.Shapes.{rows_first, rows_under}
use Rattle.wjs_layers.proofs.layer.Layer.get.Goals as goal

pub returns-in-First-clause-row : goal.returns-in-First-clause-row
returns-in-First-clause-row g c = c.with_row.ensures ∙ ap (option_map row_first) c.get.ensures.row ∙ sym (rows_get at_first c.in-First.values c.args.slot) ∙ ap (λ m. map.get m c.args.slot) (rows_first c.self.inside c.args.self.now c.self.view_is c.in-First.values c.in-First.is)

pub returns-in-Under-clause-row : goal.returns-in-Under-clause-row
returns-in-Under-clause-row g c = c.get-in-Under.ensures.row ∙ ap (λ m. map.get m c.args.slot) (rows_under c.self.inside c.args.self.now c.self.view_is _ c.in-Under.rows c.in-Under.is)
