use Rattle.std.proofs.Common.{ap, ◌∙◌}
use Rattle.std.specs.Map.{lookup_entry}
use Rattle.std.specs.FinMap as map
use Rattle.wjs_base.specs.Order.{slot_cmp}
use Rattle.wjs_rows.specs.Order.{is_from}
use Rattle.wjs_layers.proofs.Shapes.{rows_under}
use Rattle.wjs_layers.proofs.layer.Layer.next_from.Goals as goal

pub returns-clause-least : goal.returns-clause-least
returns-clause-least g c = c.next_from.ensures.least ∙ ap (λ m. lookup_entry (is_from slot_cmp c.args.slot) (map.entries m)) (rows_under c.self.inside c.args.self.now c.self.view_is _ c.in-Under.rows c.in-Under.is)
