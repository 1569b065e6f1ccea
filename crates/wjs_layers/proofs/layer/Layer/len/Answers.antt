use Rattle.std.proofs.Common.{length, sym, ap, ◌∙◌}
use Rattle.std.specs.FinMap as map
use Rattle.wjs_layers.specs.Shorts.{at_first}
use Rattle.wjs_layers.proofs.Tables.{rows_length}
use Rattle.wjs_layers.proofs.Shapes.{rows_first, rows_under}
use Rattle.wjs_layers.proofs.layer.Layer.len.Goals as goal

pub returns-in-First : goal.returns-in-First
returns-in-First c = c.len.ensures ∙ sym (rows_length at_first c.in-First.values) ∙ ap (λ m. length (map.entries m)) (rows_first c.self.inside c.args.self.now c.self.view_is c.in-First.values c.in-First.is)

pub returns-in-Under : goal.returns-in-Under
returns-in-Under c = c.len-in-Under.ensures ∙ ap (λ m. length (map.entries m)) (rows_under c.self.inside c.args.self.now c.self.view_is _ c.in-Under.rows c.in-Under.is)
