use Rattle.std.proofs.Common.{sym, ap, ◌∙◌}
use Rattle.std.specs.Option.{option_map, option_and_then}
use Rattle.std.specs.FinMap as map
use Rattle.wjs_layers.specs.Shorts.{row_first, at_first}
use Rattle.wjs_layers.specs.Sparse.{now_of}
use Rattle.wjs_layers.proofs.Tables.{rows_get}
use Rattle.wjs_layers.proofs.Shapes.{rows_first}
use Rattle.wjs_layers.proofs.layer.Layer.get_first.Goals as goal

pub returns-clause-content : goal.returns-clause-content
returns-clause-content g c = c.content_with.ensures ∙ ap (λ o. option_and_then now_of (option_map row_first o)) c.get.ensures.row ∙ ap (option_and_then now_of) (sym (rows_get at_first c.in-First.values c.args.slot) ∙ ap (λ m. map.get m c.args.slot) (rows_first c.self.inside c.args.self.now c.self.view_is c.in-First.values c.in-First.is))
