use Rattle.std.proofs.Common.{is_some, ap, ◌∙◌}
use Rattle.std.specs.FinMap as map
use Rattle.wjs_names.proofs.Basics.{if_ok}
use Rattle.wjs_layers.proofs.Shapes.{rows_under}
use Rattle.wjs_layers.proofs.layer.Layer.rewrite.Goals as goal

pub returns-clause-found : goal.returns-clause-found
returns-clause-found g c = if_ok c.rewrite.result (λ found e. e ∙ ap (λ m. is_some (map.get m c.args.slot)) (rows_under c.self.inside c.args.self.now c.self.view_is _ c.in-Under.rows c.in-Under.is)) c.rewrite.ensures.found
