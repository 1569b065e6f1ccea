use Rattle.wjs_layers.proofs.Shapes.{clear_shown}
use Rattle.wjs_layers.proofs.layer.Layer.clear.Goals as goal

pub returns : goal.returns
returns c = clear_shown c.self.inside c.args.self.now c.self.view_is c.clear.new.self c.new.result c.clear.ensures.above c.clear.ensures.rows c.new.ensures
