use Rattle.std.proofs.lemmas.Result.{on_ok_weaker}
use Rattle.wjs_layers.proofs.Shapes.{close_shown}
use Rattle.wjs_layers.proofs.layer.Layer.close.Goals as goal

pub returns-clause-ok : goal.returns-clause-ok
returns-clause-ok g c = on_ok_weaker c.insert.result (close_shown c.self.inside c.args.self.now c.self.view_is c.insert.new.self c.args.object) c.insert.ensures.ok
