use Rattle.std.proofs.Common.{sym, ap, ◌∙◌}
use Rattle.std.specs.FinMap as map
use Rattle.wjs_base.specs.Order.{obj_total}
use Rattle.wjs_base.proofs.Trees.{len_tree}
use Rattle.wjs_layers.proofs.maps.ObjectSet.len.Goals as goal

pub returns : goal.returns
returns c = c.len.ensures.len ∙ sym (len_tree obj_total c.self.inside.rows c.len.ensures.ordered) ∙ ap map.len c.self.view_is
