use Rattle.std.proofs.Common.{sym, ap, ◌∙◌, is_some}
use Rattle.std.specs.FinMap as map
use Rattle.wjs_base.specs.Order.{obj_total}
use Rattle.wjs_base.proofs.Trees.{get_tree}
use Rattle.wjs_full.proofs.maps.ObjSet.has.Goals as goal

pub returns : goal.returns
returns c = c.contains_key.ensures ∙ ap is_some (sym (get_tree obj_total c.self.inside.tree c.args.object) ∙ ap (λ m. map.get m c.args.object) c.self.view_is)
