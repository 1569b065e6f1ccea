use Rattle.std.proofs.Common.{sym, ap, ◌∙◌}
use Rattle.std.specs.FinMap as map
use Rattle.wjs_base.specs.Order.{slot_total}
use Rattle.wjs_base.proofs.Trees.{get_tree}
use Rattle.wjs_layers.proofs.maps.SlotMap.get.Goals as goal

pub returns : goal.returns
returns g c = c.get.ensures.value ∙ sym (get_tree slot_total c.self.inside.tree c.args.slot) ∙ ap (λ m. map.get m c.args.slot) c.self.view_is
