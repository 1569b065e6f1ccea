use Rattle.std.proofs.Common.{ap, ◌∙◌}
use Rattle.std.specs.FinMap as map
use Rattle.wjs_base.specs.Order.{slot_total, slot_exact}
use Rattle.wjs_base.proofs.Trees.{remove_tree}
use Rattle.wjs_full.proofs.maps.SlotMap.remove.Goals as goal

pub returns : goal.returns
returns g c = remove_tree slot_total slot_exact c.self.inside.tree c.remove.new.self c.args.slot c.remove.ensures.updates.0 ∙ ap (λ m. map.remove m c.args.slot) c.self.view_is
