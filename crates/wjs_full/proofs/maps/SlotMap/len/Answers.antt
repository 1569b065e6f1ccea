use Rattle.std.proofs.Common.{sym, ap, ◌∙◌}
use Rattle.std.specs.FinMap as map
use Rattle.wjs_base.specs.Order.{slot_total}
use Rattle.wjs_base.proofs.Trees.{len_tree}
use Rattle.wjs_full.proofs.maps.SlotMap.len.Goals as goal

pub returns : goal.returns
returns g c = c.len.ensures.len ∙ sym (len_tree slot_total c.self.inside.tree.entries c.len.ensures.ordered) ∙ ap map.len c.self.view_is
