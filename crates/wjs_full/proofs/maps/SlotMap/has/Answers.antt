use Rattle.std.proofs.Common.{sym, ap, ◌∙◌, is_some}
use Rattle.std.specs.FinMap as map
use Rattle.wjs_base.specs.Order.{slot_total}
use Rattle.wjs_base.proofs.Trees.{get_tree}
use Rattle.wjs_full.proofs.maps.SlotMap.has.Goals as goal

pub returns : goal.returns
returns g c = c.contains_key.ensures ∙ ap is_some (sym (get_tree slot_total c.self.inside.tree c.args.slot) ∙ ap (λ m. map.get m c.args.slot) c.self.view_is)
