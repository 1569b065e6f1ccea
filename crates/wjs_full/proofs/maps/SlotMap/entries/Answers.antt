use Rattle.std.proofs.Common.{sym, ap, ◌∙◌}
use Rattle.std.specs.FinMap as map
use Rattle.std.proofs.lemmas.Result.{IfOk-weaker}
use Rattle.wjs_base.specs.Order.{slot_total}
use Rattle.wjs_base.proofs.Trees.{entries_tree}
use Rattle.wjs_full.proofs.maps.SlotMap.entries.Goals as goal

pub returns : goal.returns
returns g c = IfOk-weaker c.entries_of.result _ _ (λ all h. h ∙ sym (entries_tree slot_total c.self.inside.tree.entries c.entries_of.ensures.ordered) ∙ ap map.entries c.self.view_is) c.entries_of.ensures.all
