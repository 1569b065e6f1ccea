use Rattle.std.proofs.Common.{sym, ap, ◌∙◌}
use Rattle.std.specs.FinMap as map
use Rattle.wjs_base.specs.Order.{world_total}
use Rattle.wjs_full.specs.History.{Histories}
use Rattle.wjs_base.proofs.Trees.{get_tree}
use Rattle.wjs_full.proofs.history.Histories.parent.Goals as goal

pub returns : goal.returns
returns c = c.copied.ensures ∙ c.get.ensures.value ∙ sym (get_tree world_total c.self.inside.parents c.args.world) ∙ ap (λ (H : Histories). map.get H.parents c.args.world) c.self.view_is
