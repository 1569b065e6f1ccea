use Rattle.std.proofs.Common.{sym, ap, ◌∙◌, unwrap_or}
use Rattle.std.specs.FinMap as map
use Rattle.std.specs.Cmp.{nat_cmp_total}
use Rattle.wjs_base.proofs.Trees.{get_tree}
use Rattle.wjs_overlay.proofs.numbers.Owners.count.Goals as goal

pub returns : goal.returns
returns c = c.unwrap_or.ensures ∙ ap (λ o. unwrap_or o 0) (c.copied.ensures ∙ c.get.ensures.value ∙ sym (get_tree nat_cmp_total c.self.inside.tree c.args.owner) ∙ ap (λ m. map.get m c.args.owner) c.self.view_is)
