use Rattle.std.proofs.Common.{sym, ap, ◌∙◌, is_some}
use Rattle.std.specs.FinMap as map
use Rattle.wjs_base.specs.Order.{obj_total}
use Rattle.wjs_names.proofs.Basics.{some_copied}
use Rattle.wjs_layers.proofs.Lists.{get_list}
use Rattle.wjs_layers.proofs.maps.ObjectSet.has.Goals as goal

pub returns-clause-found : goal.returns-clause-found
returns-clause-found g c = c.is_some.ensures ∙ some_copied c.get.result ∙ ap is_some (c.get.ensures.found ∙ sym (get_list obj_total c.self.inside.rows c.args.object) ∙ ap (λ m. map.get m c.args.object) c.self.view_is)
