use Rattle.std.proofs.Common.{sym, ap, ◌∙◌}
use Rattle.std.specs.FinMap as map
use Rattle.std.specs.Map.{lookup_key}
use Rattle.wjs_base.specs.Order.{obj_cmp, obj_total}
use Rattle.wjs_rows.specs.Order.{is_after}
use Rattle.wjs_base.proofs.Trees.{entries_tree}
use Rattle.wjs_layers.proofs.Lists.{key_none, key_some}
use Rattle.wjs_layers.proofs.maps.ObjectSet.next_after.Goals as goal

pub returns-in-None-clause-least : goal.returns-in-None-clause-least
returns-in-None-clause-least g c = key_none _ c.self.inside.rows c.in-None.ensures.least ∙ ap (lookup_key (is_after obj_cmp c.args.object)) (sym (entries_tree obj_total c.self.inside.rows c.next_after.ensures.ordered) ∙ ap map.entries c.self.view_is)

pub returns-in-Some-clause-least : goal.returns-in-Some-clause-least
returns-in-Some-clause-least g c = key_some _ c.self.inside.rows _ c.in-Some.ensures.least ∙ ap (lookup_key (is_after obj_cmp c.args.object)) (sym (entries_tree obj_total c.self.inside.rows c.next_after.ensures.ordered) ∙ ap map.entries c.self.view_is)
