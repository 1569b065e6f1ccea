use Rattle.std.proofs.Common.{sym, ap, ◌∙◌}
use Rattle.std.specs.Option.{option_map}
use Rattle.std.specs.Map.{lookup_entry}
use Rattle.std.specs.FinMap as map
use Rattle.wjs_slots.specs.Least.{is_next_on}
use Rattle.wjs_layers.specs.Keyed.{entry_by}
use Rattle.wjs_layers.specs.Shorts.{at_first}
use Rattle.wjs_layers.proofs.Tables.{rows_lookup}
use Rattle.wjs_layers.proofs.Shapes.{rows_first, rows_under}
use Rattle.wjs_layers.proofs.layer.Layer.next_on.Goals as goal

pub returns-in-First-clause-least : goal.returns-in-First-clause-least
returns-in-First-clause-least g c =
    let passes = is_next_on c.args.object c.args.passed in
    c.with_entry.ensures ∙ ap (option_map (entry_by at_first)) c.next_on.ensures.least ∙ sym (rows_lookup at_first passes c.in-First.values)
    ∙ ap (λ m. lookup_entry passes (map.entries m)) (rows_first c.self.inside c.args.self.now c.self.view_is c.in-First.values c.in-First.is)

pub returns-in-Under-clause-least : goal.returns-in-Under-clause-least
returns-in-Under-clause-least g c =
    let passes = is_next_on c.args.object c.args.passed in
    c.next_on-in-Under.ensures.least ∙ ap (λ m. lookup_entry passes (map.entries m)) (rows_under c.self.inside c.args.self.now c.self.view_is _ c.in-Under.rows c.in-Under.is)
