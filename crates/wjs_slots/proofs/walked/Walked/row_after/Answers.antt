use Rattle.std.proofs.Common.{◌∙◌, ap}
use Rattle.std.specs.FinMap as map
use Rattle.std.specs.Map.{lookup_entry}
use Rattle.wjs_base.specs.Order.{slot_cmp}
use Rattle.wjs_rows.specs.Order.{is_after}
use Rattle.wjs_slots.proofs.Rowing.{after_on}
use Rattle.wjs_slots.proofs.walked.Walked.row_after.Goals as goal

pub returns-in-Some : goal.returns-in-Some
returns-in-Some g c =
    after_on c.self.inside.parts c.args.slot c.in-Some.row c.in-Some.ensures
    ∙ ap (λ m. lookup_entry (is_after slot_cmp c.args.slot) (map.entries m)) c.self.view_is

pub returns-in-None : goal.returns-in-None
returns-in-None g c = c.next_past.ensures ∙ ap (λ m. lookup_entry (is_after slot_cmp c.args.slot) (map.entries m)) c.self.view_is
