use Rattle.std.proofs.Common.{◌∙◌, ap, sym}
use Rattle.std.specs.FinMap as map
use Rattle.std.specs.Map.{lookup_entry}
use Rattle.std.specs.Option.{option_copied}
use Rattle.wjs_base.specs.Order.{slot_cmp}
use Rattle.wjs_rows.specs.Order.{is_from}
use Rattle.wjs_slots.proofs.Rowing.{from_here, from_past}
use Rattle.wjs_slots.proofs.walked.Walked.row_from.Goals as goal

pub returns-in-Some : goal.returns-in-Some
returns-in-Some g c =
    from_here c.self.inside.parts c.args.slot c.in-Some.value.now (sym c.get.ensures ∙ ap option_copied c.in-Some.is)
    ∙ ap (λ m. lookup_entry (is_from slot_cmp c.args.slot) (map.entries m)) c.self.view_is

pub returns-in-None : goal.returns-in-None
returns-in-None g c =
    from_past c.args.self.now c.args.slot c.row_after.result (ap (λ m. map.get m c.args.slot) (sym c.self.view_is) ∙ sym c.get.ensures ∙ ap option_copied c.in-None.is) c.row_after.ensures
