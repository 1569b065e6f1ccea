use Rattle.std.proofs.Common.{◌∙◌, ap, sym}
use Rattle.std.specs.Map.{lookup_entry}
use Rattle.wjs_slots.specs.Least.{is_next_on, entry_on}
use Rattle.wjs_slots.proofs.OnObjects.{far_first, far_later}
use Rattle.wjs_slots.proofs.parts.next_far.Goals as goal

pub returns-in-None : goal.returns-in-None
returns-in-None g c =
    c.kept_on.ensures
    ∙ ap (entry_on c.args.object) c.next_from.ensures
    ∙ far_first c.args.object c.args.far.now.entries c.requires
    ∙ ap (λ o. lookup_entry (is_next_on c.args.object o) c.args.far.now.entries) (sym c.in-None.is)

pub returns-in-Some : goal.returns-in-Some
returns-in-Some g c =
    c.kept_on-in-Some.ensures
    ∙ ap (entry_on c.args.object) c.next_after.ensures
    ∙ far_later c.args.object c.in-Some.name c.args.far.now.entries c.requires
    ∙ ap (λ o. lookup_entry (is_next_on c.args.object o) c.args.far.now.entries) (sym c.in-Some.is)
