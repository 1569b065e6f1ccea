use Rattle.std.proofs.Common.{◌∙◌, ap, sym}
use Rattle.std.specs.Ordering.{is_le}
use Rattle.wjs_slots.proofs.Between.{find_nothing, none_from, none_until}
use Rattle.wjs_slots.proofs.parts.has_between.Goals as goal

pub returns-then-is_empty : goal.returns-then-is_empty
returns-then-is_empty g c = λ _ slot from until. find_nothing slot c.args.far.now.entries (c.is_empty.ensures.0 c.if-is_empty.true)

pub returns-in-None : goal.returns-in-None
returns-in-None g c = λ _ slot from until. none_from c.args.first c.args.far.now.entries c.requires c.in-None.ensures slot from

pub returns-in-Some : goal.returns-in-Some
returns-in-Some g c = λ past slot from until. none_until c.args.first c.args.last c.args.far.now.entries (c.in-Some.slot, c.in-Some.field-0-1) c.requires c.in-Some.ensures (sym (ap is_le c.cmp.ensures) ∙ sym c.is_le.ensures ∙ past) slot from until
