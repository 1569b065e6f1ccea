use Rattle.std.proofs.Common.{◌∙◌, ap, sym}
use Rattle.std.specs.FinMap as map
use Rattle.wjs_base.specs.Order.{slot_cmp}
use Rattle.wjs_slots.proofs.walked.Walked.new.Goals as goal

pub invariant_of-result : goal.invariant_of-result
invariant_of-result g c = sym (ap map.len c.later.ensures ∙ map.len-empty slot_cmp _)
