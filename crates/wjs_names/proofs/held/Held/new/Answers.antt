use Rattle.wjs_names.proofs.Starting.{starts_none}
use Rattle.wjs_names.proofs.held.Held.new.Goals as goal

pub invariant_of-result : goal.invariant_of-result
invariant_of-result g c = starts_none c.new.result.items c.new-2.result.entries c.new.ensures.items c.new-2.ensures.empty
