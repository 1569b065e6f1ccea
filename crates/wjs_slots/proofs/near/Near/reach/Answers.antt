use Rattle.std.proofs.Common.{arith}
use Rattle.wjs_slots.proofs.near.Near.reach.Goals as goal

pub returns-clause-reach : goal.returns-clause-reach
returns-clause-reach g c = omega (arith, c.reach_place.ensures.reach, c.reach_place.ensures.first, c.requires)
