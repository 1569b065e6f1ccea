use Rattle.std.proofs.Common.{rules}
use Rattle.wjs_members.proofs.names.name_value.Goals as goal

pub returns : goal.returns
returns g c = let d = c.reference_at-reference.ensures.does in rw (c.place_of-place.ensures _) (search (rules, d.by))
