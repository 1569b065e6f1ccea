use Rattle.std.proofs.Common.{◌∷◌}
use Rattle.wjs_arena.proofs.Owners.{serials_objects, nothing}
use Rattle.wjs_arena.proofs.rows.Rows.new.Goals as goal

pub returns-clause-empty : goal.returns-clause-empty
returns-clause-empty c = nothing (λ rows. rows.items) c.new.result c.new-2.result.entries c.new.ensures.items c.new-2.ensures.empty

pub returns-clause-serials : goal.returns-clause-serials
returns-clause-serials c = serials_objects (λ rows. rows.items) ((0, c.new.result) ∷ c.new-2.result.entries)
