use Rattle.std.proofs.Common.{sym}
use Rattle.wjs_meaning.specs.Expressions.{give_world}
use Rattle.wjs_literals.proofs.literals.this_world.Goals as goal

pub returns : goal.returns
returns g c = rw (sym c.world.ensures) (c.world_object-found.ensures.does.by (λ o. give_world o) _ _ c.give_world.ensures)
