use Rattle.wjs_arena.proofs.Made.{arena_empty, kept_empty}
use Rattle.wjs_arena.proofs.arena.Arena.new.Goals as goal

pub invariant_of-result : goal.invariant_of-result
invariant_of-result c = kept_empty c.new.result c.new-2.result c.new.ensures.empty c.new-2.ensures c.new.ensures.serials

pub returns-clause-arena : goal.returns-clause-arena
returns-clause-arena c = arena_empty c.new.result c.new.ensures.empty c.new.ensures.serials
