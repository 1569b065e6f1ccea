use Rattle.wjs_arena.proofs.worlds.take_from.Goals as goal

pub returns : goal.returns
returns c = λ q. c.remove.ensures.updates.0 q
