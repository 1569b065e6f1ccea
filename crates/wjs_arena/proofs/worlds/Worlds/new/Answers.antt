use Rattle.std.proofs.Common.{ap}
use Rattle.wjs_arena.specs.Kept.{worlds_in}
use Rattle.wjs_arena.proofs.worlds.Worlds.new.Goals as goal

pub returns : goal.returns
returns c = ap (worlds_in (λ tree. tree.entries)) c.new.ensures.empty
