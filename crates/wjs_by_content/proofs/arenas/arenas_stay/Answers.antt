use Rattle.wjs_by_content.proofs.ArenaGrowth.{arena_grows}
use Rattle.wjs_by_content.proofs.arenas.arenas_stay.Goals as goal

pub returns : goal.returns
returns c = λ old new g objects k. arena_grows old new g objects k
