use Rattle.wjs_arena.proofs.Packing.{listed_is}
use Rattle.wjs_arena.proofs.rest.listed_of.Goals as goal

pub returns : goal.returns
returns c = listed_is c.args.object c.in_ok-flags.flags.value c.requires.0 c.requires.1 c.requires.2 c.requires.3 c.in_ok-flags.ensures.ok
