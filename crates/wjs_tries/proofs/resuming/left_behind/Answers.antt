use Rattle.std.proofs.Common.{refl}
use Rattle.wjs_tries.proofs.resuming.left_behind.Goals as goal

pub abandon-shared-requires : goal.abandon-shared-requires
abandon-shared-requires c = c.requires.live

pub take-requires-clause-others : goal.take-requires-clause-others
take-requires-clause-others c = c.requires.others

pub take-requires-clause-worlds : goal.take-requires-clause-worlds
take-requires-clause-worlds c = c.requires.worlds

pub returns-clause-gives_up : goal.returns-clause-gives_up
returns-clause-gives_up c = record {
  texts = refl;
  arena_is = c.take.ensures.left;
  units = refl;
  worlds = c.abandon-shared.ensures.worlds;
  works = c.abandon-shared.ensures.works;
}
