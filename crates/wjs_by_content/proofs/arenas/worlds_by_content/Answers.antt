use Rattle.wjs_by_content.proofs.WorldObjects.{world_object_there, world_object_none}
use Rattle.wjs_by_content.proofs.arenas.worlds_by_content.Goals as goal

pub returns : goal.returns
returns c = λ texts objects arena w. record {
  there = world_object_there texts objects w (λ a b. arena.one_object a b w);
  none = world_object_none texts objects w;
}
