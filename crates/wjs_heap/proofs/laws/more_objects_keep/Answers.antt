use Rattle.wjs_heap.proofs.Growing.{object_keeps}
use Rattle.wjs_heap.proofs.laws.more_objects_keep.Goals as goal

pub returns : goal.returns
returns c = object_keeps
