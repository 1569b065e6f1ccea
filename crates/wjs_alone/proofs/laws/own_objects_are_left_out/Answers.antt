use Rattle.wjs_alone.proofs.Objects.{left_out_lem}
use Rattle.wjs_alone.proofs.laws.own_objects_are_left_out.Goals as goal

pub returns : goal.returns
returns c = left_out_lem
