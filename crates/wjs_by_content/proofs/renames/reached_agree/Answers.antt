use Rattle.wjs_by_content.proofs.Reach.{named_reached}
use Rattle.wjs_by_content.proofs.renames.reached_agree.Goals as goal

pub returns : goal.returns
returns g c = λ m r F k h. named_reached r F k h
