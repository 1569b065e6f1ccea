use Rattle.wjs_model.proofs.Starts.{start_lem}
use Rattle.wjs_model.proofs.laws.start_is_the_run.Goals as goal

pub returns : goal.returns
returns c = start_lem
