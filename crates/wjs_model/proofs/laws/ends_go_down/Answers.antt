use Rattle.wjs_model.proofs.Starts.{ends_lem}
use Rattle.wjs_model.proofs.laws.ends_go_down.Goals as goal

pub returns : goal.returns
returns c = ends_lem
