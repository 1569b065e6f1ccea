use Rattle.wjs_store.proofs.Paths.{path_below, below_path}
use Rattle.wjs_store.proofs.laws.write_reaches_by_path.Goals as goal

pub returns : goal.returns
returns c = λ F h w d s. (path_below w s F h d, below_path w s F h d)
