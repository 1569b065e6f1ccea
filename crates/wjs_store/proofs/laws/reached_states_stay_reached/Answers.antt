use Rattle.wjs_store.proofs.Commits.{reached_fresh}
use Rattle.wjs_store.proofs.Keeps.{reached_after}
use Rattle.wjs_store.proofs.laws.reached_states_stay_reached.Goals as goal

pub returns : goal.returns
returns c = (reached_fresh, reached_after)
