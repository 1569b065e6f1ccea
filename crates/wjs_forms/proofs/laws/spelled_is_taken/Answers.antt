use Rattle.wjs_forms.proofs.Folding.{spelled_is_taken as by_runs}
use Rattle.wjs_forms.proofs.laws.spelled_is_taken.Goals as goal

pub returns : goal.returns
returns c = by_runs
