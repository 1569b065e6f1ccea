use Rattle.wjs_by_content.proofs.RenamedKnown.{named_fails}
use Rattle.wjs_by_content.proofs.renames.faults_agree.Goals as goal

pub returns : goal.returns
returns g c = λ m r x p s a b k. named_fails r x p s a b k
