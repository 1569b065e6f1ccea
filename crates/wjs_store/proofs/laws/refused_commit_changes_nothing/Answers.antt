use Rattle.wjs_store.proofs.Refused.{refused_stays}
use Rattle.wjs_store.proofs.laws.refused_commit_changes_nothing.Goals as goal

pub returns : goal.returns
returns c = refused_stays
