use Rattle.wjs_meaning.proofs.Steps.{entries_lem}
use Rattle.wjs_meaning.proofs.laws.goals_are_their_entries.Goals as goal

pub returns : goal.returns
returns c = entries_lem
