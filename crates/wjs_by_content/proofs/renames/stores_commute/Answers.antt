use Rattle.wjs_by_content.proofs.Store.{does_named}
use Rattle.wjs_by_content.proofs.renames.stores_commute.Goals as goal

pub returns : goal.returns
returns g c = λ m r old a answer new. does_named r old a answer new
