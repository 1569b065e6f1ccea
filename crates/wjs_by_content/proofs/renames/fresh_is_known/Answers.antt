use Rattle.wjs_by_content.proofs.Store.{known_fresh}
use Rattle.wjs_by_content.proofs.renames.fresh_is_known.Goals as goal

pub returns : goal.returns
returns g c = λ m r. known_fresh r
