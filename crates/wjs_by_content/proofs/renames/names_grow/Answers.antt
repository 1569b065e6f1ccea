use Rattle.wjs_by_content.proofs.Grow.{known_grows, named_grows}
use Rattle.wjs_by_content.proofs.renames.names_grow.Goals as goal

pub returns : goal.returns
returns g c = λ m r t g F k. (known_grows r t g F k, named_grows r t g F k)
