use Rattle.wjs_by_content.proofs.Sorted.{named_listing}
use Rattle.wjs_by_content.proofs.renames.listings_agree.Goals as goal

pub returns : goal.returns
returns g c = λ m r F w o k ts a p. named_listing r F w o k ts a p
