use Rattle.wjs_by_content.proofs.RenamedKnown.{named_after, known_after, named_answer}
use Rattle.wjs_by_content.proofs.renames.actions_commute.Goals as goal

pub returns : goal.returns
returns g c = λ m r F a k b. record { worlds = named_after r F a k b; answer = named_answer r F a k b; known = known_after r F a k b }
