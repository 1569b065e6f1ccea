use Rattle.std.proofs.Common.{sym}
use Rattle.wjs_native_text.proofs.places.unit_of.Goals as goal

pub returns : goal.returns
returns g c = λ t more. rw (c.text_of.ensures.text t more, c.whole_at.ensures t) (sym c.unit_at.ensures)
