use Rattle.wjs_by_content.specs.Values.{Boolean}
use Rattle.wjs_meaning.specs.Deeds.{give}
use Rattle.wjs_native_core.proofs.objects.give_past.Goals as goal

pub returns-in-Object : goal.returns-in-Object
returns-in-Object g c = rw c.in-Object.is (c.is_past-answer.ensures.does.by (λ b. give (Boolean b)) c.give.new.config c.give.result c.give.ensures)
