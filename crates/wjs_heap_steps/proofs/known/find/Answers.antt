use Rattle.std.proofs.Common.{ap}
use Rattle.wjs_base.specs.Text.{Table}
use Rattle.wjs_heap_steps.proofs.known.find.Goals as goal

pub returns-clause-same : goal.returns-clause-same
returns-clause-same g c = let old = c.args.config.now in ap (λ (t : Table). record old { heap = record old.heap { texts = t } }) c.known.ensures.same
