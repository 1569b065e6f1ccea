use Rattle.std.proofs.Common.{◌∙◌}
use Rattle.wjs_heap_steps.proofs.Peeking.{if_some}
use Rattle.wjs_effects.proofs.makes.sum_of.Goals as goal

pub returns-in-Some-Binary : goal.returns-in-Some-Binary
returns-in-Some-Binary g c = if_some _ _ c.summands.result (λ s e. c.in-Some-Binary.ensures ∙ c.in-Some-Binary.field-0-is ∙ e) c.summands.ensures
