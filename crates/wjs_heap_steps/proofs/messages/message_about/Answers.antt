use Rattle.std.proofs.Common.{ap, ◌∙◌, ◌++◌, take}
use Rattle.wjs_base.specs.Text.{longest}
use Rattle.wjs_heap_steps.proofs.messages.message_about.Goals as goal

pub returns : goal.returns
returns c = c.truncate.ensures.items ∙ ap (take longest) (c.in_ok-extend_from_slice.ensures.items ∙ (λ i. (c.in_ok-units.ensures.items i) ++ ((c.as_slice.ensures.value ∙ c.in_ok-rest.ensures) i)))
