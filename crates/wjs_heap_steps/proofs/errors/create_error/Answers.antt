use Rattle.std.proofs.Common.{[], ◌∙◌}
use Rattle.wjs_heap_steps.proofs.Composing.{if_ok}
use Rattle.wjs_heap_steps.proofs.errors.create_error.Goals as goal

pub returns-clause-does : goal.returns-clause-does
returns-clause-does g c = if_ok _ _ c.create_with.result (λ o k. k (λ t. []) (λ t more. c.as_slice.ensures.value ∙ c.in_ok-message.ensures ∙ c.message_of.ensures)) c.create_with.ensures.does
