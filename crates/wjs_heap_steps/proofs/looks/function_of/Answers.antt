use Rattle.wjs_by_content.specs.Objects.{function_of}
use Rattle.wjs_by_content.specs.Tables.{value_in}
use Rattle.wjs_heap_steps.proofs.Running.{does_ran}
use Rattle.wjs_heap_steps.proofs.Steps.{ran_look}
use Rattle.wjs_heap_steps.proofs.looks.function_of.Goals as goal

pub returns-clause-does : goal.returns-clause-does
returns-clause-does g c =
    let m = g.S.WorldStore.meaning in
    let old = c.args.config.now in
    does_ran m _ _ old old (ran_look m (λ t arena. function_of arena (value_in t c.args.value)) (λ t. c.function_if.result) old (λ t more arena s. c.function_if.ensures.is t arena s))
