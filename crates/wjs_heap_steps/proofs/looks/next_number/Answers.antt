use Rattle.std.proofs.Common.{◌∙◌, sym}
use Rattle.wjs_by_content.specs.Objects.{next_number}
use Rattle.wjs_heap_steps.proofs.Running.{does_ran}
use Rattle.wjs_heap_steps.proofs.Steps.{ran_look}
use Rattle.wjs_heap_steps.proofs.Seeing.{number_found}
use Rattle.wjs_by_content.proofs.ArenaMaps.{number_same}
use Rattle.wjs_heap_steps.proofs.looks.next_number.Goals as goal

pub returns-clause-does : goal.returns-clause-does
returns-clause-does g c =
    let m = g.S.WorldStore.meaning in
    let old = c.args.config.now in
    does_ran m _ _ old old (ran_look m (λ t arena. next_number arena old.owner) (λ t. c.next_number.result) old (λ t more arena s. number_found _ t arena s ∙ number_same t old.heap.arena old.owner ∙ sym c.next_number.ensures.number))

pub returns-clause-is : goal.returns-clause-is
returns-clause-is g c = λ t arena s. number_found _ t arena s ∙ number_same t c.args.config.now.heap.arena c.args.config.now.owner ∙ sym c.next_number.ensures.number
