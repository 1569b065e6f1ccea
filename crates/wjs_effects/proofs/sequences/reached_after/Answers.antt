use Rattle.std.proofs.Common.{sym, ap, ◌∙◌, drop, subst}
use Rattle.wjs_meaning.specs.Deeds.{Ret}
use Rattle.wjs_model.specs.declared.frame.Completion.{Completion}
use Rattle.wjs_model.specs.Contents.{completion_in}
use Rattle.wjs_model.specs.Soundness.{HasCompletion}
use Rattle.wjs_effects.specs.Sequences.{elements_in, elements_from, element_next}
use Rattle.wjs_effects.proofs.Running.{ends_normally, ends_returned, ends_so}
use Rattle.wjs_effects.proofs.StandingElements.{returned_there}
use Rattle.wjs_effects.proofs.sequences.reached_after.Goals as goal

pub returns-in-Normal-clause-is : goal.returns-in-Normal-clause-is
returns-in-Normal-clause-is g c = λ t node env.
    let k = c.args.kind in
    let rest = elements_from k (drop c.args.next (elements_in k node)) env in
    ap (λ (e : Completion). element_next k rest (completion_in t e)) c.in-Normal.is ∙ ends_normally k t rest

pub returns-in-Returns-clause-is : goal.returns-in-Returns-clause-is
returns-in-Returns-clause-is g c = λ t node env.
    let k = c.args.kind in
    let rest = elements_from k (drop c.args.next (elements_in k node)) env in
    ap (λ (e : Completion). element_next k rest (completion_in t e)) c.in-Returns.is ∙ ends_returned k t c.in-Returns.value rest ∙ ap (λ (e : Completion). Ret (completion_in t e)) (sym c.return_of.ensures)

pub returns-in-Returns-clause-found : goal.returns-in-Returns-clause-found
returns-in-Returns-clause-found g c =
    let now = c.args.config.now in
    subst (λ (e : Completion). HasCompletion now e) (sym c.return_of.ensures)
    (returned_there now c.args.kind c.in-Returns.value (subst (λ (e : Completion). HasCompletion now e) c.in-Returns.is c.requires))

pub returns-in_default-clause-is : goal.returns-in_default-clause-is
returns-in_default-clause-is g c = λ t node env.
    let k = c.args.kind in
    ends_so k t c.args.completion (elements_from k (drop c.args.next (elements_in k node)) env) c.in_default.not-Normal c.in_default.not-Returns
