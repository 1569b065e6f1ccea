use Rattle.std.proofs.Common.{Option, ap, ◌∙◌, subst}
use Rattle.wjs_base.specs.declared.ids.NodeId.{NodeId}
use Rattle.wjs_meaning.specs.Reading.{number}
use Rattle.wjs_meaning.specs.Statements.{iteration_from}
use Rattle.wjs_model.specs.Soundness.{StandsIf}
use Rattle.wjs_frames.specs.Parts.{env_in}
use Rattle.wjs_heap_steps.proofs.Peeking.{if_some}
use Rattle.wjs_loops.proofs.rounds.with_test.Goals as goal

pub returns-in-Some-clause-is : goal.returns-in-Some-clause-is
returns-in-Some-clause-is g c = λ t.
    let f = c.args.frame.now in
    ap (λ (o : Option NodeId). iteration_from f.node.0 (number o) (number c.args.u) c.args.s.0 (env_in g.S.WorldStore.meaning c.args.config.now t f)) c.in-Some.is

pub returns-in-None-clause-is : goal.returns-in-None-clause-is
returns-in-None-clause-is g c =
    let f = c.args.frame.now in
    if_some _ _ c.without_test.result (λ p is t.
    ap (λ (o : Option NodeId). iteration_from f.node.0 (number o) (number c.args.u) c.args.s.0 (env_in g.S.WorldStore.meaning c.args.config.now t f)) c.in-None.is ∙ is t) c.without_test.ensures.is

pub returns-in-Some-clause-found : goal.returns-in-Some-clause-found
returns-in-Some-clause-found g c = (subst (λ (o : Option NodeId). StandsIf c.args.config.now c.args.frame.now o) c.in-Some.is c.requires.test, (c.requires.update, c.requires.body))
