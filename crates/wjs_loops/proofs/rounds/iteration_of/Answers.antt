use Rattle.std.proofs.Common.{inl, inr, refl, ap, ◌∙◌}
use Rattle.wjs_tree.specs.declared.node.Node.{Node}
use Rattle.wjs_meaning.specs.Reading.{node_in}
use Rattle.wjs_meaning.specs.Statements.{again_of}
use Rattle.wjs_frames.specs.Parts.{env_in}
use Rattle.wjs_heap_steps.proofs.Peeking.{if_some}
use Rattle.wjs_loops.proofs.Parts.{part_stands}
use Rattle.wjs_effects.proofs.StandingFors.{for_stands}
use Rattle.wjs_loops.proofs.rounds.iteration_of.Goals as goal

pub returns-in-Some-While-clause-is : goal.returns-in-Some-While-clause-is
returns-in-Some-While-clause-is g c = λ t. ap (λ (n : Node). again_of c.args.frame.now.node.0 (node_in t n) (env_in g.S.WorldStore.meaning c.args.config.now t c.args.frame.now)) (c.in-Some-While.ensures ∙ c.in-Some-While.field-0-is)

pub returns-in-Some-While-clause-found : goal.returns-in-Some-While-clause-found
returns-in-Some-While-clause-found g c =
    let m = g.S.WorldStore.meaning in
    let now = c.args.config.now in
    let f = c.args.frame.now in
    let is = c.in-Some-While.ensures ∙ c.in-Some-While.field-0-is in
    (part_stands m now f c.requires.there _ _ is (inl refl), (tt, part_stands m now f c.requires.there _ _ is (inr (inl refl))))

pub returns-in-Some-For-clause-is : goal.returns-in-Some-For-clause-is
returns-in-Some-For-clause-is g c =
    if_some _ _ c.with_test.result (λ p is t.
    ap (λ (n : Node). again_of c.args.frame.now.node.0 (node_in t n) (env_in g.S.WorldStore.meaning c.args.config.now t c.args.frame.now)) (c.in-Some-For.ensures ∙ c.in-Some-For.field-0-is) ∙ is t) c.with_test.ensures.is

pub with_test-requires-clause-test : goal.with_test-requires-clause-test
with_test-requires-clause-test g c =
    (for_stands g.S.WorldStore.meaning c.args.config.now c.args.frame.now c.requires.there _ _ _ _ (c.in-Some-For.ensures ∙ c.in-Some-For.field-0-is)).0

pub with_test-requires-clause-update : goal.with_test-requires-clause-update
with_test-requires-clause-update g c =
    (for_stands g.S.WorldStore.meaning c.args.config.now c.args.frame.now c.requires.there _ _ _ _ (c.in-Some-For.ensures ∙ c.in-Some-For.field-0-is)).1.0

pub with_test-requires-clause-body : goal.with_test-requires-clause-body
with_test-requires-clause-body g c =
    (for_stands g.S.WorldStore.meaning c.args.config.now c.args.frame.now c.requires.there _ _ _ _ (c.in-Some-For.ensures ∙ c.in-Some-For.field-0-is)).1.1
