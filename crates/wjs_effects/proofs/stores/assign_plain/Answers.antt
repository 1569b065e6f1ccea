use Rattle.std.proofs.Common.{None}
use Rattle.wjs_meaning.specs.Deeds.{Gives, AtExpr, then_value}
use Rattle.wjs_meaning.specs.Expressions as line
use Rattle.wjs_model.specs.Contents.{reference_in}
use Rattle.wjs_heap_steps.proofs.Later.{later_same}
use Rattle.wjs_effects.specs.Effects.{Rest, assigns}
use Rattle.wjs_effects.specs.Making.{made_in}
use Rattle.wjs_effects.proofs.Leaving.{leaves_done, leaves_yielded, leaves_stored}
use Rattle.wjs_effects.proofs.stores.assign_plain.Goals as goal

pub returns-in_ok-completion-in-Some-clause-does : goal.returns-in_ok-completion-in-Some-clause-does
returns-in_ok-completion-in-Some-clause-does g c =
    let m = g.S.WorldStore.meaning in
    let old = c.args.config.now in
    let f = c.args.frame.now in
    let q = c.args.reference in
    let v = c.in-Some.made in
    let x : Rest = assigns q v in
    let mid = c.made_at.new.steps in
    let done = c.in_ok-completion-in-Some in
    leaves_done m (λ t env. line.assign_reference None c.args.right.0 env (reference_in t q)) x done.completion old f c.args.left mid c.store_made.new.config
    (leaves_yielded m old f (AtExpr c.args.right.0) (λ t env. then_value (line.assign_value (reference_in t q) env)) (λ t. made_in t v) x c.args.left mid mid c.in-Some.ensures.does
    (leaves_stored m old f q v (λ t. Gives (made_in t v)) mid)) done.ensures.does

pub returns-in-None-clause-later : goal.returns-in-None-clause-later
returns-in-None-clause-later g c = later_same g.S.WorldStore.meaning c.args.config.now c.requires.base
