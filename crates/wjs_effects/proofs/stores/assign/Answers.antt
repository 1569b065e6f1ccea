use Rattle.wjs_tree.specs.Operators.{compound}
use Rattle.wjs_meaning.specs.Deeds.{AtTarget, then_reference}
use Rattle.wjs_meaning.specs.Expressions as line
use Rattle.wjs_model.specs.declared.frame.Completion.TheVariants as completions
use Rattle.wjs_heap_steps.proofs.Composing.{if_ok}
use Rattle.wjs_heap_steps.proofs.Later.{later_same}
use Rattle.wjs_heap_steps.proofs.Peeking.{if_some}
use Rattle.wjs_effects.proofs.Leaving.{ends_by}
use Rattle.wjs_effects.proofs.stores.assign.Goals as goal

pub returns-then-is_hopeless-clause-later : goal.returns-then-is_hopeless-clause-later
returns-then-is_hopeless-clause-later g c = later_same g.S.WorldStore.meaning c.args.config.now c.requires.base

pub returns-in-Some-clause-does : goal.returns-in-Some-clause-does
returns-in-Some-clause-does g c =
    let m = g.S.WorldStore.meaning in
    let old = c.args.config.now in
    let f = c.args.frame.now in
    let q = c.in-Some.reference in
    let new = c.assign_to.new.config in
    if_ok _ _ c.assign_to.result (λ done k. if_some _ _ done (λ e d. ends_by m old f (AtTarget c.args.target.0) (λ t env. then_reference (line.assign_reference (compound c.args.sign) c.args.right.0 env)) (completions.Refers q) e c.args.left c.target_at.new.steps new c.in-Some.ensures.leaves d) k) c.assign_to.ensures.does

pub returns-in-None-clause-later : goal.returns-in-None-clause-later
returns-in-None-clause-later g c = later_same g.S.WorldStore.meaning c.args.config.now c.requires.base
