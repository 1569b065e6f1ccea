use Rattle.wjs_meaning.specs.Deeds.{AtTarget, then_reference}
use Rattle.wjs_meaning.specs.Expressions as line
use Rattle.wjs_model.specs.declared.frame.Completion.TheVariants as completions
use Rattle.wjs_model.specs.Waiting.{fix_in}
use Rattle.wjs_heap_steps.proofs.Composing.{if_ok}
use Rattle.wjs_heap_steps.proofs.Later.{later_same}
use Rattle.wjs_heap_steps.proofs.Peeking.{if_some}
use Rattle.wjs_effects.proofs.Leaving.{ends_by}
use Rattle.wjs_effects.proofs.stores.update.Goals as goal

pub returns-in-Some-clause-does : goal.returns-in-Some-clause-does
returns-in-Some-clause-does g c =
    let m = g.S.WorldStore.meaning in
    let old = c.args.config.now in
    let f = c.args.frame.now in
    let q = c.in-Some.reference in
    let new = c.update_at.new.config in
    if_ok _ _ c.update_at.result (λ done k. if_some _ _ done (λ e d. ends_by m old f (AtTarget c.args.target.0) (λ t env. then_reference (line.update_reference (fix_in c.args.fix) c.args.operator env)) (completions.Refers q) e c.args.left c.target_at.new.steps new c.in-Some.ensures.leaves d) k) c.update_at.ensures.does

pub returns-in-None-clause-later : goal.returns-in-None-clause-later
returns-in-None-clause-later g c = later_same g.S.WorldStore.meaning c.args.config.now c.requires.base
