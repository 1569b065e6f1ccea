use Rattle.std.proofs.Common.{Some}
use Rattle.wjs_meaning.specs.Expressions as line
use Rattle.wjs_model.specs.Contents.{reference_in}
use Rattle.wjs_heap_steps.proofs.Later.{later_same}
use Rattle.wjs_effects.specs.Effects.{assigns}
use Rattle.wjs_effects.proofs.Leaving.{leaves_done}
use Rattle.wjs_effects.proofs.stores.assign_compound.Goals as goal

pub returns-in_ok-completion-in-Some-clause-does : goal.returns-in_ok-completion-in-Some-clause-does
returns-in_ok-completion-in-Some-clause-does g c =
    let q = c.args.reference in
    let done = c.in_ok-completion-in-Some in
    leaves_done g.S.WorldStore.meaning (λ t env. line.assign_reference (Some c.args.operator) c.args.right.0 env (reference_in t q)) (assigns q c.in-Some.made) done.completion c.args.config.now c.args.frame.now c.args.left c.compounded.new.steps c.store_made.new.config c.in-Some.ensures.leaves done.ensures.does

pub returns-in-None-clause-later : goal.returns-in-None-clause-later
returns-in-None-clause-later g c = later_same g.S.WorldStore.meaning c.args.config.now c.requires.base
