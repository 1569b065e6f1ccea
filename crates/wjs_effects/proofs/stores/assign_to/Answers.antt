use Rattle.std.proofs.Common.{Option, subst}
use Rattle.std.specs.Prelude.{IfOk, IfSome}
use Rattle.wjs_tree.specs.declared.operators.BinaryOperator.{BinaryOperator}
use Rattle.wjs_meaning.specs.Expressions as line
use Rattle.wjs_model.specs.Contents.{reference_in}
use Rattle.wjs_effects.specs.Leaving.{ActEnds}
use Rattle.wjs_effects.proofs.stores.assign_to.Goals as goal

pub returns-in-None-clause-does : goal.returns-in-None-clause-does
returns-in-None-clause-does g c =
    let P : Option BinaryOperator → Type 0 = λ o. IfOk c.assign_plain.result (λ done. IfSome done (λ e. ActEnds g.S.WorldStore.meaning (λ t env. line.assign_reference o c.args.right.0 env (reference_in t c.args.reference)) e c.args.config.now c.args.frame.now c.args.left c.assign_plain.new.config)) in
    subst P c.in-None.ensures c.assign_plain.ensures.does

pub returns-in-Some-clause-does : goal.returns-in-Some-clause-does
returns-in-Some-clause-does g c =
    let P : Option BinaryOperator → Type 0 = λ o. IfOk c.assign_compound.result (λ done. IfSome done (λ e. ActEnds g.S.WorldStore.meaning (λ t env. line.assign_reference o c.args.right.0 env (reference_in t c.args.reference)) e c.args.config.now c.args.frame.now c.args.left c.assign_compound.new.config)) in
    subst P c.in-Some.ensures c.assign_compound.ensures.does
