use Rattle.std.proofs.Common.{sym, subst}
use Rattle.std.specs.Prelude.{IfOk, IfSome}
use Rattle.wjs_model.specs.Contents.{completion_in}
use Rattle.wjs_heap_steps.proofs.Composing.{does_at_once}
use Rattle.wjs_quick.proofs.Coming.{later_left}
use Rattle.wjs_effects.specs.declared.effect.Effect.{Effect}
use Rattle.wjs_effects.specs.Effects.{carried, HasEffect}
use Rattle.wjs_effects.specs.Leaving.{Ends}
use Rattle.wjs_effects.proofs.carries.carry_out.Goals as goal

pub returns-in-Ends-clause-does : goal.returns-in-Ends-clause-does
returns-in-Ends-clause-does g c =
    let m = g.S.WorldStore.meaning in
    let old = c.args.config.now in
    let e = c.in-Ends.completion in
    let new = record old { left = c.args.left } in
    subst (λ (x : Effect). Ends m (carried x) e old c.args.frame.now c.args.left new) (sym c.in-Ends.is) (does_at_once m (λ t. completion_in t e) new)

pub returns-in-Ends-clause-later : goal.returns-in-Ends-clause-later
returns-in-Ends-clause-later g c = later_left g.S.WorldStore.meaning c.args.config.now c.args.left c.requires.base

pub returns-in-Ends-clause-found : goal.returns-in-Ends-clause-found
returns-in-Ends-clause-found g c =
    let old = c.args.config.now in
    (later_left g.S.WorldStore.meaning old c.args.left c.requires.base).completions c.in-Ends.completion (subst (λ (x : Effect). HasEffect old c.args.frame.now x) c.in-Ends.is c.requires.effect)

pub returns-in-Evaluates-clause-does : goal.returns-in-Evaluates-clause-does
returns-in-Evaluates-clause-does g c =
    subst (λ (x : Effect). IfOk c.evaluate.result (λ done. IfSome done (λ e. Ends g.S.WorldStore.meaning (carried x) e c.args.config.now c.args.frame.now c.args.left c.evaluate.new.config))) (sym c.in-Evaluates.is) c.evaluate.ensures.does

pub returns-in-Returns-clause-does : goal.returns-in-Returns-clause-does
returns-in-Returns-clause-does g c =
    subst (λ (x : Effect). IfOk c.give_back.result (λ done. IfSome done (λ e. Ends g.S.WorldStore.meaning (carried x) e c.args.config.now c.args.frame.now c.args.left c.give_back.new.config))) (sym c.in-Returns.is) c.give_back.ensures.does

pub returns-in-Initialises-clause-does : goal.returns-in-Initialises-clause-does
returns-in-Initialises-clause-does g c =
    subst (λ (x : Effect). IfOk c.initialise.result (λ done. IfSome done (λ e. Ends g.S.WorldStore.meaning (carried x) e c.args.config.now c.args.frame.now c.args.left c.initialise.new.config))) (sym c.in-Initialises.is) c.initialise.ensures.does

pub initialise-requires-clause-named : goal.initialise-requires-clause-named
initialise-requires-clause-named g c = (subst (λ (x : Effect). HasEffect c.args.config.now c.args.frame.now x) c.in-Initialises.is c.requires.effect).0

pub initialise-requires-clause-name : goal.initialise-requires-clause-name
initialise-requires-clause-name g c = (subst (λ (x : Effect). HasEffect c.args.config.now c.args.frame.now x) c.in-Initialises.is c.requires.effect).1
