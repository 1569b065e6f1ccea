use Rattle.std.proofs.Common.{◌≡◌, List, Option, Some, None, sym, subst, ◌∙◌}
use Rattle.std.specs.Prelude.{map, drop, slice_get, IfSome}
use Rattle.wjs_tree.specs.declared.node.Declarator.{Declarator}
use Rattle.wjs_meaning.specs.Reading.{variable_in}
use Rattle.wjs_meaning.specs.Statements.{vars_from}
use Rattle.wjs_frames.specs.Parts.{env_in, node_now}
use Rattle.wjs_effects.specs.declared.declarators.Initialiser.{Initialiser}
use Rattle.wjs_effects.specs.Variables.{declarators_in, initialiser_goes}
use Rattle.wjs_step_common.proofs.Following.{follows_as}
use Rattle.wjs_effects.proofs.Declared.{found_same, found_enters}
use Rattle.wjs_effects.proofs.StandingVariables.{value_of, initialiser_stands}
use Rattle.wjs_loops.proofs.variables.variables_from.Goals as goal

pub returns-in_ok-at-in-Some : goal.returns-in_ok-at-in-Some
returns-in_ok-at-in-Some g c =
    let meaning = g.S.WorldStore.meaning in
    let f = c.args.frame in
    let t = c.enter_quickly.new.config.heap.texts in
    let node = node_now meaning c.args.config.now f in
    let env = env_in meaning c.args.config.now t f in
    let x = c.in-Some.initialiser in
    let ds = c.declarators_of.result.now in
    let P : Option Initialiser → Type 0 = λ o. vars_from f.node.0 c.args.from (drop c.args.from (map (variable_in t) ds)) env ≡ initialiser_goes f.node.0 (map (variable_in t) ds) o env in
    let found = subst P c.in-Some.is (c.initialiser_from.ensures.goes t f.node.0 env) in
    follows_as meaning _ _ _ _ c.enter_quickly.result (λ grows.
    found_enters t node f.node.0 c.in_ok-at-in-Some.at env x c.in_ok-at-in-Some.ensures
    ∙ sym (found_same t node f.node.0 env ds c.args.from (Some x) c.declarators_of.ensures found)) c.enter_quickly.ensures

pub returns-in-None : goal.returns-in-None
returns-in-None g c =
    let meaning = g.S.WorldStore.meaning in
    let f = c.args.frame in
    let t = c.finish.new.config.heap.texts in
    let node = node_now meaning c.args.config.now f in
    let env = env_in meaning c.args.config.now t f in
    let ds = c.declarators_of.result.now in
    let P : Option Initialiser → Type 0 = λ o. vars_from f.node.0 c.args.from (drop c.args.from (map (variable_in t) ds)) env ≡ initialiser_goes f.node.0 (map (variable_in t) ds) o env in
    let found = subst P c.in-None.is (c.initialiser_from.ensures.goes t f.node.0 env) in
    follows_as meaning _ _ _ _ c.finish.result (λ grows. sym (found_same t node f.node.0 env ds c.args.from None c.declarators_of.ensures found)) c.finish.ensures

pub enter_quickly-requires-clause-part : goal.enter_quickly-requires-clause-part
enter_quickly-requires-clause-part g c =
    let x = c.in-Some.initialiser in
    let P : List Declarator → Type 0 = λ ds. value_of (slice_get ds x.at) ≡ Some x.value in
    let Q : Option Initialiser → Type 0 = λ o. IfSome o (λ (y : Initialiser). value_of (slice_get c.declarators_of.result.now y.at) ≡ Some y.value) in
    let found : P (declarators_in (node_now g.S.WorldStore.meaning c.args.config.now c.args.frame)) = subst P c.declarators_of.ensures (subst Q c.in-Some.is c.initialiser_from.ensures.is) in
    initialiser_stands g.S.WorldStore.meaning c.args.config.now c.args.frame x.at x.value c.requires.runs.there found
