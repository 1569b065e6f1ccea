use Rattle.wjs_base.specs.Text.{Has}
use Rattle.std.proofs.Common.{◌<◌, length, sym, subst}
use Rattle.std.specs.Prelude.{List, ◌∷◌, [], All, Some, map}
use Rattle.std.proofs.lemmas.List.Elements.{All-head}
use Rattle.wjs_base.specs.declared.ids.TextId.{TextId}
use Rattle.wjs_tree.specs.declared.node.Declarator.{Declarator}
use Rattle.wjs_by_content.specs.Tables.{text_in}
use Rattle.wjs_meaning.specs.Reading.{variable_in}
use Rattle.wjs_meaning.specs.Statements as line
use Rattle.wjs_model.specs.declared.frame.Completion.TheVariants as completions
use Rattle.wjs_frames.specs.Parts.{env_in}
use Rattle.wjs_effects.specs.declared.effect.Effect.TheVariants as effects
use Rattle.wjs_effects.specs.Effects.{carried}
use Rattle.wjs_effects.proofs.Leaving.{shorten_as, leaves_all, leaves_as, leaves_ended}
use Rattle.wjs_effects.proofs.Lines.{only_one, var_named, var_begins, var_ends}
use Rattle.wjs_effects.proofs.statements.variable.Goals as goal

pub returns-in-Some-clause-found : goal.returns-in-Some-clause-found
returns-in-Some-clause-found g c =
    let only = c.in_ok-variable in
    let texts = c.args.config.now.heap.texts in
    let P : Declarator → Type 0 = λ d. Has texts d.name in
    let is = only_one c.args.variables.now only.variable only.ensures.first only.ensures.one in
    (subst (λ (names : List TextId). 0 < length names) (sym c.requires.named) (var_named c.args.variables.now only.variable is), All-head P only.variable [] (subst (All P) is c.requires.texts))

pub returns-in-Some-clause-leaves : goal.returns-in-Some-clause-leaves
returns-in-Some-clause-leaves g c = λ left.
    let m = g.S.WorldStore.meaning in
    let now = c.args.config.now in
    let f = c.args.frame.now in
    let here = c.args.node.0 in
    let only = c.in_ok-variable in
    let d = only.variable in
    let e = c.in-Some.e in
    let is = only_one c.args.variables.now d only.ensures.first only.ensures.one in
    leaves_as m now f (λ t env. line.vars_from here 0 ((text_in t d.name, Some e.0) ∷ []) env) (λ t env. line.vars_from here 0 (map (variable_in t) c.args.variables.now) env) (carried (effects.Initialises c.args.node d.name e)) left left
    (λ t more. var_begins c.args.variables.now d is t here (env_in m now t f) e c.in-Some.is)
    (leaves_all m now f (λ t env. line.vars_from here 0 ((text_in t d.name, Some e.0) ∷ []) env) left)

pub returns-in-None-clause-leaves : goal.returns-in-None-clause-leaves
returns-in-None-clause-leaves g c = λ left.
    let m = g.S.WorldStore.meaning in
    let now = c.args.config.now in
    let f = c.args.frame.now in
    let only = c.in_ok-variable in
    let is = only_one c.args.variables.now only.variable only.ensures.first only.ensures.one in
    leaves_ended m now f (λ t env. line.vars_from c.args.node.0 0 (map (variable_in t) c.args.variables.now) env) completions.Normal left
    (λ t more. shorten_as _ _ (var_ends c.args.variables.now only.variable is t c.args.node.0 (env_in m now t f) c.in-None.is))
