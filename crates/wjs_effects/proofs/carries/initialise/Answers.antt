use Rattle.std.proofs.Common.{ap}
use Rattle.wjs_by_content.specs.Tables.{text_in}
use Rattle.wjs_meaning.specs.Deeds.{Normal, Ret, Eval, AtExpr, tree_here, then_value}
use Rattle.wjs_meaning.specs.References.{reference_at, store}
use Rattle.wjs_meaning.specs.Trees.{Place, name_place}
use Rattle.wjs_model.specs.Units.{place_in}
use Rattle.wjs_frames.specs.Parts.{env_in}
use Rattle.wjs_heap_steps.proofs.Later.{later_same}
use Rattle.wjs_effects.specs.Effects.{Rest, initialises}
use Rattle.wjs_effects.specs.Making.{made_in}
use Rattle.wjs_effects.proofs.Leaving.{leaves_done, leaves_yielded, leaves_as, leaves_stored, leaves_referred}
use Rattle.wjs_effects.proofs.carries.initialise.Goals as goal

pub returns-in_ok-completion-in-Some-clause-does : goal.returns-in_ok-completion-in-Some-clause-does
returns-in_ok-completion-in-Some-clause-does g c =
    let m = g.S.WorldStore.meaning in
    let old = c.args.config.now in
    let f = c.args.frame.now in
    let here = c.args.node.0 in
    let v = c.in-Some.made in
    let place = c.place_at-place.result in
    let q = c.reference_at-reference.result in
    let x : Rest = initialises q v in
    let before = c.args.left in
    let mid = c.made_at.new.steps in
    let done = c.in_ok-completion-in-Some in
    leaves_done m (λ t env. Eval (AtExpr c.args.e.0) env (then_value (λ y. reference_at (name_place (tree_here env) here 0) (text_in t c.args.name) env (λ r. store r y env (Ret Normal))))) x done.completion old f before mid c.store_made.new.config
    (leaves_yielded m old f (AtExpr c.args.e.0) (λ t env. then_value (λ y. reference_at (name_place (tree_here env) here 0) (text_in t c.args.name) env (λ r. store r y env (Ret Normal)))) (λ t. made_in t v) x before mid mid c.in-Some.ensures.does
    (leaves_as m old f (λ t env. reference_at (place_in place) (text_in t c.args.name) env (λ r. store r (made_in t v) env (Ret Normal))) (λ t env. reference_at (name_place (tree_here env) here 0) (text_in t c.args.name) env (λ r. store r (made_in t v) env (Ret Normal))) x mid mid
    (λ t more. let env = env_in m old t f in ap (λ (p : Place). reference_at p (text_in t c.args.name) env (λ r. store r (made_in t v) env (Ret Normal))) (c.place_at-place.ensures c.requires.named t))
    (leaves_referred m old f place c.args.name q (λ t env r. store r (made_in t v) env (Ret Normal)) x mid mid c.reference_at-reference.ensures.peeks (leaves_stored m old f q v (λ t. Normal) mid))))
    done.ensures.does

pub returns-in-None-clause-later : goal.returns-in-None-clause-later
returns-in-None-clause-later g c = later_same g.S.WorldStore.meaning c.args.config.now c.requires.base
