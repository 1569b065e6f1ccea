use Rattle.wjs_base.specs.Text.{Table}
use Rattle.wjs_by_content.specs.Tables.{value_in}
use Rattle.wjs_by_content.specs.Values.{Value}
use Rattle.wjs_meaning.specs.Deeds.{Eval, Completion, Returns, AtExpr, then_value}
use Rattle.wjs_meaning.specs.Statements as line
use Rattle.wjs_model.specs.declared.frame.Completion.TheVariants as completions
use Rattle.wjs_heap_steps.proofs.Composing.{does_map}
use Rattle.wjs_heap_steps.proofs.Later.{later_same, later_twice}
use Rattle.wjs_quick.proofs.Coming.{later_left}
use Rattle.wjs_effects.specs.Effects.{returns}
use Rattle.wjs_effects.specs.Making.{made_in}
use Rattle.wjs_effects.proofs.Leaving.{made_later, leaves_done, leaves_yielded, leaves_returned}
use Rattle.wjs_effects.proofs.carries.give_back.Goals as goal

pub returns-in_ok-value-in-Some-clause-does : goal.returns-in_ok-value-in-Some-clause-does
returns-in_ok-value-in-Some-clause-does g c =
    let m = g.S.WorldStore.meaning in
    let old = c.args.config.now in
    let f = c.args.frame.now in
    let v = c.in-Some.made in
    let value = c.in_ok-value-in-Some.value in
    let goal = AtExpr c.args.e.0 in
    let after = c.made_at.new.steps in
    let new = c.settle.new.config in
    let returned : Table → Value → Completion = λ t x. Returns x in
    leaves_done m (λ t env. Eval goal env (then_value line.return_value)) (returns v) (completions.Returns value) old f c.args.left after new
    (leaves_yielded m old f goal (λ t env. then_value line.return_value) (λ t. made_in t v) (returns v) c.args.left after after c.in-Some.ensures.does (leaves_returned m old f v after))
    (does_map m (λ t go. go (made_in t v)) (λ t. value_in t value) returned (record old { left = after }) new c.in_ok-value-in-Some.ensures.does)

pub returns-in_ok-value-in-Some-clause-later : goal.returns-in_ok-value-in-Some-clause-later
returns-in_ok-value-in-Some-clause-later g c =
    let m = g.S.WorldStore.meaning in
    let old = c.args.config.now in
    let left = c.made_at.new.steps in
    later_twice m old (record old { left = left }) c.settle.new.config (later_left m old left c.requires.base) c.in_ok-value-in-Some.ensures.later

pub returns-in-None-clause-later : goal.returns-in-None-clause-later
returns-in-None-clause-later g c = later_same g.S.WorldStore.meaning c.args.config.now c.requires.base

pub settle-requires-clause-base : goal.settle-requires-clause-base
settle-requires-clause-base g c = (later_left g.S.WorldStore.meaning c.args.config.now c.made_at.new.steps c.requires.base).base

pub settle-requires-clause-made : goal.settle-requires-clause-made
settle-requires-clause-made g c =
    let m = g.S.WorldStore.meaning in
    let old = c.args.config.now in
    let left = c.made_at.new.steps in
    made_later m old (record old { left = left }) c.in-Some.made (later_left m old left c.requires.base) c.in-Some.ensures.found
