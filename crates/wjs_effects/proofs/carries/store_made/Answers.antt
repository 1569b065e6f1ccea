use Rattle.std.proofs.Common.{sym, subst}
use Rattle.std.proofs.lemmas.Result.{on_ok_weaker}
use Rattle.wjs_model.specs.declared.frame.Completion.{Completion}
use Rattle.wjs_model.specs.Contents.{completion_in}
use Rattle.wjs_model.specs.Soundness.{HasCompletion}
use Rattle.wjs_heap_steps.proofs.Composing.{if_ok}
use Rattle.wjs_heap_steps.proofs.Later.{later_twice}
use Rattle.wjs_quick.proofs.Coming.{later_left}
use Rattle.wjs_effects.specs.Effects.{told_in}
use Rattle.wjs_effects.proofs.Carrying.{carry_made, carry_told, told_there}
use Rattle.wjs_effects.proofs.Leaving.{made_later}
use Rattle.wjs_effects.proofs.carries.store_made.Goals as goal

pub returns-clause-does : goal.returns-clause-does
returns-clause-does g c =
    let m = g.S.WorldStore.meaning in
    let old = record c.args.config.now { left = c.args.left } in
    let mid = c.settle.new.config in
    let new = c.store_and_end.new.config in
    let f = c.args.frame.now in
    let v = c.in_ok-value.value in
    if_ok _ _ c.store_and_end.result (λ e d. carry_made m f c.args.reference c.args.made (λ t x. told_in c.args.told x) v (λ t. completion_in t e) old mid new c.in_ok-value.ensures.does c.in_ok-value.ensures.later
    (carry_told m f c.args.reference v c.args.told c.told_of.result (λ t. completion_in t e) mid new c.told_of.ensures d)) c.store_and_end.ensures.does

pub returns-clause-later : goal.returns-clause-later
returns-clause-later g c =
    let m = g.S.WorldStore.meaning in
    let old = c.args.config.now in
    let left = c.args.left in
    let mid = c.settle.new.config in
    on_ok_weaker c.store_and_end.result (λ l. later_twice m old mid c.store_and_end.new.config (later_twice m old (record old { left = left }) mid (later_left m old left c.requires.base) c.in_ok-value.ensures.later) l) c.store_and_end.ensures.later

-- what they name is there
pub settle-requires-clause-base : goal.settle-requires-clause-base
settle-requires-clause-base g c = (later_left g.S.WorldStore.meaning c.args.config.now c.args.left c.requires.base).base

pub settle-requires-clause-made : goal.settle-requires-clause-made
settle-requires-clause-made g c =
    let m = g.S.WorldStore.meaning in
    let old = c.args.config.now in
    let left = c.args.left in
    made_later m old (record old { left = left }) c.args.made (later_left m old left c.requires.base) c.requires.made

pub store_and_end-requires-clause-base : goal.store_and_end-requires-clause-base
store_and_end-requires-clause-base g c = c.in_ok-value.ensures.later.base

pub store_and_end-requires-clause-there : goal.store_and_end-requires-clause-there
store_and_end-requires-clause-there g c = c.in_ok-value.ensures.later.frames c.args.frame.now ((later_left g.S.WorldStore.meaning c.args.config.now c.args.left c.requires.base).frames c.args.frame.now c.requires.there)

pub store_and_end-requires-clause-reference : goal.store_and_end-requires-clause-reference
store_and_end-requires-clause-reference g c = c.in_ok-value.ensures.later.references c.args.reference ((later_left g.S.WorldStore.meaning c.args.config.now c.args.left c.requires.base).references c.args.reference c.requires.reference)

pub store_and_end-requires-clause-completion : goal.store_and_end-requires-clause-completion
store_and_end-requires-clause-completion g c =
    let mid = c.settle.new.config in
    subst (λ (e : Completion). HasCompletion mid e) (sym c.told_of.ensures) (told_there mid c.args.told c.in_ok-value.value c.in_ok-value.ensures.found)
