use Rattle.wjs_meaning.specs.Expressions as line
use Rattle.wjs_model.specs.Contents.{reference_in}
use Rattle.wjs_model.specs.Waiting.{fix_in}
use Rattle.wjs_heap_steps.proofs.Later.{later_same, later_twice}
use Rattle.wjs_quick.proofs.Coming.{later_left}
use Rattle.wjs_effects.specs.Effects.{updates}
use Rattle.wjs_effects.proofs.Leaving.{leaves_done}
use Rattle.wjs_effects.proofs.stores.update_at.Goals as goal

pub returns-in_ok-completion-in-Some-clause-does : goal.returns-in_ok-completion-in-Some-clause-does
returns-in_ok-completion-in-Some-clause-does g c =
    let m = g.S.WorldStore.meaning in
    let old = c.args.config.now in
    let f = c.args.frame.now in
    let q = c.args.reference in
    let left = c.args.left in
    let u = c.in-Some.counted in
    let done = c.in_ok-completion-in-Some in
    leaves_done m (λ t env. line.update_reference (fix_in c.args.fix) c.args.operator env (reference_in t q)) (updates q u.next u.told) done.completion old f left left c.store_and_end.new.config (c.in-Some.ensures left) done.ensures.does

pub returns-in_ok-completion-in-Some-clause-later : goal.returns-in_ok-completion-in-Some-clause-later
returns-in_ok-completion-in-Some-clause-later g c =
    let m = g.S.WorldStore.meaning in
    let old = c.args.config.now in
    let left = c.args.left in
    later_twice m old (record old { left = left }) c.store_and_end.new.config (later_left m old left c.requires.base) c.in_ok-completion-in-Some.ensures.later

pub returns-in-None-clause-later : goal.returns-in-None-clause-later
returns-in-None-clause-later g c = later_same g.S.WorldStore.meaning c.args.config.now c.requires.base

-- what is stored is there
pub store_and_end-requires-clause-base : goal.store_and_end-requires-clause-base
store_and_end-requires-clause-base g c = (later_left g.S.WorldStore.meaning c.args.config.now c.args.left c.requires.base).base

pub store_and_end-requires-clause-there : goal.store_and_end-requires-clause-there
store_and_end-requires-clause-there g c = (later_left g.S.WorldStore.meaning c.args.config.now c.args.left c.requires.base).frames c.args.frame.now c.requires.there

pub store_and_end-requires-clause-reference : goal.store_and_end-requires-clause-reference
store_and_end-requires-clause-reference g c = (later_left g.S.WorldStore.meaning c.args.config.now c.args.left c.requires.base).references c.args.reference c.requires.reference
