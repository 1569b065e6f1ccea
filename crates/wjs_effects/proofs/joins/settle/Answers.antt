use Rattle.std.proofs.Common.{sym, subst}
use Rattle.wjs_by_content.specs.Tables.{value_in}
use Rattle.wjs_frames.specs.Doing.{Does}
use Rattle.wjs_heap_steps.proofs.Composing.{does_at_once, if_ok}
use Rattle.wjs_heap_steps.proofs.Later.{later_same}
use Rattle.wjs_effects.specs.declared.effect.Made.{Made}
use Rattle.wjs_effects.specs.Making.{made_in, HasMade}
use Rattle.wjs_effects.proofs.joins.settle.Goals as goal

pub returns-in-There-clause-does : goal.returns-in-There-clause-does
returns-in-There-clause-does g c =
    let m = g.S.WorldStore.meaning in
    let old = c.args.config.now in
    let v = c.in-There.value in
    subst (λ (x : Made). Does m (λ t go. go (made_in t x)) (λ t. value_in t v) old old) (sym c.in-There.is) (does_at_once m (λ t. value_in t v) old)

pub returns-in-There-clause-later : goal.returns-in-There-clause-later
returns-in-There-clause-later g c = later_same g.S.WorldStore.meaning c.args.config.now c.requires.base

pub returns-in-There-clause-found : goal.returns-in-There-clause-found
returns-in-There-clause-found g c = subst (λ (x : Made). HasMade c.args.config.now x) c.in-There.is c.requires.made

pub returns-in-Joined-clause-does : goal.returns-in-Joined-clause-does
returns-in-Joined-clause-does g c =
    let m = g.S.WorldStore.meaning in
    let old = c.args.config.now in
    if_ok _ _ c.join.result (λ v d. subst (λ (x : Made). Does m (λ t go. go (made_in t x)) (λ t. value_in t v) old c.join.new.config) (sym c.in-Joined.is) d) c.join.ensures.does

pub join-requires-clause-pieces : goal.join-requires-clause-pieces
join-requires-clause-pieces g c = subst (λ (x : Made). HasMade c.args.config.now x) c.in-Joined.is c.requires.made
