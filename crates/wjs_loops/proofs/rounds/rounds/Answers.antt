use Rattle.std.proofs.Common.{◌≡◌, Option, sym, subst}
use Rattle.std.specs.Prelude.{IfNone, IfSome}
use Rattle.wjs_heap_steps.proofs.Later.{later_same, later_twice}
use Rattle.wjs_effects.specs.Proceeding.{Proceeds}
use Rattle.wjs_effects.proofs.Proceeding.{proceeds_same, proceeds_twice}
use Rattle.wjs_loops.specs.declared.rounds.Position.{Position}
use Rattle.wjs_loops.specs.Rounds.{position_left, HasPosition}
use Rattle.wjs_loops.proofs.rounds.rounds.Goals as goal

pub loop-turn-init : goal.loop-turn-init
loop-turn-init g c =
    let m = g.S.WorldStore.meaning in
    let old = c.args.config.now in
    record { proceeds = proceeds_same m (position_left m old c.args.frame.now c.args.from) old; later = later_same m old c.requires.base; found = c.requires.from }

pub advance-requires-clause-base : goal.advance-requires-clause-base
advance-requires-clause-base g c = c.loop-turn.invariant.later.base

pub advance-requires-clause-there : goal.advance-requires-clause-there
advance-requires-clause-there g c = c.loop-turn.invariant.later.frames c.args.frame.now c.requires.there

pub advance-requires-clause-at : goal.advance-requires-clause-at
advance-requires-clause-at g c = c.loop-turn.invariant.found

pub loop-turn-preserved : goal.loop-turn-preserved
loop-turn-preserved g c =
    let m = g.S.WorldStore.meaning in
    let f = c.args.frame.now in
    let old = c.args.config.now in
    let cur = c.loop-turn.config in
    let new = c.advance.new.config in
    let next = c.in-Some.next in
    let P : Option Position → Type 0 = λ o. IfSome o (λ p. Proceeds m (position_left m cur f c.loop-turn.at) (position_left m new f p) cur new) in
    let H : Option Position → Type 0 = λ o. IfSome o (λ p. HasPosition new f p) in
    record {
      proceeds = proceeds_twice m (position_left m old f c.args.from) (position_left m cur f c.loop-turn.at) (position_left m new f next) old cur new c.loop-turn.invariant.proceeds (subst P c.in-Some.is c.in_ok-reached.ensures.proceeds);
      later = later_twice m old cur new c.loop-turn.invariant.later c.in_ok-reached.ensures.later;
      found = subst H c.in-Some.is c.in_ok-reached.ensures.found;
    }

-- nothing more is done at once
pub returns-in-None-clause-proceeds : goal.returns-in-None-clause-proceeds
returns-in-None-clause-proceeds g c =
    let m = g.S.WorldStore.meaning in
    let f = c.args.frame.now in
    let old = c.args.config.now in
    let cur = c.loop-turn.config in
    let new = c.advance.new.config in
    let N : Option Position → Type 0 = λ o. IfNone o (new ≡ cur) in
    subst (λ x. Proceeds m (position_left m old f c.args.from) (position_left m x f c.loop-turn.at) old x) (sym (subst N c.in-None.is c.in_ok-reached.ensures.same)) c.loop-turn.invariant.proceeds

pub returns-in-None-clause-later : goal.returns-in-None-clause-later
returns-in-None-clause-later g c = later_twice g.S.WorldStore.meaning c.args.config.now c.loop-turn.config c.advance.new.config c.loop-turn.invariant.later c.in_ok-reached.ensures.later

pub returns-in-None-clause-found : goal.returns-in-None-clause-found
returns-in-None-clause-found g c =
    let cur = c.loop-turn.config in
    let new = c.advance.new.config in
    let N : Option Position → Type 0 = λ o. IfNone o (new ≡ cur) in
    subst (λ x. HasPosition x c.args.frame.now c.loop-turn.at) (sym (subst N c.in-None.is c.in_ok-reached.ensures.same)) c.loop-turn.invariant.found

pub returns-clause-proceeds : goal.returns-clause-proceeds
returns-clause-proceeds g c = c.loop-turn.invariant.proceeds

pub returns-clause-later : goal.returns-clause-later
returns-clause-later g c = c.loop-turn.invariant.later

pub returns-clause-found : goal.returns-clause-found
returns-clause-found g c = c.loop-turn.invariant.found
