use Rattle.std.proofs.Common.{ℕ, Option, subst}
use Rattle.std.specs.Prelude.{unwrap_or}
use Rattle.wjs_heap_steps.proofs.Later.{later_same, later_twice}
use Rattle.wjs_effects.specs.Proceeding.{Proceeds}
use Rattle.wjs_effects.proofs.Proceeding.{proceeds_same, proceeds_twice}
use Rattle.wjs_literals.specs.Parts.{items_left}
use Rattle.wjs_literals.proofs.arrays.items_at_once.Goals as goal

pub loop-turn-init : goal.loop-turn-init
loop-turn-init g c =
    let m = g.S.WorldStore.meaning in
    let old = c.args.config.now in
    record { proceeds = proceeds_same m (items_left m old c.args.frame.now c.args.array c.args.from) old; later = later_same m old c.requires.base }

pub item_at_once-requires-clause-base : goal.item_at_once-requires-clause-base
item_at_once-requires-clause-base g c = c.loop-turn.invariant.later.base

pub item_at_once-requires-clause-there : goal.item_at_once-requires-clause-there
item_at_once-requires-clause-there g c = c.loop-turn.invariant.later.frames c.args.frame.now c.requires.there

pub item_at_once-requires-clause-array : goal.item_at_once-requires-clause-array
item_at_once-requires-clause-array g c = c.loop-turn.invariant.later.objects c.args.array c.requires.array

pub loop-turn-preserved : goal.loop-turn-preserved
loop-turn-preserved g c =
    let m = g.S.WorldStore.meaning in
    let f = c.args.frame.now in
    let o = c.args.array in
    let old = c.args.config.now in
    let l = c.loop-turn in
    let new = c.item_at_once.new.config in
    let P : Option ℕ → Type 0 = λ x. Proceeds m (items_left m l.config f o l.at) (items_left m new f o (unwrap_or x l.at)) l.config new in
    record {
      proceeds = proceeds_twice m (items_left m old f o c.args.from) (items_left m l.config f o l.at) (items_left m new f o c.in-Some.number) old l.config new l.invariant.proceeds (subst P c.in-Some.is c.in_ok-next.ensures.proceeds);
      later = later_twice m old l.config new l.invariant.later c.in_ok-next.ensures.later;
    }

-- nothing more is had at once
pub returns-in-None-clause-proceeds : goal.returns-in-None-clause-proceeds
returns-in-None-clause-proceeds g c =
    let m = g.S.WorldStore.meaning in
    let f = c.args.frame.now in
    let o = c.args.array in
    let old = c.args.config.now in
    let l = c.loop-turn in
    let new = c.item_at_once.new.config in
    let P : Option ℕ → Type 0 = λ x. Proceeds m (items_left m l.config f o l.at) (items_left m new f o (unwrap_or x l.at)) l.config new in
    proceeds_twice m (items_left m old f o c.args.from) (items_left m l.config f o l.at) (items_left m new f o l.at) old l.config new l.invariant.proceeds (subst P c.in-None.is c.in_ok-next.ensures.proceeds)

pub returns-in-None-clause-later : goal.returns-in-None-clause-later
returns-in-None-clause-later g c = later_twice g.S.WorldStore.meaning c.args.config.now c.loop-turn.config c.item_at_once.new.config c.loop-turn.invariant.later c.in_ok-next.ensures.later

pub returns-clause-proceeds : goal.returns-clause-proceeds
returns-clause-proceeds g c = c.loop-turn.invariant.proceeds

pub returns-clause-later : goal.returns-clause-later
returns-clause-later g c = c.loop-turn.invariant.later
