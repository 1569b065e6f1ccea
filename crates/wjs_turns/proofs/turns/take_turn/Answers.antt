use Rattle.std.proofs.Common.{◌<◌, length, sym, ap, ◌∙◌, subst}
use Rattle.std.proofs.lemmas.Result.{IfOk-weaker}
use Rattle.wjs_arena.specs.Entries.{Objects, IsArena}
use Rattle.wjs_tries.specs.Meant.{session_meaning}
use Rattle.wjs_tries.proofs.Exactly.{exact_rests, exact_over}
use Rattle.wjs_tries.proofs.Finished.{finished_turned}
use Rattle.wjs_tries.proofs.Hidings.{rests_apart, ends_apart_ok}
use Rattle.wjs_tries.proofs.Owning.{others_stay, worlds_are_own}
use Rattle.wjs_tries.proofs.Rests.{rests_turned, less_left, not_whole, less_awake}
use Rattle.wjs_tries.proofs.Turned.{live, first_stays}
use Rattle.wjs_turns.proofs.turns.take_turn.Goals as goal

pub rest-common-requires-clause-live : goal.rest-common-requires-clause-live
rest-common-requires-clause-live c = live c.walk.new.config c.in_ok-_taken.ensures.sound.base

pub rest-common-requires-clause-place : goal.rest-common-requires-clause-place
rest-common-requires-clause-place c = subst (λ v. c.args.place < length v.items) (sym c.in_ok-_taken.ensures.stays.apart) c.requires.place

pub rest-common-requires-clause-others : goal.rest-common-requires-clause-others
rest-common-requires-clause-others c =
    subst (λ (m : Objects). IsArena m) (sym (others_stay session_meaning c.args.config c.walk.new.config c.in_ok-_taken.ensures.stays)) c.requires.others

pub rest-common-requires-clause-worlds : goal.rest-common-requires-clause-worlds
rest-common-requires-clause-worlds c = worlds_are_own c.walk.new.config.heap.arena c.in_ok-_taken.ensures.sound.base.worlds_by

pub finish-requires-clause-others : goal.finish-requires-clause-others
finish-requires-clause-others c =
    subst (λ (m : Objects). IsArena m) (sym (others_stay session_meaning c.args.config c.walk.new.config c.in_ok-_taken.ensures.stays)) c.requires.others

pub finish-requires-clause-over : goal.finish-requires-clause-over
finish-requires-clause-over c = c.in_default.not-Running

pub finish-requires-clause-sound : goal.finish-requires-clause-sound
finish-requires-clause-sound c = c.in_ok-_taken.ensures.sound

-- it rests
pub returns-in-Running-clause-turned : goal.returns-in-Running-clause-turned
returns-in-Running-clause-turned c = λ trees tree budget drawn is.
    let old = c.args.config in
    let new = c.walk.new.config in
    let w = c.in_ok-_taken.ensures in
    let r = c.rest-common.result in
    rests_turned trees tree budget drawn c.args.steps c.in_ok-_taken._taken old new is w c.in-Running.is r.0 r.1 c.rest-common.ensures.shares
    c.rest-common.ensures.stands c.rest-common.ensures.number
    (c.rest-common.ensures.same c.in-Running.is (w.stays.global ∙ is.trying.global)
    (w.stays.world ∙ is.trying.world ∙ ap (λ q. record { owner = q; serial = 0 })
    (sym w.stays.owner))) c.rest-common.ensures.owner c.rest-common.ensures.objects c.rest-common.ensures.left

pub returns-in-Running-clause-whole : goal.returns-in-Running-clause-whole
returns-in-Running-clause-whole c =
    λ le rests. not_whole c.args.steps c.in_ok-_taken._taken c.args.config c.walk.new.config c.in_ok-_taken.ensures c.in-Running.is le

pub returns-in-Running-clause-less : goal.returns-in-Running-clause-less
returns-in-Running-clause-less c =
    λ some. less_left c.args.steps c.in_ok-_taken._taken c.rest-common.result.1.left c.args.config c.walk.new.config c.in_ok-_taken.ensures c.in-Running.is
    c.rest-common.ensures.left some

pub returns-in-Running-clause-certain : goal.returns-in-Running-clause-certain
returns-in-Running-clause-certain c = λ own e. cc

-- it has ended
pub returns-in_default-clause-turned : goal.returns-in_default-clause-turned
returns-in_default-clause-turned c =
    IfOk-weaker c.finish.result _ _
    (λ r h trees tree budget drawn is. finished_turned trees tree budget drawn c.args.steps c.in_ok-_taken._taken c.args.config c.walk.new.config r.0 r.1 is
    c.in_ok-_taken.ensures c.in_default.not-Running (λ over. h trees tree budget drawn over))
    c.finish.ensures.turned

pub returns-in_default-clause-whole : goal.returns-in_default-clause-whole
returns-in_default-clause-whole c = IfOk-weaker c.finish.result _ _ (λ r h le. h) c.finish.ensures.awake

pub returns-in_default-clause-less : goal.returns-in_default-clause-less
returns-in_default-clause-less c = IfOk-weaker c.finish.result _ _ (λ r h some. less_awake c.args.config.left r.1 h) c.finish.ensures.awake

pub returns-in_default-clause-certain : goal.returns-in_default-clause-certain
returns-in_default-clause-certain c =
    let old = c.args.config in
    let new = c.walk.new.config in
    let w = c.in_ok-_taken.ensures in
    IfOk-weaker c.finish.result _ _
    (λ r h own. h (w.stays.own ∙ own ∙ sym (first_stays old new c.requires.sound.base w.sound.base w.stays)))
    c.finish.ensures.certain

-- it is the definition's turn
pub returns-in-Running-clause-exact : goal.returns-in-Running-clause-exact
returns-in-Running-clause-exact c = λ trees tree budget drawn is known.
    let r = c.rest-common.result in
    exact_rests trees tree budget drawn c.args.steps c.in_ok-_taken._taken c.args.config c.walk.new.config is c.in_ok-_taken.ensures known c.in-Running.is r.0
    r.1 c.rest-common.ensures.shares c.rest-common.ensures.number c.rest-common.ensures.left

pub returns-in_default-clause-exact : goal.returns-in_default-clause-exact
returns-in_default-clause-exact c =
    IfOk-weaker c.finish.result _ _
    (λ r h trees tree budget drawn is known. exact_over trees tree budget drawn c.args.steps c.in_ok-_taken._taken c.args.config c.walk.new.config is
    c.in_ok-_taken.ensures known r.0 h.texts c.in_default.not-Running r.1 h.arena_is h.by_check)
    c.finish.ensures.checked

-- and names nothing of what is kept apart
pub returns-in-Running-clause-apart : goal.returns-in-Running-clause-apart
returns-in-Running-clause-apart c = λ trees tree budget drawn is.
    let old = c.args.config in
    let new = c.walk.new.config in
    let w = c.in_ok-_taken.ensures in
    let r = c.rest-common.result in
    rests_apart c.args.place old new c.requires.sound w.stays w.sound r.0 r.1 c.rest-common.ensures.shares
    (c.rest-common.ensures.same c.in-Running.is (w.stays.global ∙ is.trying.global)
    (w.stays.world ∙ is.trying.world ∙ ap (λ q. record { owner = q; serial = 0 }) (sym w.stays.owner))) c.rest-common.ensures.list

pub returns-in_default-clause-apart : goal.returns-in_default-clause-apart
returns-in_default-clause-apart c =
    let w = c.in_ok-_taken.ensures in
    IfOk-weaker c.finish.result _ _
    (λ r h trees tree budget drawn is. h)
    (ends_apart_ok c.args.place c.args.config c.walk.new.config c.requires.sound w.stays w.sound c.finish.result c.finish.ensures.apart c.finish.ensures.awake)
