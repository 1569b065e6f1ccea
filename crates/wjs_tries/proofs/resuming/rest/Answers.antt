use Rattle.std.proofs.Common.{◌<◌, length, set, sym, ◌∙◌, subst}
use Rattle.wjs_tries.proofs.resuming.rest.Goals as goal

pub pause-common-requires-clause-live : goal.pause-common-requires-clause-live
pause-common-requires-clause-live c = c.requires.live

pub pause-common-requires-clause-others : goal.pause-common-requires-clause-others
pause-common-requires-clause-others c = c.requires.others

pub pause-common-requires-clause-worlds : goal.pause-common-requires-clause-worlds
pause-common-requires-clause-worlds c = c.requires.worlds

pub set_apart-requires : goal.set_apart-requires
set_apart-requires c = subst (λ v. c.args.place < length v.items) (sym c.pause-common.ensures.apart) c.requires.place

pub returns-clause-shares : goal.returns-clause-shares
returns-clause-shares c =
    let s = c.pause-common.ensures.shares in
    record { texts = s.texts; arena_is = s.arena_is; units = s.units; worlds = s.worlds; works = s.works }

pub returns-clause-stands : goal.returns-clause-stands
returns-clause-stands c = c.pause-common.ensures.stands

pub returns-clause-same : goal.returns-clause-same
returns-clause-same c = c.pause-common.ensures.same

pub returns-clause-list : goal.returns-clause-list
returns-clause-list c =
    let e = c.pause-common.ensures in
    c.set_apart.ensures ∙ (λ i. set ((e.apart i).items) c.args.place (e.owner i))
