use Rattle.std.proofs.Common.{◌<◌, ◌-◌, sym, subst, arith, length}
use Rattle.wjs_session.specs.Stores.{worlds_in}
use Rattle.wjs_tries.specs.Meant.{session_meaning}
use Rattle.wjs_tries.proofs.Opens.{opened_listed, none_shown, begun, no_world_yet}
use Rattle.wjs_tries.proofs.opening.open.Goals as goal

pub fresh-requires-clause-new : goal.fresh-requires-clause-new
fresh-requires-clause-new c =
    let common = c.args.common in
    let some = c.requires.some in
    no_world_yet common.texts common.arena common.units.items (worlds_in common.shared) c.args.owner (c.args.owner - 1) c.requires.common (omega (arith, some))

pub enter-requires-clause-base : goal.enter-requires-clause-base
enter-requires-clause-base c =
    let common = c.args.common in
    let some = c.requires.some in
    (opened_listed common c.args.owner (c.args.owner - 1) c.in_ok-config.config c.in_ok-config.ensures.opens c.requires.common
    (omega (arith, some)) c.in_ok-config.ensures.apart c.requires.apart).base

pub enter-requires-clause-frames : goal.enter-requires-clause-frames
enter-requires-clause-frames c = c.in_ok-config.ensures.opens.frames

pub enter-requires-clause-part : goal.enter-requires-clause-part
enter-requires-clause-part c = subst (λ us. c.args.part < length us) (sym c.in_ok-config.ensures.opens.units_are) c.requires.part

pub enter-requires-clause-fresh : goal.enter-requires-clause-fresh
enter-requires-clause-fresh c =
    let common = c.args.common in
    let some = c.requires.some in
    none_shown session_meaning common.texts common.arena common.units.items (worlds_in common.shared) c.args.owner
    (c.args.owner - 1) c.in_ok-config.config c.in_ok-config.ensures.opens c.requires.common (omega (arith, some))

pub returns-clause-running : goal.returns-clause-running
returns-clause-running c = c.in_ok-enter.ensures.running

pub returns-clause-sound : goal.returns-clause-sound
returns-clause-sound c = c.in_ok-enter.ensures.sound

pub returns-clause-begun : goal.returns-clause-begun
returns-clause-begun c =
    let some = c.requires.some in
    begun c.args.common c.args.owner (c.args.owner - 1) c.args.part c.args.budget c.in_ok-config.config c.enter.new.config c.in_ok-config.ensures.opens
    c.requires.common (omega (arith, some)) c.in_ok-enter.ensures c.in_ok-config.ensures.units c.in_ok-config.ensures.apart c.requires.apart
