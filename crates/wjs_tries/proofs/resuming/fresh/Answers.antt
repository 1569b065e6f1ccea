use Rattle.std.proofs.Common.{refl}
use Rattle.wjs_session.specs.Stores.{worlds_in}
use Rattle.wjs_session.proofs.AnswerLaws.{overlay_reached}
use Rattle.wjs_tries.specs.Meant.{session_meaning}
use Rattle.wjs_tries.proofs.Opens.{number_begun, meaning_begun}
use Rattle.wjs_tries.proofs.resuming.fresh.Goals as goal

pub returns-clause-opens : goal.returns-clause-opens
returns-clause-opens c =
    let shared = c.args.common.shared in
    let F = worlds_in shared in
    let store = c.in_ok-store.store in
    record {
      texts = refl;
      arena_is = refl;
      store = meaning_begun F c.args.owner store.world (session_meaning store) (overlay_reached shared c.requires.live) c.requires.new c.in_ok-store.ensures;
      units_are = refl;
      frames = c.new.ensures;
      global = refl;
      world = refl;
      owner_is = refl;
      pending = c.new-2.ensures.items;
      state = refl;
    }

pub returns-clause-number : goal.returns-clause-number
returns-clause-number c =
    let shared = c.args.common.shared in
    let store = c.in_ok-store.store in
    number_begun (worlds_in shared) c.args.owner store.world (session_meaning store)
    (overlay_reached shared c.requires.live) c.requires.new c.in_ok-store.ensures
