use Rattle.std.proofs.Common.{◌≡◌, sym, ap, ◌∙◌}
use Rattle.std.proofs.lemmas.Bool.{not-false}
use Rattle.wjs_store.specs.Meaning.{Meaning}
use Rattle.wjs_store.specs.State.{same_world}
use Rattle.wjs_store.proofs.Writes.{world_is}
use Rattle.wjs_session.specs.Stores.{worlds_in}
use Rattle.wjs_session.specs.Told.{told_of}
use Rattle.wjs_session.specs.Session.{session}
use Rattle.wjs_session_tests.proofs.Keeping.{same_number, same_around, turned_beside}
use Rattle.wjs_session_tests.proofs.pair.Pair.act.Goals as goal

pub resume-session-requires-clause-stands : goal.resume-session-requires-clause-stands
resume-session-requires-clause-stands c = c.args.self.one_rests c.args.self.live

pub rest-shared-requires : goal.rest-shared-requires
rest-shared-requires c = c.in_ok-answers.ensures.spent ∙ ap (λ (m : Meaning). m.spent) c.resume-session.ensures.same.is

pub invariant_of-result : goal.invariant_of-result
invariant_of-result c =
    let F = worlds_in c.args.self.shared in
    let F' = worlds_in c.rest-shared.result.0 in
    let one = c.args.self.one in
    let one' = c.rest-shared.result.1 in
    let two = c.args.self.two in
    let s = c.resume-session.result in
    let s' = c.run_actions.new.store in
    let k = (c.args.self.one_rests c.args.self.live).is in
    let is = c.resume-session.ensures.same.is in
    let m = session (worlds_in s.shared) s.world (worlds_in s.inner) (told_of s.told.chain.value) s.spent in
    let m' = session (worlds_in s'.shared) s'.world (worlds_in s'.inner) (told_of s'.told.chain.value) s'.spent in
    let told = told_of one.told.chain.value in
    let told' = told_of one'.told.chain.value in
    let same : one'.world ≡ one.world = same_number c.numbers_by_owner.ensures F one.world (worlds_in one.inner) told m F' one'.world (worlds_in one'.inner) told' m' c.first-world.result c.first.result k is c.first-world.ensures c.rest-shared.ensures.stands.is c.rest-shared.ensures.same c.first.ensures (world_is c.first.result c.first-world.result (not-false (same_world c.first.result c.first-world.result) (sym c.if-ne.ensures))) in
    let around = same_around F one.world (worlds_in one.inner) told m F' one'.world (worlds_in one'.inner) told' m' is c.rest-shared.ensures.same c.in_ok-answers.ensures.around in
    record {
      live = c.rest-shared.ensures.works;
      one_rests = λ e. c.rest-shared.ensures.stands;
      two_rests = λ e. turned_beside c.resting_stands_still.ensures c.turns_leave_others.ensures F F' one.world one'.world (worlds_in one.inner) (worlds_in one'.inner) same k c.rest-shared.ensures.stands.is around two c.args.self.apart (c.args.self.two_rests c.args.self.live);
      apart = ap (same_world two.world) same ∙ c.args.self.apart;
    }
