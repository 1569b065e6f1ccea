use Rattle.std.proofs.Common.{ap, ◌∙◌}
use Rattle.wjs_store.specs.Meaning.{Meaning}
use Rattle.wjs_session.specs.Stores.{worlds_in}
use Rattle.wjs_session.specs.Told.{told_of}
use Rattle.wjs_session.specs.Session.{session}
use Rattle.wjs_session_tests.proofs.Keeping.{of_two_owners, begun_beside}
use Rattle.wjs_session_tests.proofs.pair.Pair.begin.Goals as goal

pub rest-shared-requires : goal.rest-shared-requires
rest-shared-requires c = c.in_ok-first.ensures.works

pub rest-shared-requires-2 : goal.rest-shared-requires-2
rest-shared-requires-2 c = c.in_ok-second.ensures.works

pub invariant_of-result : goal.invariant_of-result
invariant_of-result c =
    let F = worlds_in c.rest-shared.result.0 in
    let F' = worlds_in c.rest-shared-2.result.0 in
    let one = c.rest-shared.result.1 in
    let two = c.rest-shared-2.result.1 in
    let s = c.in_ok-second.second in
    let m = session (worlds_in s.shared) s.world (worlds_in s.inner) (told_of s.told.chain.value) s.spent in
    let apart = of_two_owners F (worlds_in c.args.shared) two.world one.world (c.rest-shared-2.ensures.world ∙ c.in_ok-second.ensures.number) (c.rest-shared.ensures.world ∙ c.in_ok-first.ensures.number) in
    record {
      live = c.rest-shared-2.ensures.works;
      one_rests = λ e. begun_beside c.resting_stands_still.ensures c.begins_leave_others.ensures F F' 2 two.world s.world m (worlds_in two.inner) c.in_ok-second.ensures c.rest-shared-2.ensures.world c.rest-shared-2.ensures.stands.is (ap (λ (n : Meaning). n.around) c.rest-shared-2.ensures.same) one apart.1 c.rest-shared.ensures.stands;
      two_rests = λ e. c.rest-shared-2.ensures.stands;
      apart = apart.0;
    }
