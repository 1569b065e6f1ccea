use Rattle.std.proofs.Common.{ap, ◌∙◌}
use Rattle.wjs_store.specs.Meaning.{Meaning}
use Rattle.wjs_store.specs.State.{same_world}
use Rattle.wjs_session.specs.Stores.{worlds_in}
use Rattle.wjs_session_tests.proofs.Keeping.{turned_beside, ended_beside}
use Rattle.wjs_session_tests.proofs.pair.Pair.settle.Goals as goal

pub resume-session-requires-clause-stands : goal.resume-session-requires-clause-stands
resume-session-requires-clause-stands c = c.args.self.one_rests c.args.self.live

pub agrees-agrees-requires : goal.agrees-agrees-requires
agrees-agrees-requires c = ap (λ (m : Meaning). m.spent) c.resume-session.ensures.same.is

pub settle-requires : goal.settle-requires
settle-requires c = ap (λ (m : Meaning). m.spent) c.resume-session.ensures.same.is

pub resume-requires-clause-stands : goal.resume-requires-clause-stands
resume-requires-clause-stands c =
    let F = worlds_in c.args.self.shared in
    let s = c.resume-session.result in
    let one = c.args.self.one in
    let two = c.args.self.two in
    let is = c.resume-session.ensures.same.is in
    let k = (c.args.self.one_rests c.args.self.live).is in
    let k' = s.kept (ap (λ (m : Meaning). m.spent) is) in
    let rests = turned_beside c.resting_stands_still.ensures c.turns_leave_others.ensures F (worlds_in s.shared) one.world s.world (worlds_in one.inner) (worlds_in s.inner) c.resume-session.ensures.world k k' (ap (λ (m : Meaning). m.around) is) two c.args.self.apart (c.args.self.two_rests c.args.self.live) in
    ended_beside c.resting_stands_still.ensures c.ends_leave_others.ensures (worlds_in s.shared) (worlds_in c.in_ok-shared.shared) s.world (worlds_in s.inner) c.in_ok-shared.verdict k' c.in_ok-shared.ensures.settles two (ap (same_world two.world) c.resume-session.ensures.world ∙ c.args.self.apart) rests
