use Rattle.wjs_store.specs.State.{verdict_at, commit, committed}
use Rattle.wjs_store.specs.Shown.{verdict_of}
use Rattle.wjs_session.specs.Stores.{worlds_in}
use Rattle.wjs_session.proofs.CallLaws.{committed_is}
use Rattle.wjs_session.proofs.AnswerLaws.{of_does}
use Rattle.wjs_session.proofs.EndLaws.{settles_is}
use Rattle.wjs_session.proofs.session.Session.settle.Goals as goal

pub returns-clause-settles : goal.returns-clause-settles
returns-clause-settles c =
    let F = worlds_in c.args.self.shared in
    let v = verdict_of c.in_ok-verdict.verdict in
    let d = of_does c.args.self.shared c.commit.new.self (commit c.args.self.world) (committed v) c.in_ok-verdict.ensures.0 in
    settles_is F c.args.self.world (worlds_in c.args.self.inner) (c.args.self.kept c.requires) (worlds_in c.commit.new.self) c.in_ok-verdict.verdict d.worlds (committed_is v (verdict_at F c.args.self.world) d.answers)
