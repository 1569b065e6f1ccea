use Rattle.std.proofs.Common.{false, refl}
use Rattle.wjs_session.specs.Session.{session}
use Rattle.wjs_session.specs.Stores.{worlds_in}
use Rattle.wjs_session.specs.Told.{told_of}
use Rattle.wjs_session.proofs.RestLaws.{resumed}
use Rattle.wjs_session.proofs.resting.Resting.resume.Goals as goal

pub invariant_of-result : goal.invariant_of-result
invariant_of-result c = record {
  works = λ e. (c.requires.live, c.args.self.works);
  kept = λ e. c.requires.stands.is;
  alone = c.args.self.alone;
  marks = λ e. c.requires.stands.tells;
}

pub returns-clause-same : goal.returns-clause-same
returns-clause-same c =
    let told = told_of c.args.self.told.chain.value in
    resumed (worlds_in c.args.shared) c.args.self.world (worlds_in c.args.self.inner) told (session (worlds_in c.args.shared) c.args.self.world (worlds_in c.args.self.inner) told false) refl
