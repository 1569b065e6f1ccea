use Rattle.std.proofs.Common.{◌≡◌, sym, ap, ◌∙◌}
use Rattle.wjs_session.specs.Stores.{worlds_in}
use Rattle.wjs_session.specs.Session.{world_at, first_copy, owned}
use Rattle.wjs_session.proofs.StoreLaws.{first_full}
use Rattle.wjs_session.proofs.session.SessionWorldStore.first.Goals as goal

pub returns : goal.returns
returns c = first_full (world_at (worlds_in c.args.self.now.shared) c.args.self.now.world) (worlds_in c.args.self.now.inner) (owned (world_at (worlds_in c.args.self.now.shared) c.args.self.now.world) (first_copy (worlds_in c.args.self.now.shared))) ∙ c.first.ensures
