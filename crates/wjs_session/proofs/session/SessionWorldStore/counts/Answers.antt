use Rattle.std.proofs.Common.{◌≡◌, sym, ap, ◌∙◌}
use Rattle.wjs_session.specs.Stores.{worlds_in}
use Rattle.wjs_session.specs.Session.{world_at, first_copy, owned}
use Rattle.wjs_session.proofs.StoreLaws.{has_full, counts_full}
use Rattle.wjs_session.proofs.session.SessionWorldStore.counts.Goals as goal

pub counts-requires : goal.counts-requires
counts-requires c = sym (has_full (world_at (worlds_in c.args.self.now.shared) c.args.self.now.world) (worlds_in c.args.self.now.inner) (owned (world_at (worlds_in c.args.self.now.shared) c.args.self.now.world) (first_copy (worlds_in c.args.self.now.shared))) c.args.world) ∙ c.requires

pub returns : goal.returns
returns c = counts_full (world_at (worlds_in c.args.self.now.shared) c.args.self.now.world) (worlds_in c.args.self.now.inner) (owned (world_at (worlds_in c.args.self.now.shared) c.args.self.now.world) (first_copy (worlds_in c.args.self.now.shared))) c.args.world c.counts.result c.counts.ensures
