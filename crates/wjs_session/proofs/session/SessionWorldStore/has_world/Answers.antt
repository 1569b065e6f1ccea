use Rattle.std.proofs.Common.{◌≡◌, sym, ap, ◌∙◌}
use Rattle.wjs_session.specs.Stores.{worlds_in}
use Rattle.wjs_session.specs.Session.{world_at, first_copy, owned}
use Rattle.wjs_session.proofs.StoreLaws.{has_full}
use Rattle.wjs_session.proofs.session.SessionWorldStore.has_world.Goals as goal

pub returns : goal.returns
returns c = c.has_world.ensures ∙ sym (has_full (world_at (worlds_in c.args.self.now.shared) c.args.self.now.world) (worlds_in c.args.self.now.inner) (owned (world_at (worlds_in c.args.self.now.shared) c.args.self.now.world) (first_copy (worlds_in c.args.self.now.shared))) c.args.world)
