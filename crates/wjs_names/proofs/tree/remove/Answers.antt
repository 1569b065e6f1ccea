use Rattle.std.proofs.Common.{◌∙◌}
use Rattle.wjs_names.proofs.Lists.{remove_without}
use Rattle.wjs_names.proofs.tree.remove.Goals as goal

pub returns-clause-removed : goal.returns-clause-removed
returns-clause-removed g c = c.remove.ensures.entries ∙ remove_without g.met.K.Ord.total c.args.key.now c.args.tree.now.entries c.requires
