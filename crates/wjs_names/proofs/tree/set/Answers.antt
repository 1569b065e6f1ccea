use Rattle.std.proofs.Common.{◌∙◌}
use Rattle.wjs_names.proofs.Lists.{insert_put}
use Rattle.wjs_names.proofs.tree.set.Goals as goal

pub returns-clause-ok : goal.returns-clause-ok
returns-clause-ok g c = c.in_ok-before.ensures.entries ∙ insert_put g.K.Ord.cmp c.args.tree.now.entries c.args.key c.args.value
