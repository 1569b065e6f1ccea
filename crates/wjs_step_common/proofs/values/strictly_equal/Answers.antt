use Rattle.std.proofs.Common.{sym}
use Rattle.wjs_step_common.proofs.Knowing.{knows_later}
use Rattle.wjs_step_common.proofs.values.strictly_equal.Goals as goal

pub returns : goal.returns
returns g c = λ t grows. sym (c.strictly_equal.ensures t (knows_later g.S.WorldStore.meaning c.args.config.now t c.args.left c.requires.base c.requires.left grows) (knows_later g.S.WorldStore.meaning c.args.config.now t c.args.right c.requires.base c.requires.right grows))
