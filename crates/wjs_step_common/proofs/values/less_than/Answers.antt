use Rattle.std.proofs.Common.{sym}
use Rattle.wjs_step_common.proofs.Knowing.{knows, value_stays}
use Rattle.wjs_step_common.proofs.values.less_than.Goals as goal

pub less_than-requires-clause-first : goal.less_than-requires-clause-first
less_than-requires-clause-first g c = knows g.S.WorldStore.meaning c.args.config.now c.args.left c.requires.base c.requires.left

pub less_than-requires-clause-second : goal.less_than-requires-clause-second
less_than-requires-clause-second g c = knows g.S.WorldStore.meaning c.args.config.now c.args.right c.requires.base c.requires.right

pub returns : goal.returns
returns g c = λ t grows. rw (value_stays g.S.WorldStore.meaning c.args.config.now t c.args.left c.requires.base c.requires.left grows, value_stays g.S.WorldStore.meaning c.args.config.now t c.args.right c.requires.base c.requires.right grows) (sym c.less_than.ensures)
