use Rattle.std.proofs.Common.{sym}
use Rattle.wjs_step_common.proofs.Knowing.{knows, value_stays}
use Rattle.wjs_step_common.proofs.values.loosely_equal.Goals as goal

pub loosely_equal-requires-clause-first : goal.loosely_equal-requires-clause-first
loosely_equal-requires-clause-first g c = knows g.S.WorldStore.meaning c.args.config.now c.args.left c.requires.base c.requires.left

pub loosely_equal-requires-clause-second : goal.loosely_equal-requires-clause-second
loosely_equal-requires-clause-second g c = knows g.S.WorldStore.meaning c.args.config.now c.args.right c.requires.base c.requires.right

pub returns : goal.returns
returns g c = λ t grows. rw (value_stays g.S.WorldStore.meaning c.args.config.now t c.args.left c.requires.base c.requires.left grows, value_stays g.S.WorldStore.meaning c.args.config.now t c.args.right c.requires.base c.requires.right grows) (sym c.loosely_equal.ensures)
