use Rattle.wjs_literals.proofs.CallLines.{held_same}
use Rattle.wjs_literals.proofs.arguments.argument_at_once.Goals as goal

pub returns-in-None : goal.returns-in-None
returns-in-None g c = held_same g.S.WorldStore.meaning c.args.config.now c.args.frame.now c.args.at c.requires.runs
