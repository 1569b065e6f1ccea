use Rattle.wjs_literals.specs.Arguments.{ArgumentsHeld}
use Rattle.wjs_literals.proofs.arguments.arguments_at_once.Given as goal

-- the values so far are held
abbrev pub invariant-loop-turn : goal.invariant-loop-turn
invariant-loop-turn g l = ArgumentsHeld g.S.WorldStore.meaning l.fn.config l.fn.frame l.fn.from l.config l.frame l.at
