use Rattle.wjs_step_common.proofs.Following.{follows_as}
use Rattle.wjs_meaning.specs.Expressions.{complement_number}
use Rattle.wjs_operators.proofs.Operators.{number_passes}
use Rattle.wjs_assigns.proofs.prefixes.complement_converted.Goals as goal

pub returns-in_default : goal.returns-in_default
returns-in_default g c = follows_as _ _ _ _ _ _ (λ grows. number_passes complement_number c.finish.new.config.heap.texts c.args.value c.in_default.not-Number) c.finish.ensures
