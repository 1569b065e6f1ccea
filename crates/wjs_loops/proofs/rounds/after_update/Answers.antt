use Rattle.std.proofs.Common.{ap}
use Rattle.wjs_meaning.specs.Deeds.{then_value}
use Rattle.wjs_meaning.specs.Loops.{loop_updated}
use Rattle.wjs_model.specs.declared.frame.Completion.{Completion}
use Rattle.wjs_model.specs.Contents.{completion_in}
use Rattle.wjs_effects.proofs.Passing.{value_passes}
use Rattle.wjs_loops.proofs.rounds.after_update.Goals as goal

pub returns-in-Gives-clause-is : goal.returns-in-Gives-clause-is
returns-in-Gives-clause-is g c = λ t here env. ap (λ (e : Completion). then_value (loop_updated here env) (completion_in t e)) c.in-Gives.is

pub returns-in_default-clause-is : goal.returns-in_default-clause-is
returns-in_default-clause-is g c = λ t here env. value_passes (loop_updated here env) t c.args.completion c.in_default.not-Gives
