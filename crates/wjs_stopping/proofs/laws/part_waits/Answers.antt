use Rattle.wjs_model.specs.Contents.{completion_in}
use Rattle.wjs_stopping.specs.Ends.{gives_in}
use Rattle.wjs_stopping.proofs.Evaluating.{part_waits}
use Rattle.wjs_stopping.proofs.laws.part_waits.Goals as goal

pub returns-clause-value : goal.returns-clause-value
returns-clause-value g c = part_waits g.S.WorldStore.meaning gives_in gives_in

pub returns-clause-value_completion : goal.returns-clause-value_completion
returns-clause-value_completion g c = part_waits g.S.WorldStore.meaning gives_in completion_in

pub returns-clause-completion : goal.returns-clause-completion
returns-clause-completion g c = part_waits g.S.WorldStore.meaning completion_in completion_in
