use Rattle.wjs_model.specs.Contents.{completion_in}
use Rattle.wjs_stopping.specs.Ends.{gives_in}
use Rattle.wjs_stopping.proofs.Evaluating.{due_stops}
use Rattle.wjs_stopping.proofs.laws.due_stops.Goals as goal

pub returns-clause-value : goal.returns-clause-value
returns-clause-value g c = due_stops g.S.WorldStore.meaning gives_in

pub returns-clause-completion : goal.returns-clause-completion
returns-clause-completion g c = due_stops g.S.WorldStore.meaning completion_in
