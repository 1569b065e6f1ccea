use Rattle.wjs_model.specs.Contents.{completion_in}
use Rattle.wjs_stopping.specs.Ends.{gives_in}
use Rattle.wjs_stopping.proofs.Evaluating.{entry_is_paid}
use Rattle.wjs_stopping.proofs.laws.entry_is_paid.Goals as goal

pub returns-clause-value : goal.returns-clause-value
returns-clause-value g c = entry_is_paid g.S.WorldStore.meaning gives_in

pub returns-clause-completion : goal.returns-clause-completion
returns-clause-completion g c = entry_is_paid g.S.WorldStore.meaning completion_in
