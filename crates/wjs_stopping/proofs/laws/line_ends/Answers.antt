use Rattle.wjs_model.specs.Contents.{completion_in}
use Rattle.wjs_stopping.specs.Ends.{gives_in}
use Rattle.wjs_stopping.proofs.Evaluating.{line_ends}
use Rattle.wjs_stopping.proofs.laws.line_ends.Goals as goal

pub returns-clause-value : goal.returns-clause-value
returns-clause-value g c = line_ends g.S.WorldStore.meaning gives_in

pub returns-clause-completion : goal.returns-clause-completion
returns-clause-completion g c = line_ends g.S.WorldStore.meaning completion_in
