use Rattle.wjs_model.specs.Contents.{completion_in}
use Rattle.wjs_stopping.specs.Ends.{gives_in}
use Rattle.wjs_stopping.proofs.Evaluating.{form_is_line}
use Rattle.wjs_stopping.proofs.laws.form_is_line.Goals as goal

pub returns-clause-value : goal.returns-clause-value
returns-clause-value g c = form_is_line g.S.WorldStore.meaning gives_in

pub returns-clause-completion : goal.returns-clause-completion
returns-clause-completion g c = form_is_line g.S.WorldStore.meaning completion_in
