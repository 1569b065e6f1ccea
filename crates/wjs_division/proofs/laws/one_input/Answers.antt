use Rattle.wjs_division.proofs.OneInput.{one_input, one_fault, input_or_fault}
use Rattle.wjs_division.proofs.laws.one_input.Goals as goal

pub returns-clause-trees : goal.returns-clause-trees
returns-clause-trees c = one_input c.one_program.ensures

pub returns-clause-fault : goal.returns-clause-fault
returns-clause-fault c = one_fault c.one_answer.ensures.refusal c.one_answer.ensures.either

pub returns-clause-either : goal.returns-clause-either
returns-clause-either c = input_or_fault c.one_answer.ensures.refusal c.one_answer.ensures.either
