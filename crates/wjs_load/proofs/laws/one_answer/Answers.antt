use Rattle.wjs_load.proofs.OneAnswer.{one_refusal, program_or_refusal, one_answer}
use Rattle.wjs_load.proofs.laws.one_answer.Goals as goal

pub returns-clause-refusal : goal.returns-clause-refusal
returns-clause-refusal c =
    one_refusal c.one_reading.ensures.fault c.one_reading.ensures.either c.one_reading.ensures.tokens c.spelled_is_taken.ensures c.taken_is_spelled.ensures c.one_offence.ensures.most

pub returns-clause-either : goal.returns-clause-either
returns-clause-either c = program_or_refusal c.one_reading.ensures.fault c.one_reading.ensures.either c.one_program.ensures c.program_or_none.ensures

pub returns-clause-answer : goal.returns-clause-answer
returns-clause-answer c = one_answer c.one_reading.ensures.fault c.one_reading.ensures.either c.one_program.ensures c.program_or_none.ensures
