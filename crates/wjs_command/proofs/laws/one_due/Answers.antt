use Rattle.wjs_command.proofs.OneDue.{one_due, one_log, one_usage}
use Rattle.wjs_command.proofs.laws.one_due.Goals as goal

pub returns-clause-faultless : goal.returns-clause-faultless
returns-clause-faultless c = one_due c.one_answer.ensures.refusal c.one_answer.ensures.either c.one_answer.ensures.answer c.one_program.ensures c.one_verdict.ensures c.one_input.ensures.trees c.one_input.ensures.fault c.one_input.ensures.either

pub returns-clause-logs : goal.returns-clause-logs
returns-clause-logs c = one_log c.one_answer.ensures.refusal c.one_answer.ensures.either c.one_answer.ensures.answer c.one_program.ensures c.one_verdict.ensures c.one_input.ensures.trees c.one_input.ensures.fault c.one_input.ensures.either

pub returns-clause-usage : goal.returns-clause-usage
returns-clause-usage c = one_usage
