use Rattle.wjs_logs.proofs.Verdicts.{right_or_fault, one_fault}
use Rattle.wjs_logs.proofs.laws.one_verdict.Goals as goal

pub returns : goal.returns
returns c = record { either = right_or_fault c.one_reading.ensures c.one_judgement.ensures; fault = one_fault c.one_reading.ensures c.one_judgement.ensures }
