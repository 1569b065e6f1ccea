use Rattle.wjs_logs.proofs.Tellings.{one_telling, tells_right}
use Rattle.wjs_logs.proofs.laws.logs_tell.Goals as goal

pub returns-clause-one : goal.returns-clause-one
returns-clause-one c = one_telling c.one_reading.ensures

pub returns-clause-right : goal.returns-clause-right
returns-clause-right c = tells_right c.one_reading.ensures
