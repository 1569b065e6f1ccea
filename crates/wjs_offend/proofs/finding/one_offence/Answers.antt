use Rattle.wjs_offend.proofs.OneOffence.{one_offence}
use Rattle.wjs_offend.proofs.Offending.{some_offence}
use Rattle.wjs_offend.proofs.finding.one_offence.Goals as goal

pub returns-clause-most : goal.returns-clause-most
returns-clause-most c = one_offence

pub returns-clause-some : goal.returns-clause-some
returns-clause-some c = some_offence c.spelled_is_taken.ensures c.taken_is_spelled.ensures c.goes_on.ensures
