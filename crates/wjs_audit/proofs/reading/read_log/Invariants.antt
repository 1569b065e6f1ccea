use Rattle.std.proofs.Common.{length}
use Rattle.wjs_audit.proofs.Taking.{IsRead}
use Rattle.wjs_audit.proofs.reading.read_log.Given as goal

abbrev pub invariant-loop-rest : goal.invariant-loop-rest
invariant-loop-rest l = IsRead l.bytes l.rest l.line l.reading

abbrev pub decreases-loop-rest : goal.decreases-loop-rest
decreases-loop-rest l = length l.rest
