use Rattle.std.proofs.Common.{take}
use Rattle.wjs_audit.specs.Logs.{KnowsLog}
use Rattle.wjs_audit.proofs.knowing.knows_log.Given as goal

abbrev pub invariant-loop-entry : goal.invariant-loop-entry
invariant-loop-entry l = KnowsLog l.texts (take l.entry-index l.entries)
