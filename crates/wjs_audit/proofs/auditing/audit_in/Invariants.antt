use Rattle.std.proofs.Common.{take}
use Rattle.wjs_audit.proofs.Machine.{Audited}
use Rattle.wjs_audit.proofs.auditing.audit_in.Given as goal

abbrev pub invariant-loop-entry : goal.invariant-loop-entry
invariant-loop-entry g l = Audited (g.S.WorldStore.meaning l.store) (take l.entry-index l.entries)
