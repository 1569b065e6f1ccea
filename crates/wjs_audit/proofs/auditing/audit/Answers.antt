use Rattle.std.proofs.Common.{ap}
use Rattle.wjs_store.specs.Meaning.{worlds}
use Rattle.wjs_audit.proofs.auditing.audit.Goals as goal

pub audit_in-requires-clause-fresh : goal.audit_in-requires-clause-fresh
audit_in-requires-clause-fresh c = ap worlds c.in_ok-store.ensures
