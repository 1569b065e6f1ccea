use Rattle.std.proofs.Common.{ap}
use Rattle.wjs_store.specs.Meaning.{worlds}
use Rattle.wjs_audit.specs.Recorded.{Recorded}
use Rattle.wjs_audit_tests.proofs.tests.judged_telling.Goals as goal

pub new-store-requires : goal.new-store-requires
new-store-requires c = λ v h. ap worlds c.in_ok-new.ensures

pub audit_in-requires-clause-fresh : goal.audit_in-requires-clause-fresh
audit_in-requires-clause-fresh c =
    let inner = ap (λ (r : Recorded _). r.inner) c.new-store.ensures in
    let begun = ap worlds c.in_ok-new.ensures in
    cc
