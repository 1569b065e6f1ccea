use Rattle.std.proofs.Common.{ap}
use Rattle.wjs_store.specs.Meaning.{worlds}
use Rattle.wjs_audit_tests.proofs.tests.a_logged_store_tells_its_run.Goals as goal

pub new-store-requires : goal.new-store-requires
new-store-requires g c = λ v h. ap worlds c.in_ok-new.ensures
