use Rattle.wjs_start.proofs.Beginning.{fixed_new}
use Rattle.wjs_host_tests.proofs.hosting.begun.Goals as goal

pub start-requires-clause-new : goal.start-requires-clause-new
start-requires-clause-new c = fixed_new _ c.in_ok-store.ensures
