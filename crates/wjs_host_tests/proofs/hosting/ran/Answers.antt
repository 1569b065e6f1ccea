use Rattle.wjs_start.proofs.Beginning.{fixed_new}
use Rattle.wjs_host_tests.proofs.hosting.ran.Goals as goal

pub run_program-requires-clause-new : goal.run_program-requires-clause-new
run_program-requires-clause-new c = fixed_new _ c.in_ok-store.ensures
