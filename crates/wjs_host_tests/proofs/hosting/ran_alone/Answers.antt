use Rattle.wjs_start.proofs.Beginning.{fixed_new}
use Rattle.wjs_host_tests.proofs.hosting.ran_alone.Goals as goal

pub run_part-requires-clause-new : goal.run_part-requires-clause-new
run_part-requires-clause-new c = fixed_new _ c.in_ok-store.ensures
