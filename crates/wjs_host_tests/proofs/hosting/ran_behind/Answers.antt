use Rattle.wjs_start.proofs.Beginning.{fixed_new}
use Rattle.wjs_host_tests.proofs.Loaded.{known_later, places_later}
use Rattle.wjs_host_tests.proofs.hosting.ran_behind.Goals as goal

pub run_part-requires-clause-new : goal.run_part-requires-clause-new
run_part-requires-clause-new c = fixed_new _ c.in_ok-store.ensures

pub run_part-requires-clause-library : goal.run_part-requires-clause-library
run_part-requires-clause-library c = known_later c.load.new.texts c.load-2.new.texts c.in-Ok.library c.in-Ok-load.ensures.grows c.in-Ok.ensures.known

pub run_part-requires-clause-library_places : goal.run_part-requires-clause-library_places
run_part-requires-clause-library_places c = places_later c.load.new.texts c.load-2.new.texts c.in-Ok.library c.in-Ok-load.ensures.grows c.in-Ok.ensures.known c.in-Ok.ensures.places
