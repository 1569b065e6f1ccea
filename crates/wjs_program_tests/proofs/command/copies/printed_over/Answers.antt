use Rattle.std.proofs.Common.{arith}
use Rattle.wjs_start.proofs.Beginning.{fixed_new}
use Rattle.wjs_command.proofs.Scripts.{most_least}
use Rattle.wjs_program_tests.proofs.command.copies.printed_over.Goals as goal

pub perform_in-requires-clause-new : goal.perform_in-requires-clause-new
perform_in-requires-clause-new c = fixed_new _ c.in_ok-store.ensures

pub perform_in-requires-clause-within : goal.perform_in-requires-clause-within
perform_in-requires-clause-within c = let least = most_least c.args.mode in omega (arith, least)
