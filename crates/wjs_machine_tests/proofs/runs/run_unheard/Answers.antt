use Rattle.std.proofs.Common.{None}
use Rattle.wjs_io.specs.Streams.{stream}
use Rattle.wjs_io.proofs.Rising.{never_rises}
use Rattle.wjs_machine_tests.proofs.Telling.{has_told}
use Rattle.wjs_machine_tests.proofs.runs.run_unheard.Goals as goal

pub returns : goal.returns
returns g c = has_told g.S.WorldStore.meaning (stream None None 0 0) c.args.config.now c.run.new.config c.run.result never_rises c.run.ensures.ends
