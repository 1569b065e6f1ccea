use Rattle.wjs_machine.proofs.Flushes.{output_lem}
use Rattle.wjs_machine.proofs.laws.output_goes_out.Goals as goal

pub returns : goal.returns
returns g c = output_lem g.S.WorldStore.meaning
