use Rattle.wjs_machine.proofs.Flushes.{turns_lem}
use Rattle.wjs_machine.proofs.laws.output_takes_no_turn.Goals as goal

pub returns : goal.returns
returns g c = turns_lem g.S.WorldStore.meaning
