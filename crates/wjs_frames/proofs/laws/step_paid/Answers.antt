use Rattle.wjs_frames.proofs.Paying.{step_paid}
use Rattle.wjs_frames.proofs.laws.step_paid.Goals as goal

pub returns : goal.returns
returns g c = step_paid g.S.WorldStore.meaning
