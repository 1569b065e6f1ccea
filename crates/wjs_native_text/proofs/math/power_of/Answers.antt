use Rattle.std.proofs.Common.{refl}
use Rattle.wjs_native_text.proofs.math.power_of.Goals as goal

pub returns : goal.returns
returns c = λ t env. rw (c.whole_at.ensures t, c.whole_at-2.ensures t, c.pow.ensures) refl
