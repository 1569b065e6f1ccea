use Rattle.std.proofs.Common.{ap, ◌∙◌}
use Rattle.wjs_meaning.specs.NativesOfObjects.{whole_of}
use Rattle.wjs_natives.proofs.arguments.whole_at.Goals as goal

pub returns : goal.returns
returns c = λ t. ap whole_of (c.value_at.ensures.means t) ∙ c.number_of.ensures t
