use Rattle.std.proofs.Common.{ap, ◌∙◌}
use Rattle.wjs_meaning.specs.NativesOfObjects.{text_of}
use Rattle.wjs_natives.proofs.arguments.text_at.Goals as goal

pub returns-clause-text : goal.returns-clause-text
returns-clause-text g c = λ t more. ap text_of (c.value_at.ensures.means t) ∙ c.text_of.ensures.text t more
