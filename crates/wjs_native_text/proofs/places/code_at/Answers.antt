use Rattle.std.proofs.Common.{ap, ◌∙◌}
use Rattle.wjs_meaning.specs.NativesOfTexts as line
use Rattle.wjs_native_text.proofs.places.code_at.Goals as goal

pub returns : goal.returns
returns g c = λ t more env. ap line.char_code_at (c.unit_of.ensures t more) ∙ c.code_of.ensures t
