use Rattle.std.proofs.Common.{ap, ◌∙◌}
use Rattle.wjs_by_content.specs.Names.{index_of}
use Rattle.wjs_by_content.specs.Indices.{index_again, index_spells}
use Rattle.wjs_by_content.proofs.laws.indices_are_spelled.Goals as goal

pub returns : goal.returns
returns c = λ name n. (index_spells name n, λ p. ap index_of p.1 ∙ index_again n p.0)
