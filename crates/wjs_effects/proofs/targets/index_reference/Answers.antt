use Rattle.std.proofs.Common.{◌∙◌}
use Rattle.wjs_by_content.specs.Tables.{name_in, value_in}
use Rattle.wjs_quick.proofs.MemberLines.{at_shortens}
use Rattle.wjs_effects.proofs.targets.index_reference.Goals as goal

pub returns-clause-ends : goal.returns-clause-ends
returns-clause-ends g c = λ t more env go. at_shortens (value_in t c.args.base) (value_in t c.args.key) (name_in t c.in_ok-name.name) env go (c.is_nullish.ensures t ∙ c.if-is_nullish.false) (c.in_ok-name.ensures.primitive t) (c.in_ok-name.ensures.is t more)
