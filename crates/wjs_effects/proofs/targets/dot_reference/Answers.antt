use Rattle.std.proofs.Common.{sym, ap, ◌∙◌}
use Rattle.wjs_by_content.specs.Tables.{name_in, value_in}
use Rattle.wjs_meaning.specs.Reading.{spelt_in}
use Rattle.wjs_effects.proofs.Leaving.{shorten_as}
use Rattle.wjs_quick.proofs.MemberLines.{dot_is}
use Rattle.wjs_effects.proofs.targets.dot_reference.Goals as goal

pub returns-in-Word-clause-ends : goal.returns-in-Word-clause-ends
returns-in-Word-clause-ends g c = λ t more env go. shorten_as _ _ (dot_is (value_in t c.args.base) (name_in t c.name_of.result) (spelt_in t c.args.name) env go (c.is_nullish.ensures t ∙ c.if-is_nullish.false) (c.name_of.ensures.name t more ∙ sym (ap (spelt_in t) c.in-Word.is)))
