use Rattle.std.proofs.Common.{sym, ap, ◌∙◌}
use Rattle.wjs_by_content.specs.Tables.{name_in}
use Rattle.wjs_meaning.specs.Reading.{spelt_in}
use Rattle.wjs_step_common.proofs.Following.{does_same, later_same}
use Rattle.wjs_members.proofs.keys.spelt_name.Goals as goal

pub returns-in-Word-clause-does : goal.returns-in-Word-clause-does
returns-in-Word-clause-does g c = does_same g.S.WorldStore.meaning c.args.config.now (λ t. spelt_in t c.args.spelt) (λ t. name_in t c.name_of.result) (λ t grows. ap (spelt_in t) c.in-Word.is ∙ sym (c.name_of.ensures.name t grows))

pub returns-in-Word-clause-later : goal.returns-in-Word-clause-later
returns-in-Word-clause-later g c = later_same g.S.WorldStore.meaning c.args.config.now c.requires.base
