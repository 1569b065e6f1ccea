use Rattle.wjs_step_common.proofs.Following.{does_same, later_same}
use Rattle.wjs_step_common.proofs.texts.name_of_value.Goals as goal

pub returns-in-Some-clause-does : goal.returns-in-Some-clause-does
returns-in-Some-clause-does g c = does_same g.S.WorldStore.meaning c.args.config.now _ _ (λ t grows. c.in-Some.ensures.1 t)

pub returns-in-Some-clause-later : goal.returns-in-Some-clause-later
returns-in-Some-clause-later g c = later_same g.S.WorldStore.meaning c.args.config.now c.requires.base
