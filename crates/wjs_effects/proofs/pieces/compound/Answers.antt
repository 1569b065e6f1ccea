use Rattle.std.proofs.Common.{subst}
use Rattle.wjs_effects.specs.declared.effect.Made.{Made}
use Rattle.wjs_effects.specs.Making.{HasMade}
use Rattle.wjs_effects.proofs.pieces.compound.Goals as goal

pub returns-in-There-clause-ends : goal.returns-in-There-clause-ends
returns-in-There-clause-ends g c = rw c.in-There.is c.of_values.ensures.ends

pub of_values-requires-clause-right : goal.of_values-requires-clause-right
of_values-requires-clause-right g c = subst (λ (m : Made). HasMade c.args.config.now m) c.in-There.is c.requires.right

pub returns-in-Joined-clause-ends : goal.returns-in-Joined-clause-ends
returns-in-Joined-clause-ends g c = rw c.in-Joined.is c.after_value.ensures.ends

pub after_value-requires-clause-pieces : goal.after_value-requires-clause-pieces
after_value-requires-clause-pieces g c = subst (λ (m : Made). HasMade c.args.config.now m) c.in-Joined.is c.requires.right
