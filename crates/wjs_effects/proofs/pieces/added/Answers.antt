use Rattle.std.proofs.Common.{subst}
use Rattle.wjs_effects.specs.declared.effect.Made.{Made}
use Rattle.wjs_effects.specs.Making.{HasMade}
use Rattle.wjs_effects.proofs.pieces.added.Goals as goal

pub returns-in-There-clause-ends : goal.returns-in-There-clause-ends
returns-in-There-clause-ends g c = rw c.in-There.is c.of_values.ensures.ends

pub of_values-requires-clause-left : goal.of_values-requires-clause-left
of_values-requires-clause-left g c = subst (λ (m : Made). HasMade c.args.config.now m) c.in-There.is c.requires.left

pub returns-in-Joined-clause-ends : goal.returns-in-Joined-clause-ends
returns-in-Joined-clause-ends g c = rw c.in-Joined.is c.behind.ensures.ends

pub behind-requires-clause-pieces : goal.behind-requires-clause-pieces
behind-requires-clause-pieces g c = subst (λ (m : Made). HasMade c.args.config.now m) c.in-Joined.is c.requires.left
