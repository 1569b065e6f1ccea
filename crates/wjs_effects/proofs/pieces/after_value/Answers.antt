use Rattle.wjs_effects.proofs.pieces.after_value.Goals as goal

pub returns-in-Add-clause-ends : goal.returns-in-Add-clause-ends
returns-in-Add-clause-ends g c = rw c.in-Add.is c.in_front.ensures.ends
