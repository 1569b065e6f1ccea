use Rattle.wjs_effects.proofs.parts.expression_at_once.Goals as goal

pub returns-clause-does : goal.returns-clause-does
returns-clause-does g c = c.expression_done.ensures.does
