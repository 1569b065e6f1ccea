use Rattle.wjs_heap_steps.proofs.references.value_of.Goals as goal

pub returns-in-Global-clause-does : goal.returns-in-Global-clause-does
returns-in-Global-clause-does g c = rw c.in-Global.is c.global_value.ensures.does
