use Rattle.wjs_effects.proofs.stores.entered.Goals as goal

pub returns-in-Assigns-clause-does : goal.returns-in-Assigns-clause-does
returns-in-Assigns-clause-does g c = rw c.in-Assigns.is c.assign.ensures.does

pub returns-in-Updates-clause-does : goal.returns-in-Updates-clause-does
returns-in-Updates-clause-does g c = rw c.in-Updates.is c.update.ensures.does
