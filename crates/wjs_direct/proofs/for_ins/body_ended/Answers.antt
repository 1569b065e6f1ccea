use Rattle.wjs_direct.proofs.for_ins.body_ended.Goals as goal

pub returns-in-Again-clause-is : goal.returns-in-Again-clause-is
returns-in-Again-clause-is g c = λ t more again. c.in-Again.ensures.means t more again

pub returns-in-Ends-clause-is : goal.returns-in-Ends-clause-is
returns-in-Ends-clause-is g c = λ t more again. c.in-Ends.ensures.means t more again

pub returns-in-Ends-clause-found : goal.returns-in-Ends-clause-found
returns-in-Ends-clause-found g c = c.in-Ends.ensures.there
