use Rattle.wjs_parse.proofs.Naming.{some_name, no_name}
use Rattle.wjs_parse.proofs.formals.name_at.Goals as goal

pub returns-in-Some-clause-answer : goal.returns-in-Some-clause-answer
returns-in-Some-clause-answer c = some_name c.args.toks.now c.args.at c.in-Some.text (rw c.in-Some.is at c.word_at.ensures)

pub returns-in-None-clause-answer : goal.returns-in-None-clause-answer
returns-in-None-clause-answer c = no_name c.args.toks.now c.args.at (rw c.in-None.is at c.word_at.ensures)
