use Rattle.wjs_base.proofs.TextLaws.{IsNameOf-IsName}
use Rattle.wjs_heap_steps.proofs.Spelling.{named_in}
use Rattle.wjs_heap_steps.proofs.texts.name_of.Goals as goal

pub returns-clause-found : goal.returns-clause-found
returns-clause-found g c = IsNameOf-IsName c.args.config.now.heap.texts c.args.id c.name_of.result c.requires.text c.name_of.ensures

pub returns-clause-name : goal.returns-clause-name
returns-clause-name g c = λ t more. named_in c.args.config.now.heap.texts t c.args.id c.name_of.result c.name_of.ensures more
