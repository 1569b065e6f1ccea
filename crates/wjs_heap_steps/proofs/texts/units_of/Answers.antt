use Rattle.wjs_heap_steps.proofs.Spelling.{denotes_in}
use Rattle.wjs_heap_steps.proofs.texts.units_of.Goals as goal

pub returns-clause-text : goal.returns-clause-text
returns-clause-text g c = λ t more. denotes_in c.args.config.now.heap.texts t c.args.id c.units.result.now c.units.ensures.text more

pub returns-clause-short : goal.returns-clause-short
returns-clause-short g c = c.units.ensures.is_text.short
