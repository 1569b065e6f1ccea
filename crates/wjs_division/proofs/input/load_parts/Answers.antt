use Rattle.wjs_base.proofs.TextLaws.{Grows-refl}
use Rattle.wjs_division.proofs.input.load_parts.Goals as goal

pub load_text-requires-clause-utf8 : goal.load_text-requires-clause-utf8
load_text-requires-clause-utf8 c = c.in-Ok.ensures.cases.1

pub returns-in-Err-clause-err : goal.returns-in-Err-clause-err
returns-in-Err-clause-err c = c.in-Err.ensures.cases.0

pub returns-in-Err-clause-grows : goal.returns-in-Err-clause-grows
returns-in-Err-clause-grows c = Grows-refl c.args.texts.now
