use Rattle.std.specs.Str.{chars}
use Rattle.wjs_lexer.specs.Lexing.{start}
use Rattle.wjs_lexer.proofs.Law.{one_list, one_fault, tokens_or_fault}
use Rattle.wjs_lexer.proofs.laws.one_reading.Goals as goal

pub returns-clause-tokens : goal.returns-clause-tokens
returns-clause-tokens c = λ bytes t u ts us h k. one_list (chars bytes) (start (chars bytes)) h.placed k.placed h.reads k.reads

pub returns-clause-fault : goal.returns-clause-fault
returns-clause-fault c = λ bytes b d l m h k. one_fault (chars bytes) (start (chars bytes)) b l d m h.stops k.stops

pub returns-clause-either : goal.returns-clause-either
returns-clause-either c = λ bytes t ts b l h k. tokens_or_fault (chars bytes) (start (chars bytes)) b l h.placed h.reads k.stops
