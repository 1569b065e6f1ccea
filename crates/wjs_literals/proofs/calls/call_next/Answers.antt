use Rattle.wjs_meaning.specs.Expressions.{call_values}
use Rattle.wjs_literals.proofs.calls.call_next.Goals as goal

pub call_from-requires : goal.call_from-requires
call_from-requires g c = record { runs = c.in_ok-reached.ensures.runs }

pub returns : goal.returns
returns g c = (c.in_ok-reached.ensures.proceeds call_values).by c.call_from.new.config c.call_from.result c.call_from.ensures
