use Rattle.wjs_meaning.specs.Constructions.{construct}
use Rattle.wjs_literals.proofs.news.new_next.Goals as goal

pub new_from-requires : goal.new_from-requires
new_from-requires g c = record { runs = c.in_ok-reached.ensures.runs }

pub returns : goal.returns
returns g c = (c.in_ok-reached.ensures.proceeds (λ callee this env. construct callee env)).by c.new_from.new.config c.new_from.result c.new_from.ensures
