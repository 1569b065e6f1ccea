use Rattle.wjs_by_content.specs.Values.{String}
use Rattle.wjs_native_text.proofs.at_once.text_value.Goals as goal

pub returns-clause-does : goal.returns-clause-does
returns-clause-does g c = record { by = λ go later r h. c.in_ok-id.ensures.does.by (λ u. go (String u)) later r h }
