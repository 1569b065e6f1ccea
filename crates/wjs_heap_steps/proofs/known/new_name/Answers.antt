use Rattle.std.proofs.Common.{sym, ap, ◌∙◌}
use Rattle.wjs_base.specs.Text.{Units}
use Rattle.wjs_by_content.specs.Tables.{text_in, name_in}
use Rattle.wjs_texts.specs.Known.{text_of}
use Rattle.wjs_heap_steps.proofs.Composing.{does_same}
use Rattle.wjs_heap_steps.proofs.known.new_name.Goals as goal

pub returns-clause-does : goal.returns-clause-does
returns-clause-does g c =
    does_same g.S.WorldStore.meaning (λ t go. go c.units.result.now) (λ t go. go (text_of c.args.known)) (λ t. text_in t c.in_ok-id.id) (λ t. name_in t c.name_of.result) c.args.config.now c.intern.new.config
    (λ t more go. ap (λ (us : Units). go us) c.units.ensures.units)
    (λ t more. sym (c.name_of.ensures.name t more))
    c.in_ok-id.ensures.does

pub returns-clause-text : goal.returns-clause-text
returns-clause-text g c = λ t more. c.name_of.ensures.name t more ∙ c.in_ok-id.ensures.text t more ∙ c.units.ensures.units
