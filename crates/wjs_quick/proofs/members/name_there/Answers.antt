use Rattle.std.proofs.Common.{sym, ap, ◌∙◌}
use Rattle.wjs_base.specs.declared.values.Value.{Value}
use Rattle.wjs_by_content.specs.Conversions.{is_object, primitive_text}
use Rattle.wjs_by_content.specs.Tables.{value_in}
use Rattle.wjs_quick.proofs.members.name_there.Goals as goal

pub returns-in-Text-clause-is : goal.returns-in-Text-clause-is
returns-in-Text-clause-is g c = λ t more. ap (λ (v : Value). primitive_text (value_in t v)) c.in-Text.is ∙ sym (c.name_of.ensures.name t more)

pub returns-in-Text-clause-primitive : goal.returns-in-Text-clause-primitive
returns-in-Text-clause-primitive g c = λ t. ap (λ (v : Value). is_object (value_in t v)) c.in-Text.is

pub returns-in_ok-index-in-Number-clause-is : goal.returns-in_ok-index-in-Number-clause-is
returns-in_ok-index-in-Number-clause-is g c = λ t more. c.in_ok-index-in-Number.ensures.1 t

pub returns-in_ok-index-in-Number-clause-primitive : goal.returns-in_ok-index-in-Number-clause-primitive
returns-in_ok-index-in-Number-clause-primitive g c = λ t. ap (λ (v : Value). is_object (value_in t v)) c.in-Number.is
