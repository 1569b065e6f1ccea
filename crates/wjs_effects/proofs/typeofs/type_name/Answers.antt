use Rattle.std.proofs.Common.{ap, ◌∙◌}
use Rattle.std.specs.Prelude.{if◌then◌else◌, codes}
use Rattle.wjs_by_content.specs.Tables.{value_in}
use Rattle.wjs_meaning.specs.Expressions.{type_name}
use Rattle.wjs_effects.proofs.typeofs.type_name.Goals as goal

pub returns-then-is_callable-clause-name : goal.returns-then-is_callable-clause-name
returns-then-is_callable-clause-name g c = λ t arena s. ap (λ v. type_name arena (value_in t v)) c.in-Object.is ∙ ap (λ b. if b then codes "function" else codes "object") (c.if-is_callable.ensures.is t arena s)

pub returns-else-is_callable-clause-name : goal.returns-else-is_callable-clause-name
returns-else-is_callable-clause-name g c = λ t arena s. ap (λ v. type_name arena (value_in t v)) c.in-Object.is ∙ ap (λ b. if b then codes "function" else codes "object") (c.if-is_callable.ensures.is t arena s)
