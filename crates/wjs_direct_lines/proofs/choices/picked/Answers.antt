use Rattle.std.proofs.Common.{◌∙◌}
use Rattle.wjs_by_content.specs.Tables.{value_in}
use Rattle.wjs_quick.proofs.Operations.{yes_is, no_is}
use Rattle.wjs_direct_lines.proofs.choices.picked.Goals as goal

pub returns-then-to_boolean-clause-is : goal.returns-then-to_boolean-clause-is
returns-then-to_boolean-clause-is g c = λ t more env. yes_is c.args.yes.0 c.args.no.0 env (value_in t c.args.truth) (c.to_boolean.ensures t more ∙ c.if-to_boolean.true)

pub returns-else-to_boolean-clause-is : goal.returns-else-to_boolean-clause-is
returns-else-to_boolean-clause-is g c = λ t more env. no_is c.args.yes.0 c.args.no.0 env (value_in t c.args.truth) (c.to_boolean.ensures t more ∙ c.if-to_boolean.false)
