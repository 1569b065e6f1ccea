use Rattle.std.proofs.Common.{◌∙◌}
use Rattle.wjs_by_content.specs.Tables.{value_in}
use Rattle.wjs_quick.proofs.Operations.{equal_nullish}
use Rattle.wjs_quick.proofs.operators.are_apart.Goals as goal

pub returns-then-is_object : goal.returns-then-is_object
returns-then-is_object c = λ e t env go. equal_nullish (value_in t c.args.left) (value_in t c.args.right) env go (c.is_object.ensures t ∙ c.if-is_object.true) (c.is_nullish.ensures t ∙ e)
