use Rattle.std.proofs.Common.{Bool, not, ap, ◌∙◌}
use Rattle.wjs_by_content.specs.Tables.{value_in}
use Rattle.wjs_meaning.specs.Operators.{give_truth}
use Rattle.wjs_tree.specs.declared.operators.PrefixOperator.{PrefixOperator}
use Rattle.wjs_quick.specs.Operating.{after_prefix}
use Rattle.wjs_quick.proofs.Coming.{ends_as}
use Rattle.wjs_quick.proofs.operators.prefixed.Goals as goal

pub returns-in-Void-clause-ends : goal.returns-in-Void-clause-ends
returns-in-Void-clause-ends g c = λ t more env. ends_as _ _ (ap (λ (op : PrefixOperator). after_prefix op env (value_in t c.args.value)) c.in-Void.is)

pub returns-in-Not-clause-ends : goal.returns-in-Not-clause-ends
returns-in-Not-clause-ends g c = λ t more env. ends_as _ _ (ap (λ (op : PrefixOperator). after_prefix op env (value_in t c.args.value)) c.in-Not.is ∙ ap (λ (b : Bool). give_truth (not b)) (c.to_boolean-truth.ensures t more))

pub returns-in_ok-number-in_default-clause-ends : goal.returns-in_ok-number-in_default-clause-ends
returns-in_ok-number-in_default-clause-ends g c = λ t more env. c.in_ok-number-in_default.ensures t env
