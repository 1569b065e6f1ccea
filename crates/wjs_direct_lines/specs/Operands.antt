-- `delete` and `typeof`: where their frames wait for their operands, and what follows these (ECMA-262, 3rd edition, sections 11.4.1 and 11.4.3).
use Rattle.std.specs.Prelude.{◌≡◌}
use Rattle.wjs_base.specs.Text.{Table}
use Rattle.wjs_by_content.specs.Values.{Value}
use Rattle.wjs_tree.specs.declared.operators.PrefixOperator.{PrefixOperator}
use Rattle.wjs_tree.specs.declared.operators.PrefixOperator.TheVariants as prefix
use Rattle.wjs_meaning.specs.Deeds.{Act, Env, Reference}
use Rattle.wjs_meaning.specs.Expressions.{delete_reference, delete_value, typeof_reference, typeof_value}
use Rattle.wjs_meaning.specs.References.{value_of}
use Rattle.wjs_model.specs.declared.frame.Reference.{Reference as NumberedReference}
use Rattle.wjs_model.specs.declared.point.ExprPoint.{ExprPoint}
use Rattle.wjs_model.specs.declared.point.ExprPoint.TheVariants as expr
use Rattle.wjs_model.specs.Contents.{reference_in}
use Rattle.wjs_direct_lines.specs.declared.operands.Query.{Query}
use Rattle.wjs_direct_lines.specs.declared.operands.Query.TheVariants as queries

abbrev pub operator_of : Query → PrefixOperator
operator_of queries.Delete = prefix.Delete
operator_of queries.Typeof = prefix.Typeof

-- where the frame waits for an operand that is a target
abbrev pub target_point : Query → ExprPoint
target_point queries.Delete = expr.DeleteTarget
target_point queries.Typeof = expr.TypeofTarget

-- and for every other
abbrev pub value_point : Query → ExprPoint
value_point queries.Delete = expr.DeleteValue
value_point queries.Typeof = expr.TypeofValue

-- what follows the reference of a target
abbrev pub after_reference : Query → Env → Reference → Act
after_reference queries.Delete env = delete_reference env
after_reference queries.Typeof env = typeof_reference env

-- and a value
abbrev pub after_value : Query → Value → Act
after_value queries.Delete = delete_value
after_value queries.Typeof = typeof_value

-- `typeof` of a reference is that of its value
abbrev pub IsTypedByValue : NumberedReference → Type 0
IsTypedByValue q = (t : Table) (env : Env) → typeof_reference env (reference_in t q) ≡ value_of (reference_in t q) env typeof_value
