-- Operators that end at once.
use Rattle.std.specs.Prelude.{Bool, true, false}
use Rattle.wjs_tree.specs.declared.operators.BinaryOperator.{BinaryOperator}
use Rattle.wjs_tree.specs.declared.operators.BinaryOperator.TheVariants as binary
use Rattle.wjs_tree.specs.declared.operators.PrefixOperator.{PrefixOperator}
use Rattle.wjs_tree.specs.declared.operators.PrefixOperator.TheVariants as prefix
use Rattle.wjs_by_content.specs.Values.{Value}
use Rattle.wjs_meaning.specs.Deeds.{Env, Act, Ret, Normal}
use Rattle.wjs_meaning.specs.Operators.{not_value}
use Rattle.wjs_meaning.specs.Expressions.{void_value, plus_value, minus_value, complement_value}

-- an operator on two numbers (ECMA-262, 3rd edition, sections 11.5, 11.6.3, 11.7 and 11.10)
abbrev pub is_calculation : BinaryOperator → Bool
is_calculation binary.Multiply = true
is_calculation binary.Divide = true
is_calculation binary.Remainder = true
is_calculation binary.Subtract = true
is_calculation binary.ShiftLeft = true
is_calculation binary.ShiftRight = true
is_calculation binary.ShiftRightUnsigned = true
is_calculation binary.BitAnd = true
is_calculation binary.BitXor = true
is_calculation binary.BitOr = true
is_calculation _ = false

-- an operator whose operand is entered for its value (section 11.4)
abbrev pub is_of_value : PrefixOperator → Bool
is_of_value prefix.Void = true
is_of_value prefix.Plus = true
is_of_value prefix.Minus = true
is_of_value prefix.BitNot = true
is_of_value prefix.Not = true
is_of_value _ = false

-- what such an operator does with the value
abbrev pub after_prefix : PrefixOperator → Env → Value → Act
after_prefix prefix.Void env v = void_value v
after_prefix prefix.Plus env v = plus_value env v
after_prefix prefix.Minus env v = minus_value env v
after_prefix prefix.BitNot env v = complement_value env v
after_prefix prefix.Not env v = not_value v
after_prefix _ env v = Ret Normal
