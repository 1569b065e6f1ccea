-- The operators by what they do with two values (ECMA-262, 3rd edition, sections 11.5 to 11.10).
use Rattle.std.specs.Prelude.{Bool, true, false}
use Rattle.wjs_tree.specs.declared.operators.BinaryOperator.{BinaryOperator}
use Rattle.wjs_tree.specs.declared.operators.BinaryOperator.TheVariants as binary
use Rattle.wjs_by_content.specs.Values.{Value}
use Rattle.wjs_by_content.specs.Conversions.{is_nullish}
use Rattle.wjs_meaning.specs.Deeds.{Env, Act, Sub, then_value}
use Rattle.wjs_meaning.specs.Conversions.{HintNumber, to_primitive}
use Rattle.wjs_meaning.specs.Operators.{give_truth, give_opposite, equal_primitive}

-- an operator that compares two primitives by their order (ECMA-262, 3rd edition, section 11.8)
abbrev pub is_comparison : BinaryOperator → Bool
is_comparison binary.Less = true
is_comparison binary.Greater = true
is_comparison binary.LessEqual = true
is_comparison binary.GreaterEqual = true
is_comparison _ = false

-- an operator whose operands are converted as those of one on two numbers (sections 11.5, 11.6.3, 11.7 and 11.10)
abbrev pub is_arithmetic : BinaryOperator → Bool
is_arithmetic binary.Multiply = true
is_arithmetic binary.Divide = true
is_arithmetic binary.Remainder = true
is_arithmetic binary.Subtract = true
is_arithmetic binary.ShiftLeft = true
is_arithmetic binary.ShiftRight = true
is_arithmetic binary.ShiftRightUnsigned = true
is_arithmetic binary.BitAnd = true
is_arithmetic binary.BitXor = true
is_arithmetic binary.BitOr = true
is_arithmetic binary.And = true
is_arithmetic binary.Or = true
is_arithmetic binary.Instanceof = true
is_arithmetic binary.StrictEqual = true
is_arithmetic binary.StrictNotEqual = true
is_arithmetic _ = false

-- ---- equality (section 11.9)

-- `==`, or `!=` where it is negated
abbrev pub equality : Bool → BinaryOperator
equality true = binary.NotEqual
equality false = binary.Equal

-- ends with a truth value, or with its opposite
abbrev pub tells : Bool → Bool → Act
tells true = give_opposite
tells false = give_truth

-- an object against another value
abbrev pub equal_with : Value → Value → Env → (Bool → Act) → Act
equal_with object other env go = elim (is_nullish other) [ true ↦ go false | false ↦ Sub (to_primitive HintNumber object env) (then_value (equal_primitive other go)) ]
