-- The operators, and the tokens that spell them (ECMA-262, 3rd edition, sections 11.3 to 11.13).
use Rattle.std.specs.Prelude.{ℕ, Bool, true, false, Option, Some, None}
use Rattle.wjs_tree.specs.declared.tokens.Token.{Token}
use Rattle.wjs_tree.specs.declared.tokens.Token.TheVariants as tokens
use Rattle.wjs_tree.specs.declared.signs.Sign.{Sign}
use Rattle.wjs_tree.specs.declared.signs.Sign.TheVariants as signs
use Rattle.wjs_tree.specs.declared.keys.Key.TheVariants as keys
use Rattle.wjs_tree.specs.declared.operators.UpdateOperator.{UpdateOperator}
use Rattle.wjs_tree.specs.declared.operators.UpdateOperator.TheVariants as updates
use Rattle.wjs_tree.specs.declared.operators.PrefixOperator.{PrefixOperator}
use Rattle.wjs_tree.specs.declared.operators.PrefixOperator.TheVariants as prefixes
use Rattle.wjs_tree.specs.declared.operators.BinaryOperator.{BinaryOperator}
use Rattle.wjs_tree.specs.declared.operators.BinaryOperator.TheVariants as binaries
use Rattle.wjs_tree.specs.declared.operators.AssignOperator.{AssignOperator}
use Rattle.wjs_tree.specs.declared.operators.AssignOperator.TheVariants as assigns

-- the token of an operator behind a target (section 11.3)
abbrev pub update_token : UpdateOperator → Token
update_token updates.Increment = tokens.Sign signs.Increment
update_token updates.Decrement = tokens.Sign signs.Decrement

-- the operator behind a target that a token spells
abbrev pub update_of : Token → Option UpdateOperator
update_of (tokens.Sign signs.Increment) = Some updates.Increment
update_of (tokens.Sign signs.Decrement) = Some updates.Decrement
update_of _ = None

-- the token of an operator before an operand (section 11.4)
abbrev pub prefix_token : PrefixOperator → Token
prefix_token prefixes.Delete = tokens.Key keys.Delete
prefix_token prefixes.Void = tokens.Key keys.Void
prefix_token prefixes.Typeof = tokens.Key keys.Typeof
prefix_token prefixes.Increment = tokens.Sign signs.Increment
prefix_token prefixes.Decrement = tokens.Sign signs.Decrement
prefix_token prefixes.Plus = tokens.Sign signs.Plus
prefix_token prefixes.Minus = tokens.Sign signs.Minus
prefix_token prefixes.BitNot = tokens.Sign signs.BitNot
prefix_token prefixes.Not = tokens.Sign signs.Not

-- the operator before an operand that a token spells
abbrev pub prefix_of : Token → Option PrefixOperator
prefix_of (tokens.Key keys.Delete) = Some prefixes.Delete
prefix_of (tokens.Key keys.Void) = Some prefixes.Void
prefix_of (tokens.Key keys.Typeof) = Some prefixes.Typeof
prefix_of (tokens.Sign signs.Increment) = Some prefixes.Increment
prefix_of (tokens.Sign signs.Decrement) = Some prefixes.Decrement
prefix_of (tokens.Sign signs.Plus) = Some prefixes.Plus
prefix_of (tokens.Sign signs.Minus) = Some prefixes.Minus
prefix_of (tokens.Sign signs.BitNot) = Some prefixes.BitNot
prefix_of (tokens.Sign signs.Not) = Some prefixes.Not
prefix_of _ = None

-- an operator that stands before targets only
abbrev pub is_update : PrefixOperator → Bool
is_update prefixes.Increment = true
is_update prefixes.Decrement = true
is_update _ = false

-- the token of an operator between two operands (sections 11.5 to 11.11)
abbrev pub binary_token : BinaryOperator → Token
binary_token binaries.Multiply = tokens.Sign signs.Multiply
binary_token binaries.Divide = tokens.Sign signs.Divide
binary_token binaries.Remainder = tokens.Sign signs.Remainder
binary_token binaries.Add = tokens.Sign signs.Plus
binary_token binaries.Subtract = tokens.Sign signs.Minus
binary_token binaries.ShiftLeft = tokens.Sign signs.ShiftLeft
binary_token binaries.ShiftRight = tokens.Sign signs.ShiftRight
binary_token binaries.ShiftRightUnsigned = tokens.Sign signs.ShiftRightUnsigned
binary_token binaries.Less = tokens.Sign signs.Less
binary_token binaries.Greater = tokens.Sign signs.Greater
binary_token binaries.LessEqual = tokens.Sign signs.LessEqual
binary_token binaries.GreaterEqual = tokens.Sign signs.GreaterEqual
binary_token binaries.Instanceof = tokens.Key keys.Instanceof
binary_token binaries.In = tokens.Key keys.In
binary_token binaries.Equal = tokens.Sign signs.Equal
binary_token binaries.NotEqual = tokens.Sign signs.NotEqual
binary_token binaries.StrictEqual = tokens.Sign signs.StrictEqual
binary_token binaries.StrictNotEqual = tokens.Sign signs.StrictNotEqual
binary_token binaries.BitAnd = tokens.Sign signs.BitAnd
binary_token binaries.BitXor = tokens.Sign signs.BitXor
binary_token binaries.BitOr = tokens.Sign signs.BitOr
binary_token binaries.And = tokens.Sign signs.And
binary_token binaries.Or = tokens.Sign signs.Or

-- the operator between two operands that a sign spells
abbrev pub binary_sign_of : Sign → Option BinaryOperator
binary_sign_of signs.Multiply = Some binaries.Multiply
binary_sign_of signs.Divide = Some binaries.Divide
binary_sign_of signs.Remainder = Some binaries.Remainder
binary_sign_of signs.Plus = Some binaries.Add
binary_sign_of signs.Minus = Some binaries.Subtract
binary_sign_of signs.ShiftLeft = Some binaries.ShiftLeft
binary_sign_of signs.ShiftRight = Some binaries.ShiftRight
binary_sign_of signs.ShiftRightUnsigned = Some binaries.ShiftRightUnsigned
binary_sign_of signs.Less = Some binaries.Less
binary_sign_of signs.Greater = Some binaries.Greater
binary_sign_of signs.LessEqual = Some binaries.LessEqual
binary_sign_of signs.GreaterEqual = Some binaries.GreaterEqual
binary_sign_of signs.Equal = Some binaries.Equal
binary_sign_of signs.NotEqual = Some binaries.NotEqual
binary_sign_of signs.StrictEqual = Some binaries.StrictEqual
binary_sign_of signs.StrictNotEqual = Some binaries.StrictNotEqual
binary_sign_of signs.BitAnd = Some binaries.BitAnd
binary_sign_of signs.BitXor = Some binaries.BitXor
binary_sign_of signs.BitOr = Some binaries.BitOr
binary_sign_of signs.And = Some binaries.And
binary_sign_of signs.Or = Some binaries.Or
binary_sign_of _ = None

-- the operator between two operands that a token spells
abbrev pub binary_of : Token → Option BinaryOperator
binary_of (tokens.Sign s) = binary_sign_of s
binary_of (tokens.Key keys.Instanceof) = Some binaries.Instanceof
binary_of (tokens.Key keys.In) = Some binaries.In
binary_of _ = None

-- how tightly an operator binds: the multiplicative ones most (sections 11.5 to 11.11)
abbrev pub binary_level : BinaryOperator → ℕ
binary_level binaries.Multiply = 12
binary_level binaries.Divide = 12
binary_level binaries.Remainder = 12
binary_level binaries.Add = 11
binary_level binaries.Subtract = 11
binary_level binaries.ShiftLeft = 10
binary_level binaries.ShiftRight = 10
binary_level binaries.ShiftRightUnsigned = 10
binary_level binaries.Less = 9
binary_level binaries.Greater = 9
binary_level binaries.LessEqual = 9
binary_level binaries.GreaterEqual = 9
binary_level binaries.Instanceof = 9
binary_level binaries.In = 9
binary_level binaries.Equal = 8
binary_level binaries.NotEqual = 8
binary_level binaries.StrictEqual = 8
binary_level binaries.StrictNotEqual = 8
binary_level binaries.BitAnd = 7
binary_level binaries.BitXor = 6
binary_level binaries.BitOr = 5
binary_level binaries.And = 4
binary_level binaries.Or = 3

-- where no `in` may stand, another operator may (the grammar's suffix NoIn)
abbrev pub IsAllowed : Bool → BinaryOperator → Type 0
IsAllowed true binaries.In = ⊥
IsAllowed _ _ = Unit {0}

-- the token of an assignment sign (section 11.13)
abbrev pub assign_token : AssignOperator → Token
assign_token assigns.Plain = tokens.Sign signs.Assign
assign_token assigns.Multiply = tokens.Sign signs.MultiplyAssign
assign_token assigns.Divide = tokens.Sign signs.DivideAssign
assign_token assigns.Remainder = tokens.Sign signs.RemainderAssign
assign_token assigns.Add = tokens.Sign signs.PlusAssign
assign_token assigns.Subtract = tokens.Sign signs.MinusAssign
assign_token assigns.ShiftLeft = tokens.Sign signs.ShiftLeftAssign
assign_token assigns.ShiftRight = tokens.Sign signs.ShiftRightAssign
assign_token assigns.ShiftRightUnsigned = tokens.Sign signs.ShiftRightUnsignedAssign
assign_token assigns.BitAnd = tokens.Sign signs.BitAndAssign
assign_token assigns.BitXor = tokens.Sign signs.BitXorAssign
assign_token assigns.BitOr = tokens.Sign signs.BitOrAssign

-- the assignment sign that a sign is
abbrev pub assign_sign_of : Sign → Option AssignOperator
assign_sign_of signs.Assign = Some assigns.Plain
assign_sign_of signs.MultiplyAssign = Some assigns.Multiply
assign_sign_of signs.DivideAssign = Some assigns.Divide
assign_sign_of signs.RemainderAssign = Some assigns.Remainder
assign_sign_of signs.PlusAssign = Some assigns.Add
assign_sign_of signs.MinusAssign = Some assigns.Subtract
assign_sign_of signs.ShiftLeftAssign = Some assigns.ShiftLeft
assign_sign_of signs.ShiftRightAssign = Some assigns.ShiftRight
assign_sign_of signs.ShiftRightUnsignedAssign = Some assigns.ShiftRightUnsigned
assign_sign_of signs.BitAndAssign = Some assigns.BitAnd
assign_sign_of signs.BitXorAssign = Some assigns.BitXor
assign_sign_of signs.BitOrAssign = Some assigns.BitOr
assign_sign_of _ = None

-- the assignment sign that a token is
abbrev pub assign_of : Token → Option AssignOperator
assign_of (tokens.Sign s) = assign_sign_of s
assign_of _ = None

-- the operator that a compound assignment applies (section 11.13.2)
abbrev pub compound : AssignOperator → Option BinaryOperator
compound assigns.Plain = None
compound assigns.Multiply = Some binaries.Multiply
compound assigns.Divide = Some binaries.Divide
compound assigns.Remainder = Some binaries.Remainder
compound assigns.Add = Some binaries.Add
compound assigns.Subtract = Some binaries.Subtract
compound assigns.ShiftLeft = Some binaries.ShiftLeft
compound assigns.ShiftRight = Some binaries.ShiftRight
compound assigns.ShiftRightUnsigned = Some binaries.ShiftRightUnsigned
compound assigns.BitAnd = Some binaries.BitAnd
compound assigns.BitXor = Some binaries.BitXor
compound assigns.BitOr = Some binaries.BitOr
