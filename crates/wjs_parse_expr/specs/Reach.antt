-- How far a token may continue an expression: one more than the highest level that it continues, 0 where it continues none.
use Rattle.std.specs.Prelude.{ℕ, Bool, true, false, Option, Some, None}
use Rattle.wjs_tree.specs.declared.tokens.Token.{Token}
use Rattle.wjs_tree.specs.declared.tokens.Token.TheVariants as tokens
use Rattle.wjs_tree.specs.declared.signs.Sign.{Sign}
use Rattle.wjs_tree.specs.declared.signs.Sign.TheVariants as signs
use Rattle.wjs_tree.specs.declared.keys.Key.{Key}
use Rattle.wjs_tree.specs.declared.keys.Key.TheVariants as keys

abbrev pub sign_reach : Sign → ℕ
sign_reach signs.Dot = 18
sign_reach signs.OpenBracket = 18
sign_reach signs.OpenParen = 17
sign_reach signs.Increment = 15
sign_reach signs.Decrement = 15
sign_reach signs.Multiply = 13
sign_reach signs.Divide = 13
sign_reach signs.Remainder = 13
sign_reach signs.Plus = 12
sign_reach signs.Minus = 12
sign_reach signs.ShiftLeft = 11
sign_reach signs.ShiftRight = 11
sign_reach signs.ShiftRightUnsigned = 11
sign_reach signs.Less = 10
sign_reach signs.Greater = 10
sign_reach signs.LessEqual = 10
sign_reach signs.GreaterEqual = 10
sign_reach signs.Equal = 9
sign_reach signs.NotEqual = 9
sign_reach signs.StrictEqual = 9
sign_reach signs.StrictNotEqual = 9
sign_reach signs.BitAnd = 8
sign_reach signs.BitXor = 7
sign_reach signs.BitOr = 6
sign_reach signs.And = 5
sign_reach signs.Or = 4
sign_reach signs.Question = 3
sign_reach signs.Assign = 2
sign_reach signs.PlusAssign = 2
sign_reach signs.MinusAssign = 2
sign_reach signs.MultiplyAssign = 2
sign_reach signs.DivideAssign = 2
sign_reach signs.RemainderAssign = 2
sign_reach signs.ShiftLeftAssign = 2
sign_reach signs.ShiftRightAssign = 2
sign_reach signs.ShiftRightUnsignedAssign = 2
sign_reach signs.BitAndAssign = 2
sign_reach signs.BitOrAssign = 2
sign_reach signs.BitXorAssign = 2
sign_reach signs.Comma = 1
sign_reach _ = 0

-- where no `in` may stand, it continues nothing
abbrev pub key_reach : Bool → Key → ℕ
key_reach false keys.In = 10
key_reach true keys.In = 0
key_reach _ keys.Instanceof = 10
key_reach _ _ = 0

abbrev pub token_reach : Bool → Token → ℕ
token_reach no_in (tokens.Sign s) = sign_reach s
token_reach no_in (tokens.Key k) = key_reach no_in k
token_reach no_in _ = 0

abbrev pub reach : Bool → Option Token → ℕ
reach no_in None = 0
reach no_in (Some t) = token_reach no_in t
