-- How a sign is read: from its first character on, it grows by one character at a time.
use Rattle.std.specs.Prelude.{ℕ, ◌==◌, Option, Some, None, if◌then◌else◌}
use Rattle.wjs_tree.specs.declared.signs.Sign.{Sign}
use Rattle.wjs_tree.specs.declared.signs.Sign.TheVariants as signs

-- the sign that is spelled by one character
abbrev pub sign_of : ℕ → Option Sign
sign_of c =
    if c == 123 then Some signs.OpenBrace else (
    if c == 125 then Some signs.CloseBrace else (
    if c == 40 then Some signs.OpenParen else (
    if c == 41 then Some signs.CloseParen else (
    if c == 91 then Some signs.OpenBracket else (
    if c == 93 then Some signs.CloseBracket else (
    if c == 46 then Some signs.Dot else (
    if c == 59 then Some signs.Semicolon else (
    if c == 44 then Some signs.Comma else (
    if c == 60 then Some signs.Less else (
    if c == 62 then Some signs.Greater else (
    if c == 43 then Some signs.Plus else (
    if c == 45 then Some signs.Minus else (
    if c == 42 then Some signs.Multiply else (
    if c == 47 then Some signs.Divide else (
    if c == 37 then Some signs.Remainder else (
    if c == 38 then Some signs.BitAnd else (
    if c == 124 then Some signs.BitOr else (
    if c == 94 then Some signs.BitXor else (
    if c == 33 then Some signs.Not else (
    if c == 126 then Some signs.BitNot else (
    if c == 63 then Some signs.Question else (
    if c == 58 then Some signs.Colon else (
    if c == 61 then Some signs.Assign else (
    None))))))))))))))))))))))))

abbrev pub with_equals : Sign → Option Sign
with_equals signs.Less = Some signs.LessEqual
with_equals signs.Greater = Some signs.GreaterEqual
with_equals signs.Assign = Some signs.Equal
with_equals signs.Not = Some signs.NotEqual
with_equals signs.Equal = Some signs.StrictEqual
with_equals signs.NotEqual = Some signs.StrictNotEqual
with_equals signs.Plus = Some signs.PlusAssign
with_equals signs.Minus = Some signs.MinusAssign
with_equals signs.Multiply = Some signs.MultiplyAssign
with_equals signs.Divide = Some signs.DivideAssign
with_equals signs.Remainder = Some signs.RemainderAssign
with_equals signs.ShiftLeft = Some signs.ShiftLeftAssign
with_equals signs.ShiftRight = Some signs.ShiftRightAssign
with_equals signs.ShiftRightUnsigned = Some signs.ShiftRightUnsignedAssign
with_equals signs.BitAnd = Some signs.BitAndAssign
with_equals signs.BitOr = Some signs.BitOrAssign
with_equals signs.BitXor = Some signs.BitXorAssign
with_equals _ = None

abbrev pub with_plus : Sign → Option Sign
with_plus signs.Plus = Some signs.Increment
with_plus _ = None

abbrev pub with_minus : Sign → Option Sign
with_minus signs.Minus = Some signs.Decrement
with_minus _ = None

abbrev pub with_less : Sign → Option Sign
with_less signs.Less = Some signs.ShiftLeft
with_less _ = None

abbrev pub with_greater : Sign → Option Sign
with_greater signs.Greater = Some signs.ShiftRight
with_greater signs.ShiftRight = Some signs.ShiftRightUnsigned
with_greater _ = None

abbrev pub with_and : Sign → Option Sign
with_and signs.BitAnd = Some signs.And
with_and _ = None

abbrev pub with_or : Sign → Option Sign
with_or signs.BitOr = Some signs.Or
with_or _ = None

-- the sign that a sign becomes with one more character
abbrev pub longer : Sign → ℕ → Option Sign
longer s c =
    if c == 61 then with_equals s else (
    if c == 43 then with_plus s else (
    if c == 45 then with_minus s else (
    if c == 60 then with_less s else (
    if c == 62 then with_greater s else (
    if c == 38 then with_and s else (
    if c == 124 then with_or s else (
    None)))))))
