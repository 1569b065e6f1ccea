-- Tokens by what they may do.
use Rattle.std.specs.Prelude.{Bool, true, false, Option, Some, None}
use Rattle.wjs_tree.specs.declared.tokens.Token.{Token}
use Rattle.wjs_tree.specs.declared.tokens.Token.TheVariants as tokens
use Rattle.wjs_tree.specs.declared.signs.Sign.{Sign}
use Rattle.wjs_tree.specs.declared.signs.Sign.TheVariants as signs
use Rattle.wjs_tree.specs.declared.keys.Key.{Key}
use Rattle.wjs_tree.specs.declared.keys.Key.TheVariants as keys
use Rattle.wjs_forms.specs.declared.class.Class.{Class}
use Rattle.wjs_forms.specs.declared.class.Class.TheVariants as classes

-- a sign (ECMA-262, 3rd edition, section 7.7)
abbrev pub sign_class : Sign → Class
sign_class signs.OpenBrace = classes.OpenBrace
sign_class signs.CloseBrace = classes.CloseBrace
sign_class signs.OpenParen = classes.OpenParen
sign_class signs.CloseParen = classes.CloseParen
sign_class signs.OpenBracket = classes.OpenBracket
sign_class signs.CloseBracket = classes.CloseBracket
sign_class signs.Dot = classes.Dot
sign_class signs.Semicolon = classes.Semicolon
sign_class signs.Comma = classes.Comma
sign_class signs.Question = classes.Question
sign_class signs.Colon = classes.Colon
sign_class signs.Increment = classes.Update
sign_class signs.Decrement = classes.Update
sign_class signs.Plus = classes.Sum
sign_class signs.Minus = classes.Sum
sign_class signs.Not = classes.SignBefore
sign_class signs.BitNot = classes.SignBefore
sign_class signs.Assign = classes.Assign
sign_class signs.PlusAssign = classes.AssignWith
sign_class signs.MinusAssign = classes.AssignWith
sign_class signs.MultiplyAssign = classes.AssignWith
sign_class signs.DivideAssign = classes.AssignWith
sign_class signs.RemainderAssign = classes.AssignWith
sign_class signs.ShiftLeftAssign = classes.AssignWith
sign_class signs.ShiftRightAssign = classes.AssignWith
sign_class signs.ShiftRightUnsignedAssign = classes.AssignWith
sign_class signs.BitAndAssign = classes.AssignWith
sign_class signs.BitOrAssign = classes.AssignWith
sign_class signs.BitXorAssign = classes.AssignWith
sign_class _ = classes.Operator

-- a reserved word (section 7.5.1)
abbrev pub key_class : Key → Class
key_class keys.This = classes.Constant
key_class keys.ThisWorld = classes.Constant
key_class keys.Null = classes.Constant
key_class keys.True = classes.Constant
key_class keys.False = classes.Constant
key_class keys.Delete = classes.KeyBefore
key_class keys.Void = classes.KeyBefore
key_class keys.Typeof = classes.KeyBefore
key_class keys.Instanceof = classes.Instanceof
key_class keys.In = classes.In
key_class keys.Function = classes.Function
key_class keys.New = classes.New
key_class keys.Var = classes.Var
key_class keys.If = classes.If
key_class keys.Do = classes.Do
key_class keys.While = classes.While
key_class keys.For = classes.For
key_class keys.Continue = classes.Continue
key_class keys.Break = classes.Break
key_class keys.Return = classes.Return
key_class keys.Throw = classes.Throw
key_class keys.Switch = classes.Switch
key_class keys.Try = classes.Try
key_class keys.Case = classes.Case
key_class keys.Default = classes.Default
key_class keys.Catch = classes.Catch
key_class keys.Finally = classes.Finally
key_class keys.Else = classes.Else
key_class _ = classes.Reserved

abbrev pub class_of : Token → Class
class_of (tokens.Word x) = classes.Word
class_of (tokens.Number n) = classes.Literal
class_of (tokens.Text x) = classes.Literal
class_of (tokens.Sign s) = sign_class s
class_of (tokens.Key k) = key_class k

-- a token, or the end of the tokens
abbrev pub class_at : Option Token → Class
class_at None = classes.End
class_at (Some token) = class_of token

-- a name behind a dot (5th edition, section 11.2.1): no literal, sign or end
abbrev pub is_name : Class → Bool
is_name classes.Literal = false
is_name classes.OpenParen = false
is_name classes.CloseParen = false
is_name classes.OpenBracket = false
is_name classes.CloseBracket = false
is_name classes.OpenBrace = false
is_name classes.CloseBrace = false
is_name classes.Dot = false
is_name classes.Semicolon = false
is_name classes.Comma = false
is_name classes.Question = false
is_name classes.Colon = false
is_name classes.Update = false
is_name classes.Sum = false
is_name classes.SignBefore = false
is_name classes.Operator = false
is_name classes.Assign = false
is_name classes.AssignWith = false
is_name classes.End = false
is_name _ = true
