-- The tokens that may begin an expression.
use Rattle.std.specs.Prelude.{Bool, true, false}
use Rattle.wjs_tree.specs.declared.tokens.Token.{Token}
use Rattle.wjs_tree.specs.declared.tokens.Token.TheVariants as tokens
use Rattle.wjs_tree.specs.declared.signs.Sign.TheVariants as signs
use Rattle.wjs_tree.specs.declared.keys.Key.TheVariants as keys

abbrev pub can_begin : Token → Bool
can_begin (tokens.Word x) = true
can_begin (tokens.Number x) = true
can_begin (tokens.Text x) = true
can_begin (tokens.Sign signs.OpenParen) = true
can_begin (tokens.Sign signs.OpenBracket) = true
can_begin (tokens.Sign signs.OpenBrace) = true
can_begin (tokens.Sign signs.Increment) = true
can_begin (tokens.Sign signs.Decrement) = true
can_begin (tokens.Sign signs.Plus) = true
can_begin (tokens.Sign signs.Minus) = true
can_begin (tokens.Sign signs.BitNot) = true
can_begin (tokens.Sign signs.Not) = true
can_begin (tokens.Key keys.New) = true
can_begin (tokens.Key keys.Function) = true
can_begin (tokens.Key keys.This) = true
can_begin (tokens.Key keys.ThisWorld) = true
can_begin (tokens.Key keys.Null) = true
can_begin (tokens.Key keys.True) = true
can_begin (tokens.Key keys.False) = true
can_begin (tokens.Key keys.Delete) = true
can_begin (tokens.Key keys.Void) = true
can_begin (tokens.Key keys.Typeof) = true
can_begin _ = false
