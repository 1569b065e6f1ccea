-- Tokens at their places, and where the end of a statement may be inserted (ECMA-262, 3rd edition, section 7.9).
use Rattle.std.specs.Prelude.{◌≡◌, ℕ, ◌+◌, ◌⊎◌, Bool, true, false, not, ◌&&◌, ◌||◌, is_some, List, Option, Some, None, slice_get}
use Rattle.std.specs.Option.{option_map}
use Rattle.wjs_tree.specs.declared.tokens.Tok.{Tok}
use Rattle.wjs_tree.specs.declared.tokens.Token.{Token}
use Rattle.wjs_tree.specs.declared.tokens.Token.TheVariants as tokens
use Rattle.wjs_tree.specs.declared.signs.Sign.{Sign}
use Rattle.wjs_tree.specs.declared.signs.Sign.TheVariants as signs
use Rattle.wjs_tree.specs.declared.keys.Key.{Key}
use Rattle.wjs_tree.specs.declared.node.End.{End}
use Rattle.wjs_tree.specs.declared.node.End.TheVariants as ends
use Rattle.wjs_tree.specs.Operators.{binary_of, assign_of}

-- the token at a place
abbrev pub token_at : List Tok → ℕ → Option Token
token_at toks i = option_map (λ t. t.token) (slice_get toks i)

-- the token stands at the place
abbrev pub HasToken : List Tok → ℕ → Token → Type 0
HasToken toks i token = token_at toks i ≡ Some token

-- the sign stands at the place
abbrev pub HasSign : List Tok → ℕ → Sign → Type 0
HasSign toks i sign = token_at toks i ≡ Some (tokens.Sign sign)

-- the key stands at the place
abbrev pub HasKey : List Tok → ℕ → Key → Type 0
HasKey toks i key = token_at toks i ≡ Some (tokens.Key key)

-- no line ends before the token, if there is one
abbrev pub is_joined : Option Tok → Bool
is_joined None = true
is_joined (Some t) = not t.after_line

-- no line ends before the token at the place, where the grammar says [no LineTerminator here]
abbrev pub IsJoined : List Tok → ℕ → Type 0
IsJoined toks i = is_joined (slice_get toks i) ≡ true

-- how a statement ends before its semicolon: so that nothing continues it, in the name of a variable without initialiser,
-- or in an expression, of which the last token may be `++` or `--`
pub data Ending : Type 0 where
  Complete : Ending
  InName : Ending
  InExpr : Bool → Ending

-- a token that continues any expression: an operator, `?`, `,` or an assignment sign
abbrev pub is_operator : Token → Bool
is_operator (tokens.Sign signs.Question) = true
is_operator (tokens.Sign signs.Comma) = true
is_operator token = is_some (binary_of token) || is_some (assign_of token)

-- a token that continues an expression that doesn't end in `++` or `--`
abbrev pub is_suffix : Token → Bool
is_suffix (tokens.Sign signs.OpenParen) = true
is_suffix (tokens.Sign signs.OpenBracket) = true
is_suffix (tokens.Sign signs.Dot) = true
is_suffix _ = false

-- a token that continues a variable without initialiser
abbrev pub continues_name : Token → Bool
continues_name (tokens.Sign signs.Assign) = true
continues_name (tokens.Sign signs.Comma) = true
continues_name _ = false

-- the token continues a statement that ends so
abbrev pub continues : Ending → Token → Bool
continues Complete token = false
continues InName token = continues_name token
continues (InExpr update) token = is_operator token || (is_suffix token && not update)

-- an offending token: it stands behind a line end, is no `;`, and doesn't continue the statement
pub record Offends (toks : List Tok) (ending : Ending) (i : ℕ) : Type 0 where
  pub token : Token
  pub stands : HasToken toks i token
  pub after_line : is_joined (slice_get toks i) ≡ false
  pub no_semicolon : token ≡ tokens.Sign signs.Semicolon → ⊥
  pub stops : continues ending token ≡ false

-- an end may be inserted at the end of the tokens, before `}`, and before an offending token
abbrev pub CanInsert : List Tok → Ending → ℕ → Type 0
CanInsert toks ending i = (token_at toks i ≡ None) ⊎ (HasSign toks i signs.CloseBrace ⊎ Offends toks ending i)

-- the end of a statement from a place up to another: `;`, or nothing where an end may be inserted
abbrev pub Ends : List Tok → Ending → End → ℕ → ℕ → Type 0
Ends toks ending ends.Written i n = HasSign toks i signs.Semicolon × (n ≡ i + 1)
Ends toks ending ends.Inserted i n = CanInsert toks ending i × (n ≡ i)
