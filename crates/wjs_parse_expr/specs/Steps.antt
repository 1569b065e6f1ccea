-- Steps by which a tree grows to the right, and lists in brackets.
use Rattle.std.specs.Prelude.{◌≡◌, ℕ, ◌+◌, ◌-◌, ◌<◌, ◌≤◌, ◌⊎◌, Bool, true, false, List}
use Rattle.wjs_tree.specs.declared.tokens.Tok.{Tok}
use Rattle.wjs_tree.specs.declared.signs.Sign.TheVariants as signs
use Rattle.wjs_tree.specs.declared.node.Spelt.{Spelt}
use Rattle.wjs_tree.specs.declared.operators.BinaryOperator.{BinaryOperator}
use Rattle.wjs_tree.specs.declared.operators.AssignOperator.{AssignOperator}
use Rattle.wjs_tree.specs.Operators.{binary_token, binary_level, assign_token, IsAllowed}
use Rattle.wjs_tree.specs.Trees.{Expr, Arguments, Items, Properties, Binary, Cond, Assign, Comma, Dot, At, Call, NewWith, NewBare}
use Rattle.wjs_tree.specs.Levels.{level, is_bare}
use Rattle.wjs_tree.specs.Height.{arguments_height, items_height, properties_height}
use Rattle.wjs_tree.specs.Formed.{ArgumentsFormed, ItemsFormed, PropertiesFormed}
use Rattle.wjs_tree.specs.Ends.{HasToken, HasSign}
use Rattle.wjs_tree.specs.Spelling.{ArgumentsStand, ItemsStand, PropertiesStand, spelt_token}
use Rattle.wjs_parse_expr.specs.Readings.{Reading}

-- an operator of the level and its right operand
pub record BinaryStep (toks : List Tok) (least : ℕ) (no_in : Bool) (room : ℕ) (y : Expr) (f : ℕ) (y' : Expr) (f' : ℕ) : Type 0 where
  pub op : BinaryOperator
  pub right : Expr
  pub is : y' ≡ Binary y op right
  pub sign : HasToken toks f (binary_token op)
  pub allowed : IsAllowed no_in op
  pub binds : binary_level op ≡ least
  pub below : 0 < room
  pub reading : Reading toks (least + 1) no_in (room - 1) (f + 1) right f'

-- a comma and its right operand
pub record CommaStep (toks : List Tok) (no_in : Bool) (room : ℕ) (y : Expr) (f : ℕ) (y' : Expr) (f' : ℕ) : Type 0 where
  pub right : Expr
  pub is : y' ≡ Comma y right
  pub sign : HasSign toks f signs.Comma
  pub below : 0 < room
  pub reading : Reading toks 1 no_in (room - 1) (f + 1) right f'

-- `?` and both choices
pub record CondStep (toks : List Tok) (no_in : Bool) (room : ℕ) (y : Expr) (f : ℕ) (y' : Expr) (f' : ℕ) : Type 0 where
  pub yes : Expr
  pub no : Expr
  pub colon : ℕ
  pub is : y' ≡ Cond y yes no
  pub sign : HasSign toks f signs.Question
  pub below : 0 < room
  pub yes_reading : Reading toks 1 false (room - 1) (f + 1) yes colon
  pub colon_sign : HasSign toks colon signs.Colon
  pub no_reading : Reading toks 1 no_in (room - 1) (colon + 1) no f'

-- an assignment sign and the value
pub record AssignStep (toks : List Tok) (no_in : Bool) (room : ℕ) (y : Expr) (f : ℕ) (y' : Expr) (f' : ℕ) : Type 0 where
  pub op : AssignOperator
  pub value : Expr
  pub is : y' ≡ Assign y op value
  pub sign : HasToken toks f (assign_token op)
  pub below : 0 < room
  pub reading : Reading toks 1 no_in (room - 1) (f + 1) value f'

-- arguments up to the closing parenthesis, each lower than `room`
pub record Listing (toks : List Tok) (room i : ℕ) (ts : Arguments) (n : ℕ) : Type 0 where
  pub formed : ArgumentsFormed ts
  pub height : arguments_height ts + 1 ≤ room
  pub stands : ArgumentsStand toks ts i n
  pub closed : HasSign toks n signs.CloseParen

-- items up to the closing bracket, each lower than `room`
pub record ItemsListing (toks : List Tok) (room i : ℕ) (ts : Items) (n : ℕ) : Type 0 where
  pub formed : ItemsFormed ts
  pub height : items_height ts + 1 ≤ room
  pub stands : ItemsStand toks ts i n
  pub closed : HasSign toks n signs.CloseBracket

-- properties up to the closing brace, each lower than `room`
pub record PropertiesListing (toks : List Tok) (room i : ℕ) (ts : Properties) (n : ℕ) : Type 0 where
  pub formed : PropertiesFormed ts
  pub height : properties_height ts + 1 ≤ room
  pub stands : PropertiesStand toks ts i n
  pub closed : HasSign toks n signs.CloseBrace

-- a name behind a dot
pub record DotStep (toks : List Tok) (y : Expr) (f : ℕ) (y' : Expr) (f' : ℕ) : Type 0 where
  pub name : Spelt
  pub is : y' ≡ Dot y name
  pub sign : HasSign toks f signs.Dot
  pub word : HasToken toks (f + 1) (spelt_token name)
  pub ends : f' ≡ f + 2

-- an index
pub record AtStep (toks : List Tok) (room : ℕ) (y : Expr) (f : ℕ) (y' : Expr) (f' : ℕ) : Type 0 where
  pub place : Expr
  pub close : ℕ
  pub is : y' ≡ At y place
  pub sign : HasSign toks f signs.OpenBracket
  pub reading : Reading toks 0 false (room - 1) (f + 1) place close
  pub close_sign : HasSign toks close signs.CloseBracket
  pub ends : f' ≡ close + 1

-- arguments
pub record CallStep (toks : List Tok) (room : ℕ) (y : Expr) (f : ℕ) (y' : Expr) (f' : ℕ) : Type 0 where
  pub arguments : Arguments
  pub close : ℕ
  pub is : y' ≡ Call y arguments
  pub sign : HasSign toks f signs.OpenParen
  pub listing : Listing toks room (f + 1) arguments close
  pub ends : f' ≡ close + 1

-- a name behind a dot, an index, or arguments where calls are meant
pub record SuffixStep (toks : List Tok) (calls : Bool) (room : ℕ) (y : Expr) (f : ℕ) (y' : Expr) (f' : ℕ) : Type 0 where
  pub below : 0 < room
  pub kind : DotStep toks y f y' f' ⊎ (AtStep toks room y f y' f' ⊎ ((calls ≡ true) × CallStep toks room y f y' f'))

-- the least level of a chain of names and indices, with calls or without
abbrev pub chain_level : Bool → ℕ
chain_level true = 16
chain_level false = 17

-- a chain, or `new` without arguments
abbrev pub InChain : Bool → Expr → Type 0
InChain calls t = (chain_level calls ≤ level t) ⊎ (is_bare t ≡ true)

-- begun by `new`
abbrev pub is_new : Expr → Bool
is_new (NewWith f xs) = true
is_new (NewBare f) = true
is_new _ = false

-- what a chain begins with
abbrev pub IsHead : Expr → Type 0
IsHead t = (18 ≤ level t) ⊎ (is_new t ≡ true)
