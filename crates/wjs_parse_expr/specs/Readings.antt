-- Trees that are read at a place.
use Rattle.std.specs.Prelude.{◌≡◌, ℕ, ◌<◌, ◌≤◌, Bool, true, false, cond, List}
use Rattle.wjs_tree.specs.declared.tokens.Tok.{Tok}
use Rattle.wjs_tree.specs.Trees.{Expr, Function}
use Rattle.wjs_tree.specs.Levels.{level, ends_in_update}
use Rattle.wjs_tree.specs.Height.{height}
use Rattle.wjs_tree.specs.Formed.{WellFormed}
use Rattle.wjs_tree.specs.Spelling.{Stands}
use Rattle.wjs_tree.specs.Ends.{token_at, IsJoined}
use Rattle.wjs_parse_expr.specs.Reach.{reach}

-- A well-formed tree of at least the level and at most the height `room`, that the tokens from i up to n spell.
pub record Reading (toks : List Tok) (least : ℕ) (no_in : Bool) (room i : ℕ) (t : Expr) (n : ℕ) : Type 0 where
  pub level : least ≤ level t
  pub formed : WellFormed no_in t
  pub height : height t ≤ room
  pub stands : Stands toks t i n

-- the greatest reach that may continue a tree: nothing that binds tighter stands behind `++` or `--`
abbrev pub edge : Expr → ℕ
edge t = cond (ends_in_update t) 14 18

-- The token at the place may continue the tree to a longer one of the level.
abbrev pub Continues : List Tok → ℕ → Bool → Expr → ℕ → Type 0
Continues toks least no_in t p = (least < reach no_in (token_at toks p)) × (reach no_in (token_at toks p) ≤ edge t) × (reach no_in (token_at toks p) ≡ 15 → IsJoined toks p)

-- a function expression
abbrev pub is_function : Expr → Bool
is_function (Function name formals body) = true
is_function _ = false

-- a well-formed function expression that the tokens from i up to n spell
pub record FunctionReading (toks : List Tok) (i : ℕ) (t : Expr) (n : ℕ) : Type 0 where
  pub is : is_function t ≡ true
  pub reading : Reading toks 18 false 200 i t n
