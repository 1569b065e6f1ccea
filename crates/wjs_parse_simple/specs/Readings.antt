-- Statements and their parts that are read at a place.
use Rattle.std.specs.Prelude.{◌≡◌, ℕ, ◌+◌, ◌-◌, ◌≤◌, Bool, true, false, List, Option, Some, None}
use Rattle.wjs_base.specs.declared.ids.TextId.{TextId}
use Rattle.wjs_tree.specs.declared.tokens.Tok.{Tok}
use Rattle.wjs_tree.specs.declared.tokens.Token.{Token}
use Rattle.wjs_tree.specs.declared.tokens.Token.TheVariants as tokens
use Rattle.wjs_tree.specs.declared.signs.Sign.{Sign}
use Rattle.wjs_tree.specs.declared.signs.Sign.TheVariants as signs
use Rattle.wjs_tree.specs.declared.keys.Key.TheVariants as keys
use Rattle.wjs_tree.specs.declared.node.End.{End}
use Rattle.wjs_tree.specs.Trees.{Expr, Optional, Absent, Present, Variables, NoVariable, Variable, Stmt}
use Rattle.wjs_tree.specs.Levels.{ends_in_update}
use Rattle.wjs_tree.specs.Height.{optional_height, variables_height, stmt_height}
use Rattle.wjs_tree.specs.Formed.{OptionalFormed, InitialiserFormed, VariablesFormed, AreSome, StmtFormed, is_open_if}
use Rattle.wjs_tree.specs.Ends.{token_at, HasToken, HasSign, HasKey, Ending, Complete, InName, InExpr, Ends}
use Rattle.wjs_tree.specs.Spelling.{OptionalStands, InitialiserStands, VariablesStand, StmtStands}
use Rattle.wjs_parse_expr.specs.Readings.{Reading, Continues}
use Rattle.wjs_parse_simple.specs.declared.parts.Stop.{Stop}
use Rattle.wjs_parse_simple.specs.declared.parts.Stop.TheVariants as stops
use Rattle.wjs_parse_simple.specs.declared.parts.Ended.{Ended}

-- what a statement ends in
abbrev pub ending_of : Stop → Ending
ending_of stops.Complete = Complete
ending_of stops.InName = InName
ending_of (stops.InExpr update) = InExpr update

-- `++` or `--`
abbrev pub is_update_token : Option Token → Bool
is_update_token (Some (tokens.Sign signs.Increment)) = true
is_update_token (Some (tokens.Sign signs.Decrement)) = true
is_update_token _ = false

-- the token before a place is `++` or `--`
abbrev pub update_before : List Tok → ℕ → Bool
update_before toks n = is_update_token (token_at toks (n - 1))

-- a token that closes a list of statements, or the end of the tokens
abbrev pub is_closer : Option Token → Bool
is_closer None = true
is_closer (Some (tokens.Sign signs.CloseBrace)) = true
is_closer (Some (tokens.Key keys.Case)) = true
is_closer (Some (tokens.Key keys.Default)) = true
is_closer _ = false

-- an end, where one stands or may be inserted
abbrev pub EndAnswers : List Tok → ℕ → Ending → Option Ended → Type 0
EndAnswers toks i ending (Some p) = Ends toks ending p.end i p.next
EndAnswers toks i ending None = (end : End) (n : ℕ) → Ends toks ending end i n → ⊥

-- A well-formed statement of at most the height `room`, that the tokens from i up to n spell. Where jumps go isn't asked.
pub record StmtReading (toks : List Tok) (room i : ℕ) (s : Stmt) (n : ℕ) : Type 0 where
  pub formed : StmtFormed s
  pub height : stmt_height s ≤ room
  pub stands : StmtStands toks s i n

-- The token behind a statement makes no longer statement of it: no `else` for an `if` in it, no `finally`, and no colon.
pub record Stops (toks : List Tok) (m : ℕ) (s : Stmt) : Type 0 where
  pub no_else : HasKey toks m keys.Else → is_open_if s ≡ false
  pub no_finally : HasKey toks m keys.Finally → ⊥
  pub no_colon : HasSign toks m signs.Colon → ⊥

-- an expression in parentheses
pub record TestForm (toks : List Tok) (room i : ℕ) (e : Expr) (n : ℕ) : Type 0 where
  pub close : ℕ
  pub opens : HasSign toks i signs.OpenParen
  pub reading : Reading toks 0 false room (i + 1) e close
  pub closes : HasSign toks close signs.CloseParen
  pub ends : n ≡ close + 1

-- an expression up to a sign
pub record UpTo (toks : List Tok) (sign : Sign) (room i : ℕ) (e : Expr) (n : ℕ) : Type 0 where
  pub reading : Reading toks 0 false room i e n
  pub closes : HasSign toks n sign

-- an expression or nothing up to a sign
pub record MaybeForm (toks : List Tok) (sign : Sign) (room i : ℕ) (o : Optional) (n : ℕ) : Type 0 where
  pub formed : OptionalFormed o
  pub height : optional_height o ≤ room
  pub stands : OptionalStands toks o i n
  pub closes : HasSign toks n sign

-- an expression and the end of its statement
pub record ValueForm (toks : List Tok) (room i : ℕ) (e : Expr) (end : End) (n : ℕ) : Type 0 where
  pub place : ℕ
  pub reading : Reading toks 0 false room i e place
  pub ends : Ends toks (InExpr (ends_in_update e)) end place n

-- variables; in the header of a `for` no operator `in` stands in their values outside brackets
pub record VariablesForm (toks : List Tok) (no_in : Bool) (room i : ℕ) (vs : Variables) (n : ℕ) : Type 0 where
  pub some : AreSome vs
  pub formed : VariablesFormed no_in vs
  pub height : variables_height vs ≤ room
  pub stands : VariablesStand toks vs i n

-- one variable
pub record VariableForm (toks : List Tok) (no_in : Bool) (room i : ℕ) (x : TextId) (e : Optional) (n : ℕ) : Type 0 where
  pub name : HasToken toks i (tokens.Word x)
  pub formed : InitialiserFormed no_in e
  pub height : optional_height e ≤ room
  pub stands : InitialiserStands toks e (i + 1) n

-- what the value of a variable ends in
abbrev pub value_ending : Optional → Ending
value_ending Absent = InName
value_ending (Present e) = InExpr (ends_in_update e)

-- the token behind a variable makes no longer variable of it
abbrev pub Shut : List Tok → Bool → Optional → ℕ → Type 0
Shut toks no_in Absent n = HasSign toks n signs.Assign → ⊥
Shut toks no_in (Present e) n = Continues toks 1 no_in e n → ⊥

-- the last value of a list of variables
abbrev pub last_value : Variables → Optional
last_value NoVariable = Absent
last_value (Variable x e NoVariable) = e
last_value (Variable x e rest) = last_value rest

-- the token behind variables makes no longer list of them
pub record ShutList (toks : List Tok) (no_in : Bool) (vs : Variables) (n : ℕ) : Type 0 where
  pub no_comma : HasSign toks n signs.Comma → ⊥
  pub shut : Shut toks no_in (last_value vs) n
