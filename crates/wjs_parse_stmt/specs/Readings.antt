-- Statements and their parts that are read at a place.
use Rattle.std.specs.Prelude.{◌≡◌, ℕ, ◌+◌, ◌-◌, ◌≤◌, true, List}
use Rattle.wjs_base.specs.declared.ids.TextId.{TextId}
use Rattle.wjs_tree.specs.declared.tokens.Tok.{Tok}
use Rattle.wjs_tree.specs.declared.tokens.Token.TheVariants as tokens
use Rattle.wjs_tree.specs.declared.signs.Sign.TheVariants as signs
use Rattle.wjs_tree.specs.declared.keys.Key.TheVariants as keys
use Rattle.wjs_tree.specs.Trees.{Optional, Absent, Present, Stmt, Stmts, Clauses, Elements}
use Rattle.wjs_tree.specs.Height.{stmts_height, clauses_height, elements_height}
use Rattle.wjs_tree.specs.Formed.{StmtsFormed, ClausesFormed, ElementsFormed}
use Rattle.wjs_tree.specs.Ends.{token_at, HasToken, HasSign, HasKey}
use Rattle.wjs_tree.specs.Spelling.{StmtsStand, ClausesStand, ElementsStand}
use Rattle.wjs_parse_simple.specs.Readings.{StmtReading, UpTo, MaybeForm, is_closer}

-- statements up to a token that closes them
pub record StmtsForm (toks : List Tok) (room i : ℕ) (ss : Stmts) (n : ℕ) : Type 0 where
  pub formed : StmtsFormed ss
  pub height : stmts_height ss ≤ room
  pub stands : StmtsStand toks ss i n
  pub closes : is_closer (token_at toks n) ≡ true

-- statements in braces
pub record BlockForm (toks : List Tok) (room i : ℕ) (ss : Stmts) (n : ℕ) : Type 0 where
  pub close : ℕ
  pub opens : HasSign toks i signs.OpenBrace
  pub formed : StmtsFormed ss
  pub height : stmts_height ss + 1 ≤ room
  pub stands : StmtsStand toks ss (i + 1) close
  pub closes : HasSign toks close signs.CloseBrace
  pub ends : n ≡ close + 1

-- `catch`, a name and a block
pub record HandlerForm (toks : List Tok) (room i : ℕ) (x : TextId) (ss : Stmts) (n : ℕ) : Type 0 where
  pub key : HasKey toks i keys.Catch
  pub opens : HasSign toks (i + 1) signs.OpenParen
  pub name : HasToken toks (i + 2) (tokens.Word x)
  pub closes : HasSign toks (i + 3) signs.CloseParen
  pub block : BlockForm toks room (i + 4) ss n

-- `case`, an expression and a colon, or `default` and a colon
abbrev pub ClauseHead : List Tok → ℕ → ℕ → Optional → ℕ → Type 0
ClauseHead toks room i Absent n = HasKey toks i keys.Default × HasSign toks (i + 1) signs.Colon × (n ≡ i + 2)
ClauseHead toks room i (Present e) n = (m : ℕ) × HasKey toks i keys.Case × UpTo toks signs.Colon room (i + 1) e m × (n ≡ m + 1)

-- one clause of a `switch`: its expression, if it isn't `default`, and its statements
pub record ClauseForm (toks : List Tok) (room i : ℕ) (o : Optional) (ss : Stmts) (n : ℕ) : Type 0 where
  pub place : ℕ
  pub head : ClauseHead toks room i o place
  pub body : StmtsForm toks room place ss n

-- clauses up to a brace
pub record ClausesForm (toks : List Tok) (room i : ℕ) (cs : Clauses) (n : ℕ) : Type 0 where
  pub formed : ClausesFormed cs
  pub height : clauses_height cs ≤ room
  pub stands : ClausesStand toks cs i n
  pub closes : HasSign toks n signs.CloseBrace

-- what stands behind the first part of the header of a `for`
pub record RestForm (toks : List Tok) (room i : ℕ) (test update : Optional) (s : Stmt) (n : ℕ) : Type 0 where
  pub first : ℕ
  pub second : ℕ
  pub opens : HasSign toks i signs.Semicolon
  pub test_form : MaybeForm toks signs.Semicolon room (i + 1) test first
  pub update_form : MaybeForm toks signs.CloseParen room (first + 1) update second
  pub body : StmtReading toks room (second + 1) s n

-- elements up to a token that closes them
pub record ElementsForm (toks : List Tok) (room i : ℕ) (es : Elements) (n : ℕ) : Type 0 where
  pub formed : ElementsFormed es
  pub height : elements_height es ≤ room
  pub stands : ElementsStand toks es i n
  pub closes : is_closer (token_at toks n) ≡ true
