-- The tokens that spell programs, and those that begin such tokens.
use Rattle.std.specs.Prelude.{◌≡◌, ℕ, List, ◌++◌, length, take, Option, Some}
use Rattle.wjs_tree.specs.declared.tokens.Tok.{Tok}
use Rattle.wjs_tree.specs.Trees.{Elements}
use Rattle.wjs_tree.specs.Formed.{ElementsShaped}
use Rattle.wjs_tree.specs.Spelling.{ElementsStand}
use Rattle.wjs_forms.specs.States.{State, start, reach, Accepts}

-- A program that is shaped stands for all of these tokens; where its jumps go and how high it is isn't asked
-- (ECMA-262, 3rd edition, sections 11 to 14).
pub record Spells (toks : List Tok) : Type 0 where
  pub body : Elements
  pub shaped : ElementsShaped body
  pub stands : ElementsStand toks body 0 (length toks)

-- the tokens before the place k begin such tokens; any may follow
pub record Begins (toks : List Tok) (k : ℕ) : Type 0 where
  pub more : List Tok
  pub spelled : Spells (take k toks ++ more)

-- the state behind the tokens
abbrev pub IsReached : List Tok → State → Type 0
IsReached toks s = reach toks start ≡ Some s

-- The three laws of the table.
abbrev pub SpelledIsTaken : Type 0
SpelledIsTaken = (toks : List Tok) → Spells toks → Accepts start toks

abbrev pub TakenIsSpelled : Type 0
TakenIsSpelled = (toks : List Tok) → Accepts start toks → Spells toks

-- no dead end: what is reached has tokens that lead to an end
abbrev pub GoesOn : Type 0
GoesOn = (toks : List Tok) (s : State) → IsReached toks s → (more : List Tok) × Accepts s more
