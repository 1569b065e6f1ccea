-- Elements, functions and programs that are read.
use Rattle.std.specs.Prelude.{◌≡◌, ℕ, suc, ◌+◌, ◌≤◌, true, List, ◌∷◌, length, Option, Some}
use Rattle.wjs_base.specs.declared.ids.TextId.{TextId}
use Rattle.wjs_base.specs.declared.ids.NodeId.{NodeId}
use Rattle.wjs_tree.specs.declared.tokens.Tok.{Tok}
use Rattle.wjs_tree.specs.declared.signs.Sign.TheVariants as signs
use Rattle.wjs_tree.specs.declared.keys.Key.TheVariants as keys
use Rattle.wjs_tree.specs.declared.node.Node.{Node}
use Rattle.wjs_tree.specs.declared.node.Node.TheVariants as nodes
use Rattle.wjs_tree.specs.Trees.{Function, Stmt, Elements, Statement, FunctionDecl}
use Rattle.wjs_tree.specs.Height.{stmt_height, elements_height}
use Rattle.wjs_tree.specs.Jumps.{outermost, ElementsJumpRight}
use Rattle.wjs_tree.specs.Formed.{StmtFormed, ElementsFormed, ProgramFormed}
use Rattle.wjs_tree.specs.Ends.{HasSign, HasKey}
use Rattle.wjs_tree.specs.Spelling.{NameStands, FormalsStand, Stands, StmtStands, ElementsStand}
use Rattle.wjs_tree.specs.Shows.{Has, StmtShows, ElementsShow}
use Rattle.wjs_parse_simple.specs.Readings.{Stops}

-- one element of a program or a function (section 14): a statement, or a function with its name, formals and body
pub data Element : Type 0 where
  Plain : Stmt → Element
  Declared : TextId → List TextId → Elements → Element

-- an element before others
abbrev pub before : Element → Elements → Elements
before (Plain s) rest = Statement s rest
before (Declared x formals body) rest = FunctionDecl x formals body rest

abbrev pub element_height : Element → ℕ
element_height (Plain s) = stmt_height s
element_height (Declared x formals body) = suc (elements_height body)

abbrev pub ElementFormed : Element → Type 0
ElementFormed (Plain s) = StmtFormed s
ElementFormed (Declared x formals body) = ElementsFormed body × ElementsJumpRight (outermost true) body

abbrev pub ElementStands : List Tok → Element → ℕ → ℕ → Type 0
ElementStands toks (Plain s) i n = StmtStands toks s i n
ElementStands toks (Declared x formals body) i n = Stands toks (Function (Some x) formals body) i n

abbrev pub ElementShows : List Node → Element → NodeId → List ℕ → Type 0
ElementShows ns (Plain s) i used = StmtShows ns s i used
ElementShows ns (Declared x formals body) i used = (list : List NodeId) × (us : List ℕ) × Has ns i (nodes.FunctionDecl x formals list) × (used ≡ i.0 ∷ us) × ElementsShow ns body list us

-- a well-formed element of at most the height `room`, that the tokens from i up to n spell; where jumps of a statement go
-- isn't asked
pub record ElementReading (toks : List Tok) (room i : ℕ) (e : Element) (n : ℕ) : Type 0 where
  pub formed : ElementFormed e
  pub height : element_height e ≤ room
  pub stands : ElementStands toks e i n

-- the token behind an element makes no longer element of it
abbrev pub ElementStops : List Tok → ℕ → Element → Type 0
ElementStops toks m (Plain s) = Stops toks m s
ElementStops toks m (Declared x formals body) = Unit {0}

-- what stands before the body of a function, with the brace that opens it (section 13)
pub record HeaderForm (toks : List Tok) (i : ℕ) (name : Option TextId) (formals : List TextId) (n : ℕ) : Type 0 where
  pub opening : ℕ
  pub close : ℕ
  pub key : HasKey toks i keys.Function
  pub name_stands : NameStands toks name (i + 1) opening
  pub opens : HasSign toks opening signs.OpenParen
  pub formals_stand : FormalsStand toks formals (opening + 1) close
  pub closes : HasSign toks close signs.CloseParen
  pub brace : HasSign toks (close + 1) signs.OpenBrace
  pub ends : n ≡ close + 2

-- the body of a function of at most the height 200, with the brace that closes it
pub record BodyForm (toks : List Tok) (i : ℕ) (body : Elements) (n : ℕ) : Type 0 where
  pub close : ℕ
  pub formed : ElementsFormed body
  pub jumps : ElementsJumpRight (outermost true) body
  pub height : elements_height body ≤ 199
  pub stands : ElementsStand toks body i close
  pub closes : HasSign toks close signs.CloseBrace
  pub ends : n ≡ close + 1

-- the elements of a well-formed program that all the tokens spell
pub record ProgramReading (toks : List Tok) (body : Elements) : Type 0 where
  pub formed : ProgramFormed body
  pub stands : ElementsStand toks body 0 (length toks)
