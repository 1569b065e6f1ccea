-- What each reader of statements answers: the tree that it reads, and that no other is read there.
use Rattle.std.specs.Prelude.{◌≡◌, ℕ, ◌≤◌, List, length, Option, Some, None}
use Rattle.std.specs.declared.result.Result.{Result}
use Rattle.std.specs.declared.result.Result.TheVariants.{Ok, Err}
use Rattle.wjs_base.specs.declared.ids.OutOfMemory.{OutOfMemory}
use Rattle.wjs_base.specs.declared.ids.NodeId.{NodeId}
use Rattle.wjs_tree.specs.declared.tokens.Tok.{Tok}
use Rattle.wjs_tree.specs.declared.node.Node.{Node}
use Rattle.wjs_tree.specs.declared.node.Node.TheVariants as nodes
use Rattle.wjs_tree.specs.Trees.{Stmts}
use Rattle.wjs_tree.specs.Children.{AreBelow}
use Rattle.wjs_tree.specs.Shows.{Has, StmtsShow}
use Rattle.wjs_parse_simple.specs.declared.parts.Spot.{Spot}
use Rattle.wjs_parse_stmt.specs.declared.parts.Listed.{Listed}
use Rattle.wjs_parse_stmt.specs.Readings.{StmtsForm, BlockForm}

-- the statements up to a token that closes them, which are the only ones
pub record FindsStmts (toks : List Tok) (room i : ℕ) (ns : List Node) (p : Listed) : Type 0 where
  pub trees : Stmts
  pub used : List ℕ
  pub shows : StmtsShow ns trees p.list used
  pub form : StmtsForm toks room i trees p.next
  pub only : (us : Stmts) (m : ℕ) → StmtsForm toks room i us m → (us ≡ trees) × (m ≡ p.next)

abbrev pub StmtsAnswers : List Tok → ℕ → ℕ → List Node → Result (Option Listed) OutOfMemory → Type 0
StmtsAnswers toks room i ns (Ok (Some p)) = FindsStmts toks room i ns p
StmtsAnswers toks room i ns (Ok None) = (us : Stmts) (m : ℕ) → StmtsForm toks room i us m → ⊥
StmtsAnswers toks room i ns (Err e) = Unit {0}

-- the block, which is the only one
pub record FindsBlock (toks : List Tok) (room i : ℕ) (ns : List Node) (p : Spot) : Type 0 where
  pub trees : Stmts
  pub list : List NodeId
  pub used : List ℕ
  pub has : Has ns p.node (nodes.Block list)
  pub shows : StmtsShow ns trees list used
  pub form : BlockForm toks room i trees p.next
  pub only : (us : Stmts) (m : ℕ) → BlockForm toks room i us m → (us ≡ trees) × (m ≡ p.next)

abbrev pub BlockAnswers : List Tok → ℕ → ℕ → List Node → Result (Option Spot) OutOfMemory → Type 0
BlockAnswers toks room i ns (Ok (Some p)) = FindsBlock toks room i ns p
BlockAnswers toks room i ns (Ok None) = (us : Stmts) (m : ℕ) → BlockForm toks room i us m → ⊥
BlockAnswers toks room i ns (Err e) = Unit {0}

abbrev pub ListEnds : List Tok → ℕ → List Node → Result (Option Listed) OutOfMemory → Type 0
ListEnds toks i ns (Ok (Some p)) = (i ≤ p.next) × AreBelow (length ns) p.list
ListEnds toks i ns _ = Unit {0}
