-- What is read is made of nodes of its own: no node stands at two places of it, and each is new or one of a function that
-- was read before within its tokens.
use Rattle.std.specs.Prelude.{ℕ, ◌≤◌, List, Option, Some}
use Rattle.std.specs.declared.result.Result.{Result}
use Rattle.std.specs.declared.result.Result.TheVariants.{Ok}
use Rattle.wjs_base.specs.declared.ids.OutOfMemory.{OutOfMemory}
use Rattle.wjs_base.specs.declared.ids.NodeId.{NodeId}
use Rattle.wjs_tree.specs.declared.node.Node.{Node}
use Rattle.wjs_tree.specs.declared.node.Declarator.{Declarator}
use Rattle.wjs_tree.specs.Trees.{Expr, Optional, Variables, Stmt}
use Rattle.wjs_tree.specs.Shows.{Shows, OptionalShows, VariablesShow, StmtShows, Keeps}
use Rattle.wjs_parse_expr.specs.declared.functions.Functions.{Functions}
use Rattle.wjs_parse_expr.specs.Table.{Owns}
use Rattle.wjs_parse_simple.specs.declared.parts.Piece.{Piece}
use Rattle.wjs_parse_simple.specs.declared.parts.Spot.{Spot}
use Rattle.wjs_parse_simple.specs.declared.parts.Valued.{Valued}
use Rattle.wjs_parse_simple.specs.declared.parts.Maybe.{Maybe}
use Rattle.wjs_parse_simple.specs.declared.parts.Declared.{Declared}
use Rattle.wjs_parse_simple.specs.declared.parts.ListedVariables.{ListedVariables}

-- the nodes of what the tokens from i up to n spell, where the nodes that were there stay
pub record Span (functions : Functions) (old new : List Node) (i n : ℕ) (used : List ℕ) : Type 0 where
  pub own : Owns functions old new i n used
  pub keeps : Keeps old new
  pub forward : i ≤ n

pub record ExprMade (functions : Functions) (old new : List Node) (i : ℕ) (node : NodeId) (n : ℕ) : Type 0 where
  pub tree : Expr
  pub used : List ℕ
  pub shows : Shows new tree node used
  pub span : Span functions old new i n used

pub record OptionalMade (functions : Functions) (old new : List Node) (i : ℕ) (node : Option NodeId) (n : ℕ) : Type 0 where
  pub tree : Optional
  pub used : List ℕ
  pub shows : OptionalShows new tree node used
  pub span : Span functions old new i n used

pub record VariablesMade (functions : Functions) (old new : List Node) (i : ℕ) (list : List Declarator) (n : ℕ) : Type 0 where
  pub trees : Variables
  pub used : List ℕ
  pub shows : VariablesShow new trees list used
  pub span : Span functions old new i n used

pub record StmtMade (functions : Functions) (old new : List Node) (i : ℕ) (node : NodeId) (n : ℕ) : Type 0 where
  pub tree : Stmt
  pub used : List ℕ
  pub shows : StmtShows new tree node used
  pub span : Span functions old new i n used

-- ---- what readers answer

abbrev pub ExprOwn : Functions → List Node → List Node → ℕ → Result (Option Spot) OutOfMemory → Type 0
ExprOwn functions old new i (Ok (Some p)) = ExprMade functions old new i p.node p.next
ExprOwn functions old new i _ = Unit {0}

abbrev pub ValueOwn : Functions → List Node → List Node → ℕ → Result (Option Valued) OutOfMemory → Type 0
ValueOwn functions old new i (Ok (Some p)) = ExprMade functions old new i p.node p.next
ValueOwn functions old new i _ = Unit {0}

abbrev pub MaybeOwn : Functions → List Node → List Node → ℕ → Result (Option Maybe) OutOfMemory → Type 0
MaybeOwn functions old new i (Ok (Some p)) = OptionalMade functions old new i p.node p.next
MaybeOwn functions old new i _ = Unit {0}

abbrev pub VariableOwn : Functions → List Node → List Node → ℕ → Result (Option Declared) OutOfMemory → Type 0
VariableOwn functions old new i (Ok (Some p)) = OptionalMade functions old new i p.declarator.value p.next
VariableOwn functions old new i _ = Unit {0}

abbrev pub VariablesOwn : Functions → List Node → List Node → ℕ → Result (Option ListedVariables) OutOfMemory → Type 0
VariablesOwn functions old new i (Ok (Some p)) = VariablesMade functions old new i p.list p.next
VariablesOwn functions old new i _ = Unit {0}

abbrev pub StmtOwn : Functions → List Node → List Node → ℕ → Result (Option Piece) OutOfMemory → Type 0
StmtOwn functions old new i (Ok (Some p)) = StmtMade functions old new i p.node p.next
StmtOwn functions old new i _ = Unit {0}

-- a statement without parts
abbrev pub LeafOwn : List Node → List Node → ℕ → Result (Option Piece) OutOfMemory → Type 0
LeafOwn old new i r = (functions : Functions) → StmtOwn functions old new i r
