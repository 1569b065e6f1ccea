-- What is read is made of nodes of its own: no node stands at two places of it, and each is new or one of a function that
-- was read before within its tokens.
use Rattle.std.specs.Prelude.{ℕ, ◌+◌, List, Option, Some}
use Rattle.std.specs.declared.result.Result.{Result}
use Rattle.std.specs.declared.result.Result.TheVariants.{Ok}
use Rattle.wjs_base.specs.declared.ids.OutOfMemory.{OutOfMemory}
use Rattle.wjs_base.specs.declared.ids.NodeId.{NodeId}
use Rattle.wjs_tree.specs.declared.node.Node.{Node}
use Rattle.wjs_tree.specs.Trees.{Elements}
use Rattle.wjs_tree.specs.Shows.{ElementsShow}
use Rattle.wjs_parse_expr.specs.declared.functions.Functions.{Functions}
use Rattle.wjs_parse_expr.specs.declared.found.Found.{Found}
use Rattle.wjs_parse_stmt.specs.declared.parts.Listed.{Listed}
use Rattle.wjs_parse_simple.specs.Made.{Span, ExprMade}
use Rattle.wjs_parse.specs.Readings.{Element, ElementShows}

pub record ElementMade (functions : Functions) (old new : List Node) (i : ℕ) (node : NodeId) (n : ℕ) : Type 0 where
  pub tree : Element
  pub used : List ℕ
  pub shows : ElementShows new tree node used
  pub span : Span functions old new i n used

pub record ElementsMade (functions : Functions) (old new : List Node) (i : ℕ) (list : List NodeId) (n : ℕ) : Type 0 where
  pub trees : Elements
  pub used : List ℕ
  pub shows : ElementsShow new trees list used
  pub span : Span functions old new i n used

abbrev pub ElementOwn : Functions → List Node → List Node → ℕ → Result (Option Found) OutOfMemory → Type 0
ElementOwn functions old new i (Ok (Some p)) = ElementMade functions old new i p.node p.next
ElementOwn functions old new i _ = Unit {0}

abbrev pub ElementsOwn : Functions → List Node → List Node → ℕ → Result (Option Listed) OutOfMemory → Type 0
ElementsOwn functions old new i (Ok (Some p)) = ElementsMade functions old new i p.list p.next
ElementsOwn functions old new i _ = Unit {0}

-- the functions within a function begin behind its first token
abbrev pub FunctionOwn : Functions → List Node → List Node → ℕ → Result (Option Found) OutOfMemory → Type 0
FunctionOwn functions old new i (Ok (Some p)) = ExprMade functions old new (i + 1) p.node p.next
FunctionOwn functions old new i _ = Unit {0}
