-- A table of what the bodies of a program declare has what they declare in the meaning (ECMA-262, 3rd edition, section 10.1.3).
use Rattle.std.specs.Prelude.{◌≡◌, ℕ, List, ◌∷◌, ◌++◌, not, filter, filter_map, map as each, All}
use Rattle.std.specs.Coded.{Coded-set, coded_list}
use Rattle.std.proofs.Props.{props}
use Rattle.wjs_base.specs.contracts.ids.TextId as name
use Rattle.wjs_base.specs.declared.ids.TextId.{TextId}
use Rattle.wjs_base.specs.Text.{Table, IsTable, Has}
use Rattle.wjs_base.specs.contracts.ids.NodeId as node
use Rattle.wjs_base.specs.declared.ids.NodeId.{NodeId}
use Rattle.wjs_tree.specs.declared.node.Node.{Node}
use Rattle.wjs_by_content.specs.Names.{arguments_name}
use Rattle.wjs_by_content.specs.Values.{Text}
use Rattle.wjs_by_content.specs.Tables.{text_in}
use Rattle.wjs_scope.specs.declared.declarations.Declarations.{Declarations}
use Rattle.wjs_scope.specs.Declarations.{formals_of, functions_among}
use Rattle.wjs_scope.specs.Bodies.{node_at, elements_at, declared_in}
use Rattle.wjs_scope.specs.Places.{KnowsPlaced}
use Rattle.wjs_meaning.specs.Trees.{Tree, name_of, has_text, node_at as node_of_tree}
use Rattle.wjs_meaning.specs.Declarations.{Declared, declared_by}
use Rattle.wjs_meaning.specs.Reading.{node_in}

-- This is what the body at a node of a program declares in the meaning; nothing where the node is no body's. The names of its
-- `var`s are told from each other by the texts of a table, which has all of them.
pub record IsMeant (ns : List Node) (k : ℕ) (d : Declarations) : Type 0 where
  pub formals : d.formals ≡ formals_of (node_at ns k)
  pub functions : d.functions ≡ functions_among ns (elements_at ns k)
  pub variables : (t : Table) (tree : Tree) → IsTable t → KnowsPlaced t ns → tree.nodes ≡ each (node_in t) ns → each (text_in t) d.variables ≡ (declared_by tree k).vars
  pub found : (t : Table) → KnowsPlaced t ns → All (Has t) d.variables

abbrev pub AreMeant : List Node → List Declarations × Declarations → Type 0
AreMeant ns table = (k : ℕ) → IsMeant ns k (declared_in table k)

-- the variables that a body of a tree declares which are neither `arguments`, nor a formal's, nor a function's
abbrev pub others_by : Tree → Declared → List Text
others_by tree d = filter (λ name. not (has_text (arguments_name ∷ d.formals ++ filter_map (λ k. name_of (node_of_tree tree k)) d.functions) name)) d.vars

-- ---- it is one fact

names_set : IsSet (List TextId)
names_set = Coded-set (coded_list (name.the_row).coded)

nodes_set : IsSet (List NodeId)
nodes_set = Coded-set (coded_list (node.the_row).coded)

IsMeant-prop : (ns : List Node) (k : ℕ) (d : Declarations) → IsProp (IsMeant ns k d)
IsMeant-prop ns k d = hlevel (props, names_set, nodes_set)

pub AreMeant-prop : (ns : List Node) (table : List Declarations × Declarations) → IsProp (AreMeant ns table)
AreMeant-prop ns table = hlevel (props, IsMeant-prop)
