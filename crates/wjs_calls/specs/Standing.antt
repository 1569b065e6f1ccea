-- The node of a function that stands where it is made.
use Rattle.std.specs.Prelude.{◌≡◌, ℕ, List, true, Option}
use Rattle.wjs_base.specs.declared.ids.ObjId.{ObjId}
use Rattle.wjs_base.specs.declared.ids.TextId.{TextId}
use Rattle.wjs_base.specs.declared.ids.NodeId.{NodeId}
use Rattle.wjs_tree.specs.declared.node.Node.{Node}
use Rattle.wjs_tree.specs.Shows.{Has}
use Rattle.wjs_arena.specs.Entries.{Objects}
use Rattle.wjs_scope.specs.Scopes.{own_name}
use Rattle.wjs_model.specs.declared.loaded.LoadedProgram.{LoadedProgram as Program}
use Rattle.wjs_model.specs.Standing.{Stands, is_function}

-- the node is a function's that has this name of its own, or none; the scope of this name is still to be made
pub record StandsNamed (units : List Program) (arena : Objects) (tree : ℕ) (node : NodeId) (scope : ObjId) (name : Option TextId) : Type 0 where
  pub function : Node
  pub is : is_function function ≡ true
  pub named : own_name function ≡ name
  pub stands : Stands units arena tree node scope 0
  pub has : Has stands.unit.program.nodes node function
