-- Nodes that are marked with the number of the scope that they stand in.
use Rattle.std.specs.Prelude.{ℕ, List, [], ◌∷◌, set, Option, Some}
use Rattle.wjs_base.specs.declared.ids.NodeId.{NodeId}
pub use Rattle.wjs_tree.specs.Parts.{handler_blocks}
use Rattle.wjs_scope.specs.Nesting.{Side, Around}

-- nodes that stand in one scope
abbrev pub marked : List (Option ℕ) → ℕ → List NodeId → List (Option ℕ)
marked table at [] = table
marked table at (i ∷ more) = marked (set table i.0 (Some at)) at more

-- the number of the scope of a part: that around the node, or the inner one
abbrev pub number_on : Side → ℕ → ℕ → ℕ
number_on Around at inner = at
number_on _ at inner = inner

-- parts that stand in the scope around a node or in the inner one
abbrev pub marked_parts : List (Option ℕ) → ℕ → ℕ → List (NodeId × Side) → List (Option ℕ)
marked_parts table at inner [] = table
marked_parts table at inner (p ∷ more) = marked_parts (set table p.0.0 (Some (number_on p.1 at inner))) at inner more
