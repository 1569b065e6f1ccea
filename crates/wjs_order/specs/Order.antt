-- The one numbering of a program's nodes.
use Rattle.std.specs.Prelude.{◌≡◌, ℕ, zero, suc, List, [], ◌∷◌, length}
use Rattle.wjs_base.specs.declared.ids.NodeId.{NodeId}
use Rattle.wjs_tree.specs.declared.node.Node.{Node}
use Rattle.wjs_tree.specs.Trees.{Elements}
use Rattle.wjs_tree.specs.Shows.{IsBody}

-- n - 1, .., 1, 0
abbrev pub falling : ℕ → List ℕ
falling zero = []
falling (suc n) = n ∷ falling n

-- The nodes are those of which the program's tree is made, each once, and no others: the body is the last of them, and from
-- there down each stands before its parts, in the order in which they are spelled.
pub record IsNumbered (ns : List Node) (tree : Elements) (body : NodeId) : Type 0 where
  pub is : IsBody ns tree body
  pub order : body.0 ∷ is.used ≡ falling (length ns)
