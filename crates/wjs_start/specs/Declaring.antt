-- The names that a program declares.
use Rattle.std.specs.Prelude.{List, ◌++◌, filter_map}
use Rattle.wjs_by_content.specs.Values.{Text}
use Rattle.wjs_meaning.specs.Trees.{Tree, name_of, node_at}
use Rattle.wjs_meaning.specs.Declarations.{declared_by}

-- those of its functions, and then those of its variables
abbrev pub declared_by_tree : Tree → List Text
declared_by_tree tree = let d = declared_by tree tree.body in filter_map (λ k. name_of (node_at tree k)) d.functions ++ d.vars
