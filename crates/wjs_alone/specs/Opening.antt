-- The trees of a play, and what there is before its first part.
use Rattle.std.specs.Prelude.{ℕ, ◌-◌, List, [], ◌∷◌, ◌++◌, Option, None, Some}
use Rattle.wjs_by_content.specs.Values.{Text}
use Rattle.wjs_meaning.specs.Trees.{Tree}
use Rattle.wjs_meaning.specs.Deeds.{St}
use Rattle.wjs_meaning.specs.Programs.{Ending, Done, declared_names, run_from}
use Rattle.wjs_meaning.specs.Start.{start}

-- the library's, where there is one, and then the parts'
abbrev pub trees_of : Option Tree → List Tree → List Tree
trees_of None parts = parts
trees_of (Some library) parts = library ∷ parts

-- the number of an activity's tree; activities count from 1 on
abbrev pub tree_number : Option Tree → ℕ → ℕ
tree_number None activity = activity - 1
tree_number (Some library) activity = activity

-- the names that can't be deleted: those that any part declares
abbrev pub part_names : List Tree → List Text
part_names [] = []
part_names (part ∷ parts) = declared_names (part ∷ []) 0 ++ part_names parts

-- the library's body, in the first world by owner 0; a play without a library has nothing to do there
abbrev pub opening : Option Tree → List Tree → ℕ → Ending × St
opening None parts budget = (Done, start (part_names parts))
opening (Some library) parts budget = run_from 1 0 (library ∷ parts) (start (part_names parts)) budget
