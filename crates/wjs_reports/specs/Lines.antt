-- The worlds of a run as lines of text.
use Rattle.std.specs.Prelude.{ℕ, cond, ◌==◌, List, [], ◌∷◌, ◌++◌, Option, None, Some, codes}
use Rattle.std.specs.Fmt.{decimal}
use Rattle.std.specs.FinMap as map
use Rattle.std.specs.Option.{option_map_or}
use Rattle.wjs_base.specs.declared.ids.WorldId.{WorldId}
use Rattle.wjs_store.specs.Naming.{Naming}
use Rattle.wjs_store.specs.State.{World, State, find_world}

-- only the first world has no parent
abbrev pub parent_part : Option WorldId → List ℕ
parent_part None = []
parent_part (Some p) = codes " parent " ++ decimal p.serial

-- how many slots it has read, how many it has written, and how many objects it has listed
abbrev pub marks_part : ℕ → ℕ → ℕ → List ℕ
marks_part reads writes closed = codes " reads " ++ decimal reads ++ codes " writes " ++ decimal writes ++ codes " closed " ++ decimal closed ++ 10 ∷ []

module _ {K V : Type 0} {n : Naming K V} where
  -- a world by its number, its parent's number, and the sizes of its marks
  abbrev pub line_of : World n → List ℕ
  line_of x = codes "world " ++ decimal x.id.serial ++ parent_part x.parent ++ marks_part (map.len x.first) (map.len x.written) (map.len x.closed)

  -- the worlds of owner 0, which makes all worlds of a run, in the order in which they were sprouted; their serials are 0, 1, 2 and so on
  abbrev pub lines_of : State n → List ℕ
  lines_of [] = []
  lines_of (x ∷ older) = lines_of older ++ cond (x.id.owner == 0) (line_of x) []

  -- the line of the world of a number
  abbrev pub line_at : State n → WorldId → List ℕ
  line_at F w = option_map_or line_of (find_world F w) []
