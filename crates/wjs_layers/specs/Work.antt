-- How much a commit goes through: the rows of its world, its listed objects, and what is kept of these objects above it.
use Rattle.std.specs.Prelude.{ℕ, ◌+◌, Bool, not, cond, List, [], ◌∷◌, ◌++◌, length, filter, is_some}
use Rattle.std.specs.Option.{option_map_or}
use Rattle.std.specs.FinMap as map
use Rattle.wjs_base.specs.declared.ids.WorldId.{WorldId}
use Rattle.wjs_base.specs.declared.values.Slot.{Slot}
use Rattle.wjs_store.specs.Naming.{plain}
use Rattle.wjs_store.specs.State.{World, State, find_world, same_world}

-- the slots with a row in a world: those that were read there, and those that were written and not read
abbrev pub row_slots : World plain → List Slot
row_slots x = map.keys x.first ++ filter (λ (s : Slot). not (map.contains_key x.first s)) (map.keys x.written)

-- what is kept of a world: its slots with a row; of the first world, its present slots
abbrev pub kept_slots : World plain → List Slot
kept_slots x = cond (is_some x.parent) (row_slots x) (map.keys x.copy)

-- how many slots that pass are kept, over a world and all worlds above it
unfoldable pub kept_from : (Slot → Bool) → State plain → WorldId → ℕ
kept_from p [] w = 0
kept_from p (x ∷ older) w = cond (same_world x.id w)
    (length (filter p (kept_slots x)) + option_map_or (λ v. kept_from p older v) x.parent 0)
    (kept_from p older w)

-- how many slots have a row in a world
abbrev pub rows_of : State plain → WorldId → ℕ
rows_of F w = option_map_or (λ (x : World plain). length (row_slots x)) (find_world F w) 0

-- how many objects are listed in a world
abbrev pub closed_of : State plain → WorldId → ℕ
closed_of F w = option_map_or (λ (x : World plain). map.len x.closed) (find_world F w) 0

-- how many slots of objects that are listed in a world are kept, over all worlds above it
abbrev pub rows_above : State plain → WorldId → ℕ
rows_above F w = option_map_or (λ (x : World plain). option_map_or (kept_from (λ (s : Slot). map.contains_key x.closed s.object) F) x.parent 0) (find_world F w) 0
