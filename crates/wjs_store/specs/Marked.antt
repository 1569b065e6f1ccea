-- A world's marks, by the world's number.
use Rattle.std.specs.Prelude.{Bool, false, Option}
use Rattle.std.specs.Option.{option_map_or, option_and_then}
use Rattle.std.specs.FinMap as map
use Rattle.wjs_base.specs.declared.ids.ObjId.{ObjId}
use Rattle.wjs_base.specs.declared.ids.WorldId.{WorldId}
use Rattle.wjs_store.specs.Naming.{Naming}
use Rattle.wjs_store.specs.State.{World, State, find_world}

module _ {K V : Type 0} {n : Naming K V} (F : State n) (i : WorldId) where
  -- the content that was read first, where a read is recorded
  abbrev pub recorded_at : K → Option (Option V)
  recorded_at s = option_and_then (λ (x : World n). map.get x.first s) (find_world F i)

  abbrev pub is_written : K → Bool
  is_written s = option_map_or (λ (x : World n). map.contains_key x.written s) (find_world F i) false

  abbrev pub is_listed : ObjId → Bool
  is_listed o = option_map_or (λ (x : World n). map.contains_key x.closed o) (find_world F i) false

  abbrev pub is_strict : Bool
  is_strict = option_map_or (λ (x : World n). x.strict) (find_world F i) false
