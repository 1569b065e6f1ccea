-- What holds in every reached state.
use Rattle.std.specs.Prelude.{◌≡◌, true, false, [], ◌∷◌, length, Option, None, Some, ⊤}
use Rattle.std.specs.FinMap as map
use Rattle.wjs_base.specs.declared.ids.WorldId.{WorldId}
use Rattle.wjs_store.specs.Naming.{Naming}
use Rattle.wjs_store.specs.State.{World, State, has_row, is_touched, has_world, content_at, count_of}

-- a world over the older ones
pub record Fits {K V : Type 0} {n : Naming K V} (x : World n) (older : State n) : Type 0 where
  -- its number is its owner's next
  pub serial : x.id.serial ≡ count_of x.id.owner older
  -- its parent is older
  pub parent_older : (p : WorldId) → x.parent ≡ Some p → has_world older p ≡ true
  -- only the first world has no parent
  pub alone : x.parent ≡ None → length older ≡ 0
  -- an untouched slot has the parent's content
  pub inherits : (p : WorldId) (s : K) → x.parent ≡ Some p → is_touched x s ≡ false → map.get x.copy s ≡ content_at older p s
  -- a slot that is read and not written has the content that was read
  pub kept : (s : K) (c : Option V) → map.get x.first s ≡ Some c → map.contains_key x.written s ≡ false → map.get x.copy s ≡ c
  -- a slot of a listed object that is neither read nor written is absent
  pub absent : (s : K) → map.contains_key x.closed (n.object s) ≡ true → has_row x s ≡ false → map.get x.copy s ≡ None
  -- a world without parent has no marks
  pub no_first : x.parent ≡ None → map.len x.first ≡ 0
  pub no_written : x.parent ≡ None → map.len x.written ≡ 0
  pub no_closed : x.parent ≡ None → map.len x.closed ≡ 0

abbrev pub IsReached : {K V : Type 0} {n : Naming K V} → State n → Type 0
IsReached [] = ⊤
IsReached (x ∷ older) = Fits x older × IsReached older
