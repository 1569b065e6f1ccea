-- The worlds below, by a path of parents.
use Rattle.std.specs.Prelude.{◌≡◌, false, Some}
use Rattle.wjs_base.specs.declared.ids.WorldId.{WorldId}
use Rattle.wjs_store.specs.Naming.{Naming}
use Rattle.wjs_store.specs.State.{World, State, find_world, is_touched}

-- a path of parents leads from d up to w, on which every world, d included and w left out, is untouched at s
pub data Leads {K V : Type 0} {n : Naming K V} (F : State n) (w : WorldId) (s : K) : WorldId → Type 0 where
  last : {d : WorldId} (x : World n) → find_world F d ≡ Some x → is_touched x s ≡ false → x.parent ≡ Some w → Leads F w s d
  step : {d : WorldId} (x : World n) (p : WorldId) → find_world F d ≡ Some x → is_touched x s ≡ false → x.parent ≡ Some p → Leads F w s p → Leads F w s d
