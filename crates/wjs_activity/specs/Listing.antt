-- Tries that rest are kept apart from each other.
use Rattle.std.specs.Prelude.{◌≡◌, ℕ, ◌<◌, length, Option, None, Some, slice_get}
use Rattle.wjs_tries.specs.declared.common.Rested.{Rested}
use Rattle.wjs_activity.specs.declared.activities.Activity.{Activity}
use Rattle.wjs_activity.specs.declared.activities.Play.{Play}
use Rattle.wjs_tries.specs.Hiding.{no_owner, IsHidden, Unaware}

-- the entry of an activity
abbrev pub entry_of : Option Rested → ℕ
entry_of None = no_owner
entry_of (Some rest) = rest.owner

-- each activity's entry is the owner of its try that rests. Nothing names an object of that owner but its own objects, and neither does any other try
pub record KeepsApart (p : Play) : Type 0 where
  pub few : p.drawn < no_owner
  pub long : length p.common.apart.items ≡ length p.activities.items
  pub lists : (i : ℕ) (a : Activity) → slice_get p.activities.items i ≡ Some a → slice_get p.common.apart.items i ≡ Some (entry_of a.running)
  pub hidden : (i : ℕ) (a : Activity) (r : Rested) → slice_get p.activities.items i ≡ Some a → a.running ≡ Some r → IsHidden p.common r.owner
  pub unaware : (i j : ℕ) (a b : Activity) (r s : Rested) → ¬ (i ≡ j) → slice_get p.activities.items i ≡ Some a → slice_get p.activities.items j ≡ Some b
      → a.running ≡ Some r → b.running ≡ Some s → Unaware p.common r s.owner
