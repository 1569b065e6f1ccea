-- Who names whom: that nothing but an owner's own objects names one of them.
use Rattle.std.specs.Prelude.{◌≡◌, ℕ, Some, All}
use Rattle.std.specs.FinMap as map
use Rattle.wjs_base.specs.declared.ids.ObjId.{ObjId}
use Rattle.wjs_base.specs.declared.ids.WorldId.{WorldId}
use Rattle.wjs_base.specs.declared.values.Slot.{Slot}
use Rattle.wjs_base.specs.declared.values.Value.{Value}
use Rattle.wjs_store.specs.State.{content_at}
use Rattle.wjs_store.specs.Meaning.{View, worlds}
use Rattle.wjs_arena.specs.Entries.{Objects, Entry}
use Rattle.wjs_model.specs.Others.{Other, OtherValue, OtherFrame, OtherNamed}
use Rattle.wjs_session.specs.Session.{first_copy}
use Rattle.wjs_session.specs.Stores.{worlds_in}
use Rattle.wjs_session.specs.Resumed.{resumed}
use Rattle.wjs_tries.specs.declared.common.Common.{Common}
use Rattle.wjs_tries.specs.declared.common.Rested.{Rested}

-- the entry of an activity of which no try rests
abbrev pub no_owner : ℕ
no_owner = 4294967295

-- neither what a view holds nor an object of another owner names an object of this one
pub record Hidden (arena : Objects) (held : View) (u : ℕ) : Type 0 where
  pub slots : (s : Slot) (v : Value) → map.get held s ≡ Some v → Other u s.object × OtherValue u v
  pub objects : (o : ObjId) (e : Entry) → map.get arena o ≡ Some e → Other u o → OtherNamed u e.object

-- so it is with the first world, and the objects that are there
abbrev pub IsHidden : Common → ℕ → Type 0
IsHidden common u = Hidden common.arena (first_copy (worlds_in common.shared)) u

-- neither the worlds of a try that rests nor its frames name an object of an owner
pub record Unaware (common : Common) (rest : Rested) (u : ℕ) : Type 0 where
  pub slots : (i : WorldId) (s : Slot) (v : Value) → content_at (worlds (resumed (worlds_in common.shared) rest.resting)) i s ≡ Some v → Other u s.object
      × OtherValue u v
  pub frames : All (OtherFrame u) rest.frames

-- an owner that may be listed as kept apart from another's try
pub record MayList (owner : ℕ) (common : Common) (u : ℕ) : Type 0 where
  pub some : ¬ (u ≡ 0)
  pub other : ¬ (u ≡ owner)
  pub hidden : IsHidden common u
