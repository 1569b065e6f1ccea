-- Deeds that come to the same in fewer turns.
use Rattle.std.specs.Prelude.{◌≡◌, ℕ, ◌≤◌, Result, OnOk}
use Rattle.wjs_base.specs.declared.ids.OutOfMemory.{OutOfMemory}
use Rattle.wjs_store.specs.Meaning.{Meaning}
use Rattle.wjs_by_content.specs.Objects.{Arena}
use Rattle.wjs_meaning.specs.Deeds.{St, Completion, Act, Ret, Sub, Do, Look, interp}
use Rattle.wjs_meaning.specs.Programs.{eval}
use Rattle.wjs_model.specs.declared.config.Config.{Config}
use Rattle.wjs_model.specs.Rest.{Count, turns_act}
use Rattle.wjs_model.specs.Outside.{Sees}
use Rattle.wjs_frames.specs.Following.{Follows}

-- the same outcome from each state, and no more turns
pub record Shortens (long short : Act) : Type 0 where
  pub same : (st : St) (n : ℕ) → interp eval long st n ≡ interp eval short st n
  pub fewer : (st : St) (k : Count) → turns_act short st k ≤ turns_act long st k

-- ---- laws

-- nested deeds that come to their end are what comes after them
abbrev pub NestedEndsShorten : Type 0
NestedEndsShorten = (act : Act) (c : Completion) (go : Completion → Act) → Shortens act (Ret c) → Shortens (Sub act go) (go c)

module _ {S : Type 0} (meaning : S → Meaning) where
  abbrev pub ShorterFollow : Type 0
  ShorterFollow = (long short : Act) (old new : Config S) (r : Result (Unit {0}) OutOfMemory) → Shortens long short → OnOk r (Follows meaning short old new) → OnOk r (Follows meaning long old new)

  -- a look after which the same deeds come whatever further objects it finds beside those that are there
  abbrev pub LooksFollow : Type 0
  LooksFollow = (go : Arena → Act) (act : Act) (old new : Config S) (r : Result (Unit {0}) OutOfMemory) → ((arena : Arena) → Sees meaning old new.heap.texts arena → go arena ≡ act) → OnOk r (Follows meaning act old new) → OnOk r (Follows meaning (Do Look go) old new)
