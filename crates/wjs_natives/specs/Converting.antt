-- How far a native function's conversions are.
use Rattle.std.specs.Prelude.{◌≡◌, ℕ, Bool, nat_lt, if◌then◌else◌, List, [], ◌∷◌, ◌++◌, length, slice_set as set, take, drop, map as each, All, Result, OnOk}
use Rattle.wjs_base.specs.declared.ids.OutOfMemory.{OutOfMemory}
use Rattle.wjs_base.specs.declared.values.Value.{Value as NumberedValue}
use Rattle.wjs_base.specs.Text.{Table}
use Rattle.wjs_store.specs.Meaning.{Meaning}
use Rattle.wjs_arena.specs.declared.native.Native.{Native}
use Rattle.wjs_by_content.specs.Values.{Value}
use Rattle.wjs_by_content.specs.Tables.{value_in}
use Rattle.wjs_meaning.specs.Deeds.{Env, Act}
use Rattle.wjs_meaning.specs.Kinds.{with_kinds}
use Rattle.wjs_meaning.specs.Natives.{convert_from, native_run}
use Rattle.wjs_model.specs.declared.config.Config.{Config}
use Rattle.wjs_model.specs.declared.frame.Activation.{Activation as Frame}
use Rattle.wjs_model.specs.Soundness.{HasValue}
use Rattle.wjs_frames.specs.Following.{Follows, Later}
use Rattle.wjs_frames.specs.Parts.{env_in}
use Rattle.wjs_natives.specs.declared.conversions.Progress.{Progress}
use Rattle.wjs_natives.specs.declared.conversions.Progress.TheVariants as progress
use Rattle.wjs_natives.specs.Kinds.{conversions}

-- a value at a place; past the end it is put last
abbrev pub placed : {A : Type 0} → List A → ℕ → A → List A
placed xs at x = if nat_lt at (length xs) then set xs at x else xs ++ x ∷ []

-- with the values before a place converted, `this` first, and those from it on still to be
abbrev pub converting : Native → Bool → ℕ → List Value → ℕ → Env → Act
converting native by_new given values at env = convert_from native by_new (drop at (with_kinds (conversions native given) values)) (take at values) env

module _ {S : Type 0} (meaning : S → Meaning) where
  -- what is followed of the deeds that come after is followed of the deeds before
  pub record ComesTo (before after : Table → Act) (old mid : Config S) : Type 0 where
    pub by : (later : Config S) (r : Result (Unit {0}) OutOfMemory) → OnOk r (Follows meaning (after later.heap.texts) mid later) → OnOk r (Follows meaning (before later.heap.texts) old later)

  -- all is converted, and the native function runs
  pub record IsReady (native : Native) (by_new : Bool) (frame : Frame) (deeds : Table → Act) (values : List NumberedValue) (old mid : Config S) : Type 0 where
    pub comes : ComesTo deeds (λ t. native_run native by_new (each (value_in t) values) (env_in meaning mid t frame)) old mid
    pub later : Later meaning old mid
    pub found : All (HasValue mid) values

  -- the turn is over, or the native function runs
  abbrev pub Progresses : Native → Bool → Frame → (Table → Act) → Progress → Config S → Config S → Type 0
  Progresses native by_new frame deeds progress.Over old new = Follows meaning (deeds new.heap.texts) old new
  Progresses native by_new frame deeds (progress.Runs same values) old new = (same ≡ frame) × IsReady native by_new frame deeds values.items old new
