-- A native function runs once all is converted.
use Rattle.std.proofs.Common.{◌≡◌, Bool, List, subst}
use Rattle.std.specs.Prelude.{map, Result, OnOk}
use Rattle.wjs_base.specs.declared.ids.OutOfMemory.{OutOfMemory}
use Rattle.wjs_base.specs.declared.values.Value.{Value}
use Rattle.wjs_base.specs.Text.{Table}
use Rattle.wjs_store.specs.Meaning.{Meaning}
use Rattle.wjs_arena.specs.declared.native.Native.{Native}
use Rattle.wjs_by_content.specs.Tables.{value_in}
use Rattle.wjs_meaning.specs.Deeds.{Act}
use Rattle.wjs_meaning.specs.Natives.{native_run}
use Rattle.wjs_model.specs.declared.config.Config.{Config}
use Rattle.wjs_model.specs.declared.frame.Activation.{Activation as Frame}
use Rattle.wjs_frames.specs.Following.{Follows}
use Rattle.wjs_frames.specs.Handling.{Runs}
use Rattle.wjs_frames.specs.Parts.{env_in}
use Rattle.wjs_frames.proofs.Handling.{runs_later}
use Rattle.wjs_natives.specs.Converting.{IsReady}

module _ {S : Type 0} (meaning : S → Meaning) (native : Native) (by_new : Bool) (frame same : Frame) (deeds : Table → Act) (values : List Value) (old mid : Config S) where
  -- what follows the run follows the deeds before the conversions
  pub runs_on : (ws : List Value) (new : Config S) (r : Result (Unit {0}) OutOfMemory) → (same ≡ frame) × IsReady meaning native by_new frame deeds values old mid → ws ≡ values
      → OnOk r (Follows meaning (native_run native by_new (map (value_in new.heap.texts) ws) (env_in meaning mid new.heap.texts same)) mid new) → OnOk r (Follows meaning (deeds new.heap.texts) old new)
  runs_on ws new r ready ew h =
      let t = new.heap.texts in
      ready.1.comes.by new r
      (subst (λ (l : List Value). OnOk r (Follows meaning (native_run native by_new (map (value_in t) l) (env_in meaning mid t frame)) mid new)) ew
      (subst (λ (f : Frame). OnOk r (Follows meaning (native_run native by_new (map (value_in t) ws) (env_in meaning mid t f)) mid new)) ready.0 h))

  -- and its frame is there
  pub runs_ready : Runs meaning old frame → (same ≡ frame) × IsReady meaning native by_new frame deeds values old mid → Runs meaning mid same
  runs_ready runs ready = rw ready.0 (runs_later meaning old mid frame runs ready.1.later)
