-- What a handler does: it goes on with the deeds of a line.
use Rattle.std.specs.Prelude.{◌≡◌, List}
use Rattle.wjs_base.specs.declared.ids.ObjId.{ObjId}
use Rattle.wjs_base.specs.declared.ids.WorldId.{WorldId}
use Rattle.wjs_base.specs.declared.values.Name.{Name}
use Rattle.wjs_base.specs.declared.values.Value.{Value}
use Rattle.wjs_base.specs.Text.{Grows}
use Rattle.wjs_store.specs.Meaning.{Meaning}
use Rattle.wjs_arena.specs.Entries.{Keeps as KeepsObjects}
use Rattle.wjs_meaning.specs.Deeds.{Act}
use Rattle.wjs_model.specs.declared.config.Config.{Config}
use Rattle.wjs_model.specs.declared.frame.Completion.{Completion}
use Rattle.wjs_model.specs.declared.frame.Held.{Held}
use Rattle.wjs_model.specs.declared.frame.Reference.{Reference}
use Rattle.wjs_model.specs.declared.frame.Activation.{Activation as Frame}
use Rattle.wjs_model.specs.Soundness.{HasObject, HasName, HasValue, HasReference, HasCompletion, HasItems, HasWorld, IsThere, Base, Sound}
use Rattle.wjs_frames.specs.Keeping.{Keeps}

module _ {S : Type 0} (meaning : S → Meaning) where
  -- the deeds above the old frames are what the new configuration goes on with, and it is sound
  pub record Follows (act : Act) (old new : Config S) : Type 0 where
    pub keeps : Keeps meaning new.heap.texts 1 act old new
    pub sound : Sound meaning new

  -- a deed on the heap: all else stays, and what was there is there
  pub record Later (old new : Config S) : Type 0 where
    pub state : new.state ≡ old.state
    pub units : new.units ≡ old.units
    pub global : new.global ≡ old.global
    pub owner : new.owner ≡ old.owner
    pub base : Base meaning new
    pub frames : (f : Frame) → IsThere meaning old f → IsThere meaning new f
    pub values : (v : Value) → HasValue old v → HasValue new v
    pub objects : (o : ObjId) → HasObject old o → HasObject new o
    pub names : (name : Name) → HasName old name → HasName new name
    pub references : (r : Reference) → HasReference old r → HasReference new r
    pub completions : (e : Completion) → HasCompletion old e → HasCompletion new e
    pub items : (held : List Held) → HasItems old held → HasItems new held
    pub worlds : (w : WorldId) → HasWorld meaning old w → HasWorld meaning new w
    pub arena : KeepsObjects old.heap.arena new.heap.arena
    pub texts : Grows old.heap.texts new.heap.texts
