-- Parts that were entered, and walks.
use Rattle.std.proofs.Common.{◌≡◌, ℕ, ◌+◌, ◌≤◌, List, [], Result, Ok, Err, Vec, Global, sym, ◌∙◌, subst}
use Rattle.std.specs.Prelude.{All, IfOk, OnOk}
use Rattle.std.proofs.lemmas.List.Elements.{All-nil}
use Rattle.wjs_base.specs.declared.ids.OutOfMemory.{OutOfMemory}
use Rattle.wjs_base.specs.declared.ids.WorldId.{WorldId}
use Rattle.wjs_store.specs.Meaning.{Meaning}
use Rattle.wjs_model.specs.declared.config.Config.{Config}
use Rattle.wjs_model.specs.declared.config.State.TheVariants as states
use Rattle.wjs_model.specs.declared.frame.Activation.{Activation as Frame}
use Rattle.wjs_model.specs.declared.loaded.LoadedProgram.{LoadedProgram as Program}
use Rattle.wjs_model.specs.Soundness.{HasWorld, IsStacked, Base, Sound}
use Rattle.wjs_frames.proofs.Keeping.{none_taken}
use Rattle.wjs_parts.specs.Entering.{Enters}
use Rattle.wjs_parts.specs.Walking.{Walks}

module _ {S : Type 0} (meaning : S → Meaning) where
  -- without frames, in another world that is there
  pub base_in : (c : Config S) (frames : List Frame) (w : WorldId) → frames ≡ [] → HasWorld meaning c w → Base meaning c → Base meaning (record c { frames = frames; world = w })
  base_in c frames w none there b = record {
    heap = b.heap;
    works = b.works;
    global = b.global;
    world = there;
    builtins = b.builtins;
    units = b.units;
    places = b.places;
    functions = b.functions;
    worlds_own = b.worlds_own;
    worlds_by = b.worlds_by;
    own_worlds = b.own_worlds;
    own = b.own;
    near_objects = b.near_objects;
    near_slots = b.near_slots;
    frames = subst (All (IsStacked meaning (record c { frames = frames; world = w }))) (sym none) (All-nil (IsStacked meaning (record c { frames = frames; world = w })));
    marks = b.marks;
    told = b.told;
  }

  module _ (part budget : ℕ) (old new : Config S) where
    pub entered_sound : (r : Result (Unit {0}) OutOfMemory) → OnOk r (Enters meaning part budget old new) → OnOk r (Sound meaning new)
    entered_sound (Ok done) h = h.sound
    entered_sound (Err e) h = tt

    pub entered_units : (units : Vec Program Global) → old.units ≡ units → (r : Result (Unit {0}) OutOfMemory) → OnOk r (Enters meaning part budget old new) → OnOk r (new.units ≡ units)
    entered_units units e (Ok done) h = h.stays.units ∙ e
    entered_units units e (Err x) h = tt

    pub entered_running : (r : Result (Unit {0}) OutOfMemory) → OnOk r (Enters meaning part budget old new) → OnOk r (new.state ≡ states.Running)
    entered_running (Ok done) h = h.running
    entered_running (Err e) h = tt

    pub entered_left : (r : Result (Unit {0}) OutOfMemory) → OnOk r (Enters meaning part budget old new) → OnOk r (new.left ≡ budget)
    entered_left (Ok done) h = h.left
    entered_left (Err e) h = tt

  module _ (steps : ℕ) (old new : Config S) where
    pub walked_sound : (r : Result ℕ OutOfMemory) → IfOk r (λ taken. Walks meaning steps taken old new) → OnOk r (Sound meaning new)
    walked_sound (Ok n) h = h.sound
    walked_sound (Err e) h = tt

    pub walked_units : (r : Result ℕ OutOfMemory) → IfOk r (λ taken. Walks meaning steps taken old new) → OnOk r (new.units ≡ old.units)
    walked_units (Ok n) h = h.stays.units
    walked_units (Err e) h = tt

    pub walked_most : (r : Result ℕ OutOfMemory) → IfOk r (λ taken. Walks meaning steps taken old new) → IfOk r (λ taken. taken ≤ steps)
    walked_most (Ok n) h = h.most
    walked_most (Err e) h = tt

    pub walked_left : (r : Result ℕ OutOfMemory) → IfOk r (λ taken. Walks meaning steps taken old new) → IfOk r (λ taken. old.left ≡ taken + new.left)
    walked_left (Ok n) h = h.left
    walked_left (Err e) h = tt

pub none_walked : (left : ℕ) → left ≡ 0 + left
none_walked left = sym (none_taken left)
