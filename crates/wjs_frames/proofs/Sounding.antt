-- A configuration whose frames change is as sound as they are.
use Rattle.std.proofs.Common.{◌≡◌, List, [], ◌∷◌, ◌++◌, Some, ℕ, sym, subst}
use Rattle.std.specs.Prelude.{All}
use Rattle.std.proofs.lemmas.List.Elements.{All-weaker, All-push, All-pop, All-same}
use Rattle.wjs_store.specs.Meaning.{Meaning}
use Rattle.wjs_model.specs.declared.config.Config.{Config}
use Rattle.wjs_model.specs.declared.config.State.{State}
use Rattle.wjs_model.specs.declared.config.State.TheVariants as states
use Rattle.wjs_model.specs.declared.frame.Phase.{Phase}
use Rattle.wjs_model.specs.declared.frame.Activation.{Activation as Frame}
use Rattle.wjs_model.specs.Soundness.{HasPhase, HasThrown, IsThere, IsStacked, Base, Sound}

thrown_running : {S : Type 0} (c : Config S) (s : State) → s ≡ states.Running → HasThrown c s
thrown_running c s e = subst (λ q. HasThrown c q) (sym e) tt

not_empty : {A : Type 0} (all xs : List A) (x : A) → all ≡ xs ++ x ∷ [] → all ≡ [] → ⊥
not_empty all [] x e h = cc
not_empty all (y ∷ xs) x e h = cc

module _ {S : Type 0} (meaning : S → Meaning) where
  -- what is there stays so under other frames
  pub there_framed : (old : Config S) (frames : List Frame) (left : ℕ) (state : State) (f : Frame) → IsThere meaning old f
      → IsThere meaning (record old { frames = frames; left = left; state = state }) f
  there_framed old frames left state f h = record { scope = h.scope; this = h.this; world = h.world; held = h.held; stands = h.stands }

  stacked_framed : (old : Config S) (frames : List Frame) (left : ℕ) (state : State) (f : Frame) → IsStacked meaning old f
      → IsStacked meaning (record old { frames = frames; left = left; state = state }) f
  stacked_framed old frames left state f h = record { there = there_framed old frames left state f h.there; phase = h.phase }

  -- at a moment whose phase is there
  pub stacked_at : (old : Config S) (f : Frame) (phase : Phase) → HasPhase old f phase → IsThere meaning old f
      → IsStacked meaning old (record f { phase = phase })
  stacked_at old f phase p h = record {
    there = record { scope = h.scope; this = h.this; world = h.world; held = h.held; stands = record { node = h.stands.node; shown = h.stands.shown } };
    phase = p;
  }

  -- without the phase that it had
  pub there_off : (c : Config S) (f : Frame) (phase : Phase) → IsThere meaning c (record f { phase = phase }) → IsThere meaning c f
  there_off c f phase h = record { scope = h.scope; this = h.this; world = h.world; held = h.held; stands = record { node = h.stands.node; shown = h.stands.shown } }

  pub base_framed : (old : Config S) (frames : List Frame) (left : ℕ) (state : State) → Base meaning old → All (IsStacked meaning old) frames
      → Base meaning (record old { frames = frames; left = left; state = state })
  base_framed old frames left state b h = record {
    heap = b.heap;
    global = b.global;
    world = b.world;
    builtins = b.builtins;
    units = b.units;
    places = b.places;
    functions = b.functions;
    works = b.works;
    worlds_own = b.worlds_own;
    worlds_by = b.worlds_by;
    own_worlds = b.own_worlds;
    own = b.own;
    near_objects = b.near_objects;
    near_slots = b.near_slots;
    frames = All-weaker (IsStacked meaning old) (IsStacked meaning (record old { frames = frames; left = left; state = state })) (λ f. stacked_framed old frames left state f) frames h;
    marks = b.marks;
    told = b.told;
  }

  -- with one more on top
  pub sound_push : (old : Config S) (frames fs : List Frame) (f : Frame) → old.state ≡ states.Running → Base meaning old → All (IsStacked meaning old) fs
      → IsStacked meaning old f → frames ≡ fs ++ f ∷ [] → Sound meaning (record old { frames = frames })
  sound_push old frames fs f er b hs h ef = record {
    base = base_framed old frames old.left old.state b (All-same (IsStacked meaning old) frames (fs ++ f ∷ []) ef (All-push (IsStacked meaning old) fs f hs h));
    thrown = thrown_running (record old { frames = frames }) old.state er;
    running = λ e. not_empty frames fs f ef;
  }

  -- without the one on top
  pub there_pop : (old : Config S) (fs : List Frame) (f : Frame) → old.frames ≡ fs ++ f ∷ [] → Base meaning old
      → All (IsStacked meaning old) fs × IsStacked meaning old f
  there_pop old fs f eo b = All-pop (IsStacked meaning old) old.frames fs (Some f) eo b.frames
