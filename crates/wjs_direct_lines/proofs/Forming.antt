-- Forms and lines, composed of the evaluations of their parts.
use Rattle.std.proofs.Common.{◌≡◌, ℕ, suc, List, [], ◌∷◌, sym, ◌∙◌, subst}
use Rattle.std.specs.Prelude.{Option, None, Some, Result, Ok, Err}
use Rattle.std.proofs.lemmas.List.Elements.{All-cons, All-nil}
use Rattle.wjs_base.specs.declared.ids.NodeId.{NodeId}
use Rattle.wjs_base.specs.Text.{Table, Grows}
use Rattle.wjs_store.specs.Meaning.{Meaning}
use Rattle.wjs_meaning.specs.Deeds.{Env, Goal, Completion, Act, Ret, Sub}
use Rattle.wjs_model.specs.declared.config.Config.{Config}
use Rattle.wjs_model.specs.declared.frame.Activation.{Activation as Frame}
use Rattle.wjs_model.specs.declared.frame.Held.{Held}
use Rattle.wjs_model.specs.declared.frame.Phase.{Phase}
use Rattle.wjs_model.specs.declared.frame.Phase.TheVariants as phases
use Rattle.wjs_model.specs.declared.point.Point.{Point}
use Rattle.wjs_model.specs.Begun.{with_phase}
use Rattle.wjs_model.specs.Soundness.{IsThere, IsStacked, HasItems, HasPoint, HasPhase, StandsHere}
use Rattle.wjs_frames.specs.declared.part.Part.{Part}
use Rattle.wjs_frames.specs.Following.{Later}
use Rattle.wjs_frames.specs.Parts.{goal_of, start_of, node_of, env_in}
use Rattle.wjs_frames.specs.Shortening.{Shortens}
use Rattle.wjs_frames.proofs.Handling.{env_later}
use Rattle.wjs_stopping.specs.declared.ends.Broken.{Broken}
use Rattle.wjs_stopping.specs.declared.ends.Broken.TheVariants as ends
use Rattle.wjs_stopping.specs.Waiting.{at_node, waiting_at, StopsAt, WaitsAt}
use Rattle.wjs_stopping.specs.Evaluating.{Evaluates, HasStops, HasBroken}
use Rattle.wjs_stopping.proofs.Evaluating.{due_stops, part_goes_on, line_ends, entry_is_paid}
use Rattle.wjs_direct_lines.specs.Deeds.{goal_here, entry_here, line_here, form_here}

module _ {S : Type 0} (meaning : S → Meaning) where
  -- ---- frames

  -- a node that stands where a frame is run, as a frame of its own
  pub node_there : (c : Config S) (f : Frame) (node : NodeId) (held : List Held) → IsThere meaning c f → StandsHere c f node → HasItems c held → IsThere meaning c (at_node f node held)
  node_there c f node held h s k = record { scope = h.scope; this = h.this; world = h.world; held = k; stands = record { node = s; shown = h.stands.shown } }

  stacked_with : (c : Config S) (f : Frame) (phase : Phase) → IsThere meaning c f → HasPhase c f phase → IsStacked meaning c (with_phase (f, phase))
  stacked_with c f phase h p = record {
    there = record { scope = h.scope; this = h.this; world = h.world; held = h.held; stands = record { node = h.stands.node; shown = h.stands.shown } };
    phase = p;
  }

  -- the frame that is left where a node stopped
  pub stops_there : (c : Config S) (f : Frame) (phase : Phase) (end : Broken) (waits : List Frame) (top : Option (Frame × Phase)) → IsThere meaning c f → HasPhase c f phase
      → StopsAt f phase end waits top → HasBroken meaning c end waits top
  stops_there c f phase ends.Stopped waits top h p s =
      subst (λ (w : List Frame). HasStops meaning c w top) (sym s.0)
      (subst (λ (x : Option (Frame × Phase)). HasStops meaning c [] x) (sym s.1) (All-nil (IsStacked meaning c), stacked_with c f phase h p))
  stops_there c f phase (ends.Throws v) waits top h p s = absurd s
  stops_there c f phase ends.OutOfMemory waits top h p s = s

  stops_more : (c : Config S) (f : Frame) (point : Point) (waits : List Frame) (top : Option (Frame × Phase)) → IsThere meaning c f → HasPoint c f point → HasStops meaning c waits top
      → HasStops meaning c (waiting_at f point ∷ waits) top
  stops_more c f point waits None h p s = absurd s
  stops_more c f point waits (Some x) h p s = (All-cons (IsStacked meaning c) (waiting_at f point) waits (stacked_with c f (phases.Waiting point) h p) s.0, s.1)

  -- and those that are left where a node waits
  pub waits_there : (c : Config S) (f : Frame) (point : Point) (end : Broken) (waits : List Frame) (top : Option (Frame × Phase)) (end' : Broken) (waits' : List Frame) (top' : Option (Frame × Phase))
      → IsThere meaning c f → HasPoint c f point → HasBroken meaning c end waits top → WaitsAt f point end waits top end' waits' top' → HasBroken meaning c end' waits' top'
  waits_there c f point ends.Stopped waits top ends.Stopped waits' top' h p s w =
      subst (λ (x : List Frame). HasStops meaning c x top') (sym w.0)
      (subst (λ (x : Option (Frame × Phase)). HasStops meaning c (waiting_at f point ∷ waits) x) (sym w.1) (stops_more c f point waits top h p s))
  waits_there c f point ends.Stopped waits top (ends.Throws v) waits' top' h p s w = absurd w
  waits_there c f point ends.Stopped waits top ends.OutOfMemory waits' top' h p s w = w
  waits_there c f point (ends.Throws v) waits top end' waits' top' h p s w =
      subst (λ (x : Broken). HasBroken meaning c x waits' top') (sym w.0) (s.0, w.1.0 ∙ s.1)
  waits_there c f point ends.OutOfMemory waits top end' waits' top' h p s w = subst (λ (x : Broken). HasBroken meaning c x waits' top') (sym w) s

  -- ---- deeds

  module _ {A : Type 0} (said : Table → A → Completion) where
    -- a part stops at its entry
    pub due_here : (c : Config S) (f : Frame) (p : Part) (end : Broken) (waits : List Frame) (top : Option (Frame × Phase)) → StopsAt (at_node f (node_of p) []) (phases.Due (start_of p)) end waits top
        → Evaluates meaning (goal_here meaning c f (goal_of p)) said (Err end) waits top c c
    due_here c f p end waits top s = due_stops meaning said c f p end waits top s

    -- its step is taken, and what follows it is done
    pub step_taken : (old new : Config S) (f : Frame) (goal : Goal) (done : Result A Broken) (waits : List Frame) (top : Option (Frame × Phase)) (left : ℕ) → old.left ≡ suc left
        → Evaluates meaning (entry_here meaning (record old { left = left }) f goal) said done waits top (record old { left = left }) new → Evaluates meaning (goal_here meaning old f goal) said done waits top old new
    step_taken old new f goal done waits top left e d = entry_is_paid meaning said goal (λ t. env_in meaning old t f) done waits top old new left e d

    -- a line that is at its end
    pub line_ended : (c : Config S) (f : Frame) (act : Table → Env → Act) (v : A) (w : List Frame) (p : Option (Frame × Phase))
        → ((t : Table) → Grows c.heap.texts t → (env : Env) → Shortens (act t env) (Ret (said t v))) → Evaluates meaning (line_here meaning c f act) said (Ok v) w p c c
    line_ended c f act v w p s = line_ends meaning said (λ t. act t (env_in meaning c t f)) v w p c (λ t more. s t more (env_in meaning c t f))

    -- where a frame is run stays
    pub line_moved : (old mid new : Config S) (f : Frame) (act : Table → Env → Act) (done : Result A Broken) (waits : List Frame) (top : Option (Frame × Phase)) → Later meaning old mid
        → Evaluates meaning (line_here meaning mid f act) said done waits top mid new → Evaluates meaning (line_here meaning old f act) said done waits top mid new
    line_moved old mid new f act done waits top l d =
        subst (λ (env : Table → Env). Evaluates meaning (λ t go. Sub (act t (env t)) go) said done waits top mid new) (λ i t. env_later meaning old mid t f l i) d

  module _ {A B : Type 0} (told : Table → A → Completion) (said : Table → B → Completion) where
    -- a part ended, and its form goes on with the line that comes next
    pub form_goes_on : (old mid new : Config S) (f : Frame) (goal : Goal) (next : Table → Env → Completion → Act) (v : A) (done : Result B Broken) (w : List Frame) (p : Option (Frame × Phase)) (waits : List Frame) (top : Option (Frame × Phase))
        → Later meaning old mid → Evaluates meaning (goal_here meaning old f goal) told (Ok v) w p old mid → Evaluates meaning (line_here meaning mid f (λ t env. next t env (told t v))) said done waits top mid new
        → Evaluates meaning (form_here meaning old f goal next) said done waits top old new
    form_goes_on old mid new f goal next v done w p waits top l d m =
        part_goes_on meaning told said goal (λ t. env_in meaning old t f) (λ t. next t (env_in meaning old t f)) v done w p waits top old mid new d
        (line_moved said old mid new f (λ t env. next t env (told t v)) done waits top l m)
