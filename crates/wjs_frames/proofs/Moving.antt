-- What the moves follow, and that they leave a sound configuration.
use Rattle.std.proofs.Common.{◌≡◌, ℕ, ◌+◌, ◌≤◌, List, [], ◌∷◌, ◌++◌, refl, sym, ap, ◌∙◌, subst, true, arith}
use Rattle.std.specs.Prelude.{All, is_some}
use Rattle.std.proofs.lemmas.Result.{on_ok_weaker}
use Rattle.std.proofs.lemmas.List.Elements.{All-nil, All-push, All-same}
use Rattle.wjs_base.specs.Text.{Table}
use Rattle.wjs_base.specs.declared.ids.NodeId.{NodeId}
use Rattle.wjs_store.specs.Meaning.{Meaning}
use Rattle.wjs_meaning.specs.Deeds.{Act, Ret, Tick, Eval, Sub}
use Rattle.wjs_model.specs.declared.config.Config.{Config}
use Rattle.wjs_model.specs.declared.config.State.{State}
use Rattle.wjs_model.specs.declared.config.State.TheVariants as states
use Rattle.wjs_model.specs.declared.frame.Completion.{Completion}
use Rattle.wjs_model.specs.declared.frame.Completion.TheVariants as completions
use Rattle.wjs_model.specs.declared.point.Point.{Point}
use Rattle.wjs_model.specs.declared.point.Start.{Start}
use Rattle.wjs_model.specs.declared.frame.Phase.{Phase}
use Rattle.wjs_model.specs.declared.frame.Phase.TheVariants as phases
use Rattle.wjs_model.specs.declared.operand.Operand.{Operand}
use Rattle.wjs_model.specs.declared.frame.Activation.{Activation as Frame}
use Rattle.wjs_model.specs.declared.frame.Held.{Held}
use Rattle.wjs_model.specs.Frames.{last, on_last}
use Rattle.wjs_model.proofs.Tops.{before-last, on_last-snoc}
use Rattle.wjs_model.specs.Begun.{resumed as given_to}
use Rattle.wjs_model.specs.Contents.{completion_in, holding_in}
use Rattle.wjs_model.specs.Rest.{begin_at}
use Rattle.wjs_meaning.specs.Reading.{node_in}
use Rattle.wjs_model.specs.Soundness.{StandsHere, HasStart, HasPoint, HasPhase, HasCompletion, HasItems, HasThrown, IsThere, IsStacked, Base}
use Rattle.wjs_frames.specs.declared.part.Part.{Part}
use Rattle.wjs_frames.specs.declared.part.Part.TheVariants as part
use Rattle.wjs_frames.specs.Parts.{goal_of, start_of, node_of, due_frame, env_in, then_at, begins_at, ended, node_among}
use Rattle.wjs_frames.specs.Operands.{IsOperand}
use Rattle.wjs_frames.specs.Keeping.{Keeps}
use Rattle.wjs_frames.specs.Following.{Follows, Later}
use Rattle.wjs_frames.specs.Nesting.{Nests}
use Rattle.wjs_frames.proofs.Sounding.{stacked_at, there_framed, base_framed, sound_push, there_pop}
use Rattle.wjs_frames.proofs.Keeping.{grows_same}
use Rattle.wjs_frames.proofs.Entering.{keeps_enter, keeps_operand, keeps_going, keeps_last, keeps_ready, keeps_due, opens_waiting}
use Rattle.wjs_frames.proofs.Ending.{keeps_given, keeps_ended}

thrown_ended : {S : Type 0} (c : Config S) (e : Completion) → HasCompletion c e → HasThrown c (ended e)
thrown_ended c (completions.Gives v) h = tt
thrown_ended c (completions.Refers r) h = tt
thrown_ended c completions.Normal h = tt
thrown_ended c (completions.Breaks label) h = tt
thrown_ended c (completions.Continues label) h = tt
thrown_ended c (completions.Returns v) h = tt
thrown_ended c (completions.Throws v) h = h

stopped_ended : (e : Completion) → ended e ≡ states.Running → ⊥
stopped_ended (completions.Gives v) h = cc
stopped_ended (completions.Refers r) h = cc
stopped_ended completions.Normal h = cc
stopped_ended (completions.Breaks label) h = cc
stopped_ended (completions.Continues label) h = cc
stopped_ended (completions.Returns v) h = cc
stopped_ended (completions.Throws v) h = cc

fewer : (x y : ℕ) → x + 1 ≤ y → x + 0 ≤ y
fewer x y h = omega (arith, h)

module _ {S : Type 0} (meaning : S → Meaning) where
  none_fewer : (t : Table) (act : Act) (old new : Config S) → Keeps meaning t 1 act old new → Keeps meaning t 0 act old new
  none_fewer t act old new k = record { stays = k.stays; cost = k.cost; left = k.left; alive = k.alive; kept = k.kept; paid = k.paid; knows = k.knows; falls = λ none v a h. fewer _ _ (k.falls none v a h) }

  start_due : (old : Config S) (p : Part) → HasStart old (start_of p)
  start_due old (part.Expr e) = tt
  start_due old (part.Target e) = tt
  start_due old (part.Stmt s) = tt
  start_due old (part.Again s) = tt

  stacked_due : (old : Config S) (f : Frame) (p : Part) → IsThere meaning old f → StandsHere old f (node_of p) → IsStacked meaning old (due_frame f p)
  stacked_due old f p h s = record {
    there = record { scope = h.scope; this = h.this; world = h.world; held = tt; stands = record { node = s; shown = h.stands.shown } };
    phase = start_due old p;
  }

  all_waiting : (old : Config S) (f : Frame) (point : Point) (mid : List Frame) → Base meaning old → IsThere meaning old f → HasPoint old f point
      → mid ≡ old.frames ++ record f { phase = phases.Waiting point } ∷ [] → All (IsStacked meaning old) mid
  all_waiting old f point mid b h hp em = All-same (IsStacked meaning old) mid _ em (All-push (IsStacked meaning old) old.frames _ b.frames (stacked_at meaning old f (phases.Waiting point) hp h))

  -- a frame waits, and a part is due above it
  pub follows_enter : (old : Config S) (f : Frame) (point : Point) (p : Part) (mid frames : List Frame) → old.state ≡ states.Running → Base meaning old
      → IsThere meaning old f → HasPoint old f point → StandsHere old f (node_of p) → mid ≡ old.frames ++ record f { phase = phases.Waiting point } ∷ []
      → frames ≡ mid ++ due_frame f p ∷ []
      → Follows meaning (let t = old.heap.texts in Eval (goal_of p) (env_in meaning old t f) (then_at meaning old f point t (env_in meaning old t f))) old (record old { frames = frames })
  follows_enter old f point p mid frames er b h hp s em ef = record {
    keeps = keeps_enter meaning old.heap.texts old f point p mid frames er em ef;
    sound = sound_push meaning old frames mid (due_frame f p) er b (all_waiting old f point mid b h hp em) (stacked_due old f p h s) ef;
  }

  -- a frame waits for an operand
  pub follows_operand : (old : Config S) (f : Frame) (point : Point) (p : Part) (o : Operand) (frames : List Frame) → old.state ≡ states.Running
      → Base meaning old → IsThere meaning old f → HasPoint old f point → IsOperand meaning old f p o
      → frames ≡ old.frames ++ record f { phase = phases.Entering point o } ∷ []
      → Follows meaning (let t = old.heap.texts in Eval (goal_of p) (env_in meaning old t f) (then_at meaning old f point t (env_in meaning old t f))) old (record old { frames = frames })
  follows_operand old f point p o frames er b h hp is ef = record {
    keeps = keeps_operand meaning old.heap.texts old f point p o frames er is ef;
    sound = sound_push meaning old frames old.frames _ er b b.frames (stacked_at meaning old f (phases.Entering point o) (hp, is.has) h) ef;
  }

  -- a frame goes on with a completion
  pub follows_going : (old : Config S) (f : Frame) (point : Point) (c : Completion) (frames : List Frame) → old.state ≡ states.Running → Base meaning old
      → IsThere meaning old f → HasPoint old f point → HasCompletion old c → frames ≡ old.frames ++ record f { phase = phases.Given point c } ∷ []
      → Follows meaning (let t = old.heap.texts in Sub (Ret (completion_in t c)) (then_at meaning old f point t (env_in meaning old t f))) old (record old { frames = frames })
  follows_going old f point c frames er b h hp hc ef = record {
    keeps = keeps_going meaning old.heap.texts old f point c frames er ef;
    sound = sound_push meaning old frames old.frames _ er b b.frames (stacked_at meaning old f (phases.Given point c) (hp, hc) h) ef;
  }

  -- a part is due in the place of a frame
  pub follows_last : (old : Config S) (f : Frame) (p : Part) (frames : List Frame) → old.state ≡ states.Running → Base meaning old → IsThere meaning old f
      → StandsHere old f (node_of p) → frames ≡ old.frames ++ due_frame f p ∷ []
      → Follows meaning (Eval (goal_of p) (env_in meaning old old.heap.texts f) Ret) old (record old { frames = frames })
  follows_last old f p frames er b h s ef = record {
    keeps = keeps_last meaning old.heap.texts old f p frames er ef;
    sound = sound_push meaning old frames old.frames (due_frame f p) er b b.frames (stacked_due old f p h s) ef;
  }

  -- a step is due first
  pub follows_due : (old : Config S) (f : Frame) (start : Start) (frames : List Frame) → old.state ≡ states.Running → Base meaning old → IsThere meaning old f
      → HasStart old start → frames ≡ old.frames ++ record f { phase = phases.Due start } ∷ []
      → Follows meaning (let t = old.heap.texts in Tick (begins_at meaning old f start t (env_in meaning old t f))) old (record old { frames = frames })
  follows_due old f start frames er b h hs ef = record {
    keeps = keeps_due meaning old.heap.texts old f start frames er ef;
    sound = sound_push meaning old frames old.frames _ er b b.frames (stacked_at meaning old f (phases.Due start) hs h) ef;
  }

  -- a frame waits, and another begins above it
  pub follows_nested : (old : Config S) (f : Frame) (point : Point) (start : Start) (node : NodeId) (held : List Held) (mid frames : List Frame)
      → old.state ≡ states.Running → Base meaning old → IsThere meaning old f → HasPoint old f point → HasStart old start → HasItems old held
      → StandsHere old f node
      → mid ≡ old.frames ++ record f { phase = phases.Waiting point } ∷ [] → frames ≡ mid ++ record f { node = node; phase = phases.Ready start; held = held } ∷ []
      → Follows meaning (let t = old.heap.texts in Sub (begin_at start node.0 (node_in t (node_among old.units.items f.tree node)) (holding_in t held) (env_in meaning old t f)) (then_at meaning old f point t (env_in meaning old t f))) old (record old { frames = frames })
  follows_nested old f point start node held mid frames er b h hp hs hh s em ef =
      let t = old.heap.texts in
      let g : Frame = record f { node = node; held = held } in
      record {
        keeps = (opens_waiting meaning t old f point mid em).by (begins_at meaning old g start t (env_in meaning old t g)) (record old { frames = frames }) (keeps_ready meaning t (record old { frames = mid }) g start frames er ef);
        sound = sound_push meaning old frames mid (record g { phase = phases.Ready start }) er b (all_waiting old f point mid b h hp em)
            (record { there = record { scope = h.scope; this = h.this; world = h.world; held = hh; stands = record { node = s; shown = h.stands.shown } }; phase = hs }) ef;
      }

  -- a frame waits for what is followed above it
  pub nests_waiting : (old : Config S) (f : Frame) (point : Point) (frames : List Frame)
      → frames ≡ old.frames ++ record f { phase = phases.Waiting point } ∷ []
      → Nests meaning (λ t. then_at meaning old f point t (env_in meaning old t f)) old (record old { frames = frames })
  nests_waiting old f point frames ef = record {
    by = λ act later r k. on_ok_weaker r (λ h. record { keeps = (opens_waiting meaning later.heap.texts old f point frames ef).by act later (none_fewer later.heap.texts act (record old { frames = frames }) later h.keeps); sound = h.sound }) k;
  }

  -- all else stays
  pub later_waiting : (old : Config S) (f : Frame) (point : Point) (frames : List Frame) → Base meaning old → IsThere meaning old f → HasPoint old f point
      → frames ≡ old.frames ++ record f { phase = phases.Waiting point } ∷ [] → Later meaning old (record old { frames = frames })
  later_waiting old f point frames b h hp ef = record {
    state = refl;
    units = refl;
    global = refl;
    owner = refl;
    base = base_framed meaning old frames old.left old.state b (all_waiting old f point frames b h hp ef);
    frames = λ g k. there_framed meaning old frames old.left old.state g k;
    values = λ v k. k;
    objects = λ o k. k;
    names = λ name k. k;
    references = λ r k. k;
    completions = λ e k. k;
    items = λ held k. k;
    worlds = λ w k. k;
    texts = grows_same old.heap.texts;
    arena = λ o e k. k;
  }

  given_there : (old : Config S) (f : Frame) (p : Phase) (c : Completion) → HasPhase old f p → HasCompletion old c → HasPhase old f (given_to p c)
  given_there old f (phases.Due start) c h k = h
  given_there old f (phases.Ready start) c h k = h
  given_there old f (phases.Waiting point) c h k = (h, k)
  given_there old f (phases.Given point d) c h k = h
  given_there old f (phases.Entering point o) c h k = h

  -- the frame below is given the completion
  follows_given : (old : Config S) (c : Completion) (frames fs : List Frame) (f : Frame) → old.state ≡ states.Running → Base meaning old
      → HasCompletion old c → old.frames ≡ fs ++ f ∷ [] → frames ≡ fs ++ record f { phase = given_to f.phase c } ∷ []
      → Follows meaning (Ret (completion_in old.heap.texts c)) old (record old { frames = frames })
  follows_given old c frames fs f er b h eo ef =
      let popped = there_pop meaning old fs f eo b in
      record {
        keeps = keeps_given meaning old.heap.texts c old frames fs f er eo ef;
        sound = sound_push meaning old frames fs _ er b popped.0 (stacked_at meaning old f (given_to f.phase c) (given_there old f f.phase c popped.1.phase h) popped.1.there) ef;
      }

  -- so is the last, where there is one
  pub follows_on_last : (old : Config S) (c : Completion) (frames : List Frame) → old.state ≡ states.Running → Base meaning old → HasCompletion old c
      → true ≡ is_some (last old.frames) → frames ≡ on_last (λ (f : Frame). record f { phase = given_to f.phase c }) old.frames
      → Follows meaning (Ret (completion_in old.heap.texts c)) old (record old { frames = frames })
  follows_on_last old c frames er b h some ef =
      let give : Frame → Frame = λ f. record f { phase = given_to f.phase c } in
      before-last old.frames _ some (λ fs f eo. follows_given old c frames fs f er b h eo (ef ∙ ap (on_last give) eo ∙ on_last-snoc give fs f))

  -- no frame is left
  pub follows_ended : (old : Config S) (c : Completion) (frames : List Frame) (state : State) → Base meaning old → HasCompletion old c → old.frames ≡ []
      → frames ≡ [] → state ≡ ended c
      → Follows meaning (Ret (completion_in old.heap.texts c)) old (record old { frames = frames; state = state })
  follows_ended old c frames state b h eo ef es = record {
    keeps = keeps_ended meaning old.heap.texts c old frames state eo es;
    sound = record {
      base = base_framed meaning old frames old.left state b (All-same (IsStacked meaning old) frames [] ef (All-nil (IsStacked meaning old)));
      thrown = subst (λ s. HasThrown (record old { frames = frames; state = s }) s) (sym es) (thrown_ended (record old { frames = frames; state = ended c }) c h);
      running = λ e. absurd (stopped_ended c (sym es ∙ e));
    };
  }
