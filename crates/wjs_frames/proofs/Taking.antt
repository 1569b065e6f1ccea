-- The frame on top is taken off.
use Rattle.std.proofs.Common.{◌≡◌, ℕ, zero, suc, ◌+◌, ◌<◌, ◌≤◌, List, [], ◌∷◌, ◌++◌, true, false, Option, None, Some, refl, sym, ap, ◌∙◌, subst, arith}
use Rattle.std.specs.Prelude.{map as each, option_map, is_some, unwrap_or, Bool}
use Rattle.std.proofs.lemmas.List.Elements.{All-nil, All-same}
use Rattle.std.proofs.lemmas.Result.{on_ok_weaker}
use Rattle.wjs_base.specs.Text.{Table}
use Rattle.wjs_store.specs.State.{State}
use Rattle.wjs_store.specs.Meaning.{Meaning, PlainAct, PlainReply}
use Rattle.wjs_by_content.specs.Names.{content}
use Rattle.wjs_by_content.specs.Objects.{Arena}
use Rattle.wjs_by_content.specs.Worlds.{told_by}
use Rattle.wjs_meaning.specs.Deeds.{St, Env, Act, Tick, Completion as Said, Normal}
use Rattle.wjs_meaning.specs.Programs.{Ending, Done, StepsSpent, run_next}
use Rattle.wjs_model.specs.declared.config.Config.{Config}
use Rattle.wjs_model.specs.declared.config.State.TheVariants as states
use Rattle.wjs_model.specs.declared.point.Point.{Point}
use Rattle.wjs_model.specs.declared.point.Start.{Start}
use Rattle.wjs_model.specs.declared.frame.Phase.{Phase}
use Rattle.wjs_model.specs.declared.frame.Phase.TheVariants as phases
use Rattle.wjs_model.specs.declared.operand.Operand.{Operand}
use Rattle.wjs_model.specs.declared.frame.Completion.{Completion}
use Rattle.wjs_model.specs.declared.frame.Activation.{Activation as NumberedFrame}
use Rattle.wjs_model.specs.Begun.{is_due, with_phase}
use Rattle.wjs_model.specs.Frames.{last, front, Pops}
use Rattle.wjs_model.proofs.Tops.{last-snoc}
use Rattle.wjs_model.specs.Contents.{Frame, Run, Moment, frame_in, moment_in, completion_in, operand_in}
use Rattle.wjs_model.specs.Operands.{with_operand}
use Rattle.wjs_model.specs.Rest.{act_at, rest_of, rest_top, turns_of, turns_over, turns_at}
use Rattle.wjs_model.specs.Outside.{Outside, Admits, Knows}
use Rattle.wjs_model.specs.Configurations.{seen, tells, run_in, state_in, frames_in, rest_by, turns_by, rest, Stays, RestIs, Turned, quietly, by_step, stopped, Quiet}
use Rattle.wjs_frames.specs.Keeping.{rest_with}
use Rattle.wjs_frames.specs.Following.{Follows}
use Rattle.wjs_frames.specs.Parts.{env_in, then_at, begins_at}
use Rattle.wjs_frames.specs.Taking.{Takes, TakesOff, TakesPhase, Turns}
use Rattle.wjs_frames.proofs.Frames.{each_snoc, rest_of_snoc, turns_of_snoc}
use Rattle.wjs_model.specs.Soundness.{HasPhase, IsThere, IsStacked, Base}
use Rattle.wjs_frames.proofs.Sounding.{there_framed, there_off, base_framed, there_pop}
use Rattle.wjs_frames.proofs.Entering.{given_then, begin_then}
use Rattle.wjs_frames.proofs.Keeping.{none_taken, stays_framed}

some_taken : (k m : ℕ) → k ≡ suc m → 0 < k
some_taken k m e = omega (arith, e)

falls_below : (x y k : ℕ) → k ≡ y → x + 1 ≤ y → x < k
falls_below x y k e h = omega (arith, e, h)

pub one_more : (k n : ℕ) → suc k + n ≡ suc (k + n)
one_more k n = omega arith

-- what the last frame's phase says
due_last : (fs : List NumberedFrame) (f : NumberedFrame)
    → is_due (option_map (λ (q : NumberedFrame). q.phase) (last (fs ++ f ∷ []))) ≡ is_due (Some f.phase)
due_last fs f = ap (λ o. is_due (option_map (λ (q : NumberedFrame). q.phase) o)) (last-snoc fs f)

-- a step is due where the phase of the frame that was on top says so
due_top : (all fs : List NumberedFrame) (f : NumberedFrame) → all ≡ fs ++ f ∷ []
    → is_due (option_map (λ (q : NumberedFrame). q.phase) (last all)) ≡ is_due (Some f.phase)
due_top all fs f e = ap (λ l. is_due (option_map (λ (q : NumberedFrame). q.phase) (last l))) e ∙ due_last fs f

-- without frames none is due
none_due : (all : List NumberedFrame) → all ≡ [] → is_due (option_map (λ (q : NumberedFrame). q.phase) (last all)) ≡ true → ⊥
none_due all e h =
    let one : is_due (option_map (λ (q : NumberedFrame). q.phase) (last all)) ≡ false = ap (λ l. is_due (option_map (λ (q : NumberedFrame). q.phase) (last l))) e in
    cc

last_each : {A B : Type 0} (f : A → B) (xs : List A) → last (each f xs) ≡ option_map f (last xs)
last_each f [] = refl
last_each f (x ∷ []) = refl
last_each f (x ∷ y ∷ xs) = last_each f (y ∷ xs)

due_by : (t : Table) (run : Run) (g : Frame) (fs : List Frame) (st : St) (p : Phase) → g.moment ≡ moment_in t p → is_due (Some p) ≡ true
    → run_next (rest_top run fs (Some g) st 0) (λ st' n'. (Done, st')) ≡ (StepsSpent, st)
due_by t run g fs st (phases.Due start) e h = ap (λ m. rest_with run (act_at run g m) fs st 0) e
due_by t run g fs st (phases.Entering point o) e h = ap (λ m. rest_with run (act_at run g m) fs st 0) e
due_by t run g fs st (phases.Ready start) e h = absurd (cc)
due_by t run g fs st (phases.Waiting point) e h = absurd (cc)
due_by t run g fs st (phases.Given point c) e h = absurd (cc)

rest_due : (t : Table) (run : Run) (fs : List Frame) (o : Option NumberedFrame) (st : St) → is_due (option_map (λ (q : NumberedFrame). q.phase) o) ≡ true
    → run_next (rest_top run fs (option_map (frame_in t) o) st 0) (λ st' n'. (Done, st')) ≡ (StepsSpent, st)
rest_due t run fs None st h = absurd (cc)
rest_due t run fs (Some f) st h = due_by t run (frame_in t f) fs st f.phase refl h

-- where no step is due the frame's own turn is one more
turns_not_due : (t : Table) (run : Run) (fs : List Frame) (f : Frame) (p : Phase) (st : St) → is_due (Some p) ≡ false
    → turns_at run fs f (moment_in t p) st ≡ suc (turns_over run (act_at run f (moment_in t p)) fs st)
turns_not_due t run fs f (phases.Due start) st h = absurd (cc)
turns_not_due t run fs f (phases.Entering point o) st h = absurd (cc)
turns_not_due t run fs f (phases.Ready start) st h = refl
turns_not_due t run fs f (phases.Waiting point) st h = refl
turns_not_due t run fs f (phases.Given point c) st h = refl

-- a store that does not tell its actions has told none
pub seen_spent : (t : Table) (told : Option (List (PlainAct × PlainReply))) (e : Ending) (full : State content) (arena : Arena) (out : List ℕ)
    → seen (is_some told) (e, record { full = full; arena = arena; out = out; done = unwrap_or (told_by t told) [] }) ≡ (e, record { full = full; arena = arena; out = out; done = unwrap_or (told_by t told) [] })
seen_spent t None e full arena out = refl
seen_spent t (Some told) e full arena out = refl

-- whether a store tells its actions or not, the ending is the same
seen_ending : (b : Bool) (r : Ending × St) → (seen b r).0 ≡ r.0
seen_ending true r = refl
seen_ending false r = refl

pub under_more : (m k : ℕ) → suc m < suc k → m < k
under_more m k l = omega (arith, l)

module _ {S : Type 0} (meaning : S → Meaning) where
  pub stays_after : (old later : Config S) (frames : List NumberedFrame) (left : ℕ)
      → Stays meaning (record old { frames = frames; left = left }) later → Stays meaning old later
  stays_after old later frames left s = record { units = s.units; global = s.global; world = s.world; owner = s.owner; apart = s.apart; texts = s.texts; objects = s.objects; made = s.made; own = s.own; around = s.around; narrows = s.narrows }

  -- what was left with the frame on top
  rest_taken : (t : Table) (old : Config S) (fs : List NumberedFrame) (f : NumberedFrame) (m : Moment) (st : St) (n : ℕ) → old.state ≡ states.Running
      → old.frames ≡ fs ++ f ∷ [] → moment_in t f.phase ≡ m
      → rest_by t old.state (run_in meaning t old) (frames_in meaning t old) st n ≡ rest_with (run_in meaning t old) (act_at (run_in meaning t old) (frame_in t f) m) (each (frame_in t) fs) st n
  rest_taken t old fs f m st n er eo em =
      let run = run_in meaning t old in
      ap (λ s. rest_by t s run (frames_in meaning t old) st n) er
      ∙ ap (λ l. rest_of run l st n) (ap (each (frame_in t)) eo ∙ each_snoc (frame_in t) fs f)
      ∙ rest_of_snoc run (each (frame_in t) fs) (frame_in t f) st n
      ∙ ap (λ q. rest_with run (act_at run (frame_in t f) q) (each (frame_in t) fs) st n) em

  turns_taken : (t : Table) (old : Config S) (fs : List NumberedFrame) (f : NumberedFrame) (m : Moment) (st : St) → old.state ≡ states.Running
      → old.frames ≡ fs ++ f ∷ [] → moment_in t f.phase ≡ m
      → turns_by old.state (run_in meaning t old) (frames_in meaning t old) st ≡ turns_at (run_in meaning t old) (each (frame_in t) fs) (frame_in t f) m st
  turns_taken t old fs f m st er eo em =
      let run = run_in meaning t old in
      ap (λ s. turns_by s run (frames_in meaning t old) st) er
      ∙ ap (λ l. turns_of run l st) (ap (each (frame_in t)) eo ∙ each_snoc (frame_in t) fs f)
      ∙ turns_of_snoc run (each (frame_in t) fs) (frame_in t f) st
      ∙ ap (λ q. turns_at run (each (frame_in t) fs) (frame_in t f) q st) em

  taken_base : (old : Config S) (fs : List NumberedFrame) (f : NumberedFrame) (left : ℕ) → Base meaning old → old.frames ≡ fs ++ f ∷ []
      → Base meaning (record old { frames = fs; left = left })
  taken_base old fs f left b eo = base_framed meaning old fs left old.state b (there_pop meaning old fs f eo b).0

  taken_there : (old : Config S) (fs : List NumberedFrame) (f : NumberedFrame) (left : ℕ) → Base meaning old → old.frames ≡ fs ++ f ∷ []
      → IsThere meaning (record old { frames = fs; left = left }) f
  taken_there old fs f left b eo = there_framed meaning old fs left old.state f (there_pop meaning old fs f eo b).1.there

  -- so is what its phase names
  taken_phase : (old : Config S) (fs : List NumberedFrame) (f : NumberedFrame) (left : ℕ) (p : Phase) → Base meaning old
      → old.frames ≡ fs ++ record f { phase = p } ∷ [] → HasPhase (record old { frames = fs; left = left }) f p
  taken_phase old fs f left p b eo = (there_pop meaning old fs (record f { phase = p }) eo b).1.phase

  -- a frame goes on with no step of its own: what it does takes none, or some
  stepless_turn : (old : Config S) (fs : List NumberedFrame) (f : NumberedFrame) (act : Table → Act) (p : Phase) → old.state ≡ states.Running
      → old.frames ≡ fs ++ f ∷ [] → f.phase ≡ p → is_due (Some p) ≡ false
      → ((t : Table) → act_at (run_in meaning t old) (frame_in t f) (moment_in t p) ≡ act t)
      → (later : Config S) → Follows meaning (act later.heap.texts) (record old { frames = fs }) later → Turns meaning old later
  stepless_turn old fs f act p er eo ep hp ea later k = record { turned = by k.keeps.cost refl; sound = k.sound }
    where
      stays : Stays meaning old later
      stays = stays_after old later fs old.left k.keeps.stays

      kept : RestIs meaning old later (λ n. k.keeps.cost + n)
      kept v a h n =
          let t = later.heap.texts in
          let m = k.keeps.cost + n in
          ap (seen (tells meaning old)) (rest_taken t old fs f (moment_in t p) (state_in meaning t v old) m er eo (ap (moment_in t) ep) ∙ ap (λ d. rest_with (run_in meaning t old) d (each (frame_in t) fs) (state_in meaning t v old) m) (ea t))
          ∙ k.keeps.kept v a h n

      paid : (v : Outside) → Admits meaning later v → Knows meaning old v → (m : ℕ) → m < k.keeps.cost → (rest meaning later.heap.texts v old m).0 ≡ StepsSpent
      paid v a h m l =
          let t = later.heap.texts in
          let st = state_in meaning t v old in
          seen_ending (tells meaning old) (rest_by t old.state (run_in meaning t old) (frames_in meaning t old) st m)
          ∙ ap (λ (r : Ending × St). r.0) (rest_taken t old fs f (moment_in t p) st m er eo (ap (moment_in t) ep) ∙ ap (λ d. rest_with (run_in meaning t old) d (each (frame_in t) fs) st m) (ea t))
          ∙ k.keeps.paid v a h m l

      quiet : k.keeps.cost ≡ 0 → Quiet meaning old later
      quiet none = record {
        stays = stays;
        left = sym (k.keeps.left ∙ ap (λ m. m + later.left) none ∙ none_taken later.left);
        kept = λ v a h n. ap (rest meaning later.heap.texts v old) (sym (ap (λ m. m + n) none ∙ none_taken n)) ∙ kept v a h n;
        knows = k.keeps.knows;
        falls = λ v a h.
            let t = later.heap.texts in
            let run = run_in meaning t old in
            let st = state_in meaning t v old in
            falls_below _ _ _ (turns_taken t old fs f (moment_in t p) st er eo (ap (moment_in t) ep) ∙ turns_not_due t run (each (frame_in t) fs) (frame_in t f) p st hp ∙ ap (λ d. suc (turns_over run d (each (frame_in t) fs) st)) (ea t)) (k.keeps.falls none v a h);
        alive = k.keeps.alive;
      }

      by : (cost : ℕ) → k.keeps.cost ≡ cost → Turned meaning old later
      by zero none = quietly (quiet none)
      by (suc m) some = by_step (record {
        stays = stays;
        steps = k.keeps.cost;
        some = some_taken k.keeps.cost m some;
        left = k.keeps.left;
        kept = kept;
        paid = paid;
        knows = k.keeps.knows;
        alive = k.keeps.alive;
      })

  takes_now : (old : Config S) (fs : List NumberedFrame) (f : NumberedFrame) (line : Table → Env → Act) (p : Phase) → old.state ≡ states.Running
      → Base meaning old → old.frames ≡ fs ++ record f { phase = p } ∷ [] → is_due (Some p) ≡ false
      → ((t : Table) → act_at (run_in meaning t old) (frame_in t (record f { phase = p })) (moment_in t p) ≡ line t (env_in meaning old t f))
      → TakesOff meaning f p line old (record old { frames = fs })
  takes_now old fs f line p er b eo hp ea =
      let top : NumberedFrame = record f { phase = p } in
      record {
        taken = ap last eo ∙ last-snoc fs top;
        runs = record {
          running = record { state = er; base = taken_base old fs top old.left b eo };
          there = there_off meaning (record old { frames = fs }) f p (taken_there old fs top old.left b eo);
        };
        by = λ later r k. on_ok_weaker r (λ h. stepless_turn old fs top (λ t. line t (env_in meaning old t f)) p er eo refl hp ea later h) k;
      }

  takes_ready : (old : Config S) (fs : List NumberedFrame) (f : NumberedFrame) (start : Start) → old.state ≡ states.Running → Base meaning old
      → old.frames ≡ fs ++ record f { phase = phases.Ready start } ∷ []
      → TakesOff meaning f (phases.Ready start) (begins_at meaning (record old { frames = fs }) f start) old (record old { frames = fs })
  takes_ready old fs f start er b eo = takes_now old fs f _ (phases.Ready start) er b eo refl (λ t. begin_then meaning t old f start)

  takes_given : (old : Config S) (fs : List NumberedFrame) (f : NumberedFrame) (point : Point) (c : Completion) → old.state ≡ states.Running
      → Base meaning old → old.frames ≡ fs ++ record f { phase = phases.Given point c } ∷ []
      → TakesOff meaning f (phases.Given point c) (λ t env. then_at meaning (record old { frames = fs }) f point t env (completion_in t c)) old (record old { frames = fs })
  takes_given old fs f point c er b eo = takes_now old fs f _ (phases.Given point c) er b eo refl (λ t. ap (λ (go : Said → Act). go (completion_in t c)) (given_then meaning t old f point))

  takes_waiting : (old : Config S) (fs : List NumberedFrame) (f : NumberedFrame) (point : Point) → old.state ≡ states.Running → Base meaning old
      → old.frames ≡ fs ++ record f { phase = phases.Waiting point } ∷ []
      → TakesOff meaning f (phases.Waiting point) (λ t env. then_at meaning (record old { frames = fs }) f point t env Normal) old (record old { frames = fs })
  takes_waiting old fs f point er b eo = takes_now old fs f _ (phases.Waiting point) er b eo refl (λ t. ap (λ (go : Said → Act). go Normal) (given_then meaning t old f point))

  -- a frame goes on with its step
  step_turn : (old : Config S) (fs : List NumberedFrame) (f : NumberedFrame) (left : ℕ) (act : Table → Act) (p : Phase) → old.state ≡ states.Running
      → old.frames ≡ fs ++ f ∷ [] → f.phase ≡ p → old.left ≡ suc left
      → ((t : Table) → act_at (run_in meaning t old) (frame_in t f) (moment_in t p) ≡ Tick (act t))
      → (later : Config S) → Follows meaning (act later.heap.texts) (record old { frames = fs; left = left }) later → Turns meaning old later
  step_turn old fs f left act p er eo ep el ea later k = record {
    turned = by_step (record {
      stays = stays_after old later fs left k.keeps.stays;
      steps = suc k.keeps.cost;
      some = omega arith;
      left = el ∙ ap suc k.keeps.left ∙ sym (one_more k.keeps.cost later.left);
      kept = λ v a h n.
          let t = later.heap.texts in
          let st = state_in meaning t v old in
          let m = k.keeps.cost + n in
          ap (rest meaning t v old) (one_more k.keeps.cost n)
          ∙ ap (seen (tells meaning old)) (rest_taken t old fs f (moment_in t p) st (suc m) er eo (ap (moment_in t) ep) ∙ ap (λ d. rest_with (run_in meaning t old) d (each (frame_in t) fs) st (suc m)) (ea t))
          ∙ k.keeps.kept v a h n;
      paid = paid;
      knows = k.keeps.knows;
      alive = k.keeps.alive;
    });
    sound = k.sound;
  }
    where
      paid : (v : Outside) → Admits meaning later v → Knows meaning old v → (m : ℕ) → m < suc k.keeps.cost → (rest meaning later.heap.texts v old m).0 ≡ StepsSpent
      paid v a h zero l =
          let t = later.heap.texts in
          let st = state_in meaning t v old in
          seen_ending (tells meaning old) (rest_by t old.state (run_in meaning t old) (frames_in meaning t old) st 0)
          ∙ ap (λ (r : Ending × St). r.0) (rest_taken t old fs f (moment_in t p) st 0 er eo (ap (moment_in t) ep) ∙ ap (λ d. rest_with (run_in meaning t old) d (each (frame_in t) fs) st 0) (ea t))
      paid v a h (suc m) l =
          let t = later.heap.texts in
          let st = state_in meaning t v old in
          seen_ending (tells meaning old) (rest_by t old.state (run_in meaning t old) (frames_in meaning t old) st (suc m))
          ∙ ap (λ (r : Ending × St). r.0) (rest_taken t old fs f (moment_in t p) st (suc m) er eo (ap (moment_in t) ep) ∙ ap (λ d. rest_with (run_in meaning t old) d (each (frame_in t) fs) st (suc m)) (ea t))
          ∙ k.keeps.paid v a h m (under_more m k.keeps.cost l)

  takes_step : (old : Config S) (fs : List NumberedFrame) (f : NumberedFrame) (left : ℕ) (line : Table → Env → Act) (p : Phase) → old.state ≡ states.Running
      → Base meaning old → old.frames ≡ fs ++ record f { phase = p } ∷ [] → old.left ≡ suc left
      → ((t : Table) → act_at (run_in meaning t old) (frame_in t (record f { phase = p })) (moment_in t p) ≡ Tick (line t (env_in meaning old t f)))
      → TakesOff meaning f p line old (record old { frames = fs; left = left })
  takes_step old fs f left line p er b eo el ea =
      let top : NumberedFrame = record f { phase = p } in
      record {
        taken = ap last eo ∙ last-snoc fs top;
        runs = record {
          running = record { state = er; base = taken_base old fs top left b eo };
          there = there_off meaning (record old { frames = fs; left = left }) f p (taken_there old fs top left b eo);
        };
        by = λ later r k. on_ok_weaker r (λ h. step_turn old fs top left (λ t. line t (env_in meaning old t f)) p er eo refl el ea later h) k;
      }

  takes_due : (old : Config S) (fs : List NumberedFrame) (f : NumberedFrame) (start : Start) (left : ℕ) → old.state ≡ states.Running → Base meaning old
      → old.frames ≡ fs ++ record f { phase = phases.Due start } ∷ [] → old.left ≡ suc left
      → TakesOff meaning f (phases.Due start) (begins_at meaning (record old { frames = fs; left = left }) f start) old (record old { frames = fs; left = left })
  takes_due old fs f start left er b eo el = takes_step old fs f left _ (phases.Due start) er b eo el (λ t. ap Tick (begin_then meaning t old f start))

  takes_operand : (old : Config S) (fs : List NumberedFrame) (f : NumberedFrame) (point : Point) (o : Operand) (left : ℕ) → old.state ≡ states.Running
      → Base meaning old → old.frames ≡ fs ++ record f { phase = phases.Entering point o } ∷ [] → old.left ≡ suc left
      → TakesOff meaning f (phases.Entering point o) (λ t env. with_operand (operand_in t o) env (then_at meaning (record old { frames = fs; left = left }) f point t env)) old (record old { frames = fs; left = left })
  takes_operand old fs f point o left er b eo el = takes_step old fs f left _ (phases.Entering point o) er b eo el (λ t. ap (λ k. Tick (with_operand (operand_in t o) (env_in meaning old t f) k)) (given_then meaning t old f point))

  -- a step is due and none is left
  stops_turned : (old : Config S) → old.state ≡ states.Running → old.left ≡ 0 → is_due (option_map (λ (q : NumberedFrame). q.phase) (last old.frames)) ≡ true
      → Turned meaning old (record old { state = states.StepsSpent })
  stops_turned old er el h = stopped (record {
    left = el;
    same = refl;
    due = λ v.
        let t = old.heap.texts in
        let st = state_in meaning t v old in
        let run = run_in meaning t old in
        ap (seen (tells meaning old)) (
        ap (λ s. rest_by t s run (frames_in meaning t old) st 0) er
        ∙ ap (λ o. run_next (rest_top run (front (frames_in meaning t old)) o st 0) (λ st' n'. (Done, st'))) (last_each (frame_in t) old.frames)
        ∙ rest_due t run (front (frames_in meaning t old)) (last old.frames) st h)
        ∙ seen_spent v.texts (meaning old.heap.store).told StepsSpent st.full st.arena st.out;
  })

  pub stops : (old : Config S) → old.state ≡ states.Running → Base meaning old → old.left ≡ 0
      → is_due (option_map (λ (q : NumberedFrame). q.phase) (last old.frames)) ≡ true → Turns meaning old (record old { state = states.StepsSpent })
  stops old er b el h = record {
    turned = stops_turned old er el h;
    sound = record { base = base_framed meaning old old.frames old.left states.StepsSpent b b.frames; thrown = tt; running = λ e. absurd (cc) };
  }

  rest_empty : (t : Table) (old : Config S) (st : St) (n : ℕ) → old.state ≡ states.Running → old.frames ≡ []
      → rest_by t old.state (run_in meaning t old) (frames_in meaning t old) st n ≡ (Done, st)
  rest_empty t old st n er eo = ap (λ s. rest_by t s (run_in meaning t old) (frames_in meaning t old) st n) er ∙ ap (λ l. rest_of (run_in meaning t old) (each (frame_in t) l) st n) eo

  turns_empty : (t : Table) (old : Config S) (st : St) → old.state ≡ states.Running → old.frames ≡ []
      → turns_by old.state (run_in meaning t old) (frames_in meaning t old) st ≡ 1
  turns_empty t old st er eo = ap (λ s. turns_by s (run_in meaning t old) (frames_in meaning t old) st) er ∙ ap (λ l. turns_of (run_in meaning t old) (each (frame_in t) l) st) eo

  -- no frame is left
  pub ends_empty : (old : Config S) (frames : List NumberedFrame) → old.state ≡ states.Running → Base meaning old → old.frames ≡ [] → frames ≡ []
      → Turns meaning old (record old { frames = frames; state = states.Done })
  ends_empty old frames er b eo ef = record {
    turned = quietly (record {
      stays = stays_framed meaning old frames states.Done;
      left = refl;
      kept = λ v a h n. ap (seen (tells meaning old)) (rest_empty old.heap.texts old (state_in meaning old.heap.texts v old) n er eo);
      knows = λ v a h. h;
      falls = λ v a h. falls_below 0 1 _ (turns_empty old.heap.texts old (state_in meaning old.heap.texts v old) er eo) (omega arith);
      alive = λ e. cc;
    });
    sound = record {
      base = base_framed meaning old frames old.left states.Done b (All-same (IsStacked meaning old) frames [] ef (All-nil (IsStacked meaning old)));
      thrown = tt;
      running = λ e. absurd (cc);
    };
  }

  -- the frame that was on top goes on as its phase says, without a step
  takes_quiet : (old : Config S) (fs : List NumberedFrame) (f : NumberedFrame) (p : Phase) → old.state ≡ states.Running → Base meaning old
      → old.frames ≡ fs ++ record f { phase = p } ∷ [] → is_due (Some p) ≡ false → TakesPhase meaning old f p (record old { frames = fs })
  takes_quiet old fs f (phases.Ready start) er b eo d = (takes_ready old fs f start er b eo, taken_phase old fs f old.left (phases.Ready start) b eo)
  takes_quiet old fs f (phases.Waiting point) er b eo d = (takes_waiting old fs f point er b eo, taken_phase old fs f old.left (phases.Waiting point) b eo)
  takes_quiet old fs f (phases.Given point c) er b eo d = (takes_given old fs f point c er b eo, taken_phase old fs f old.left (phases.Given point c) b eo)
  takes_quiet old fs f (phases.Due start) er b eo d = absurd (cc)
  takes_quiet old fs f (phases.Entering point o) er b eo d = absurd (cc)

  -- or with one
  takes_stepped : (old : Config S) (fs : List NumberedFrame) (f : NumberedFrame) (p : Phase) (left : ℕ) → old.state ≡ states.Running → Base meaning old
      → old.frames ≡ fs ++ record f { phase = p } ∷ [] → is_due (Some p) ≡ true → old.left ≡ suc left → TakesPhase meaning old f p (record old { frames = fs; left = left })
  takes_stepped old fs f (phases.Due start) left er b eo d el = (takes_due old fs f start left er b eo el, taken_phase old fs f left (phases.Due start) b eo)
  takes_stepped old fs f (phases.Entering point o) left er b eo d el = (takes_operand old fs f point o left er b eo el, taken_phase old fs f left (phases.Entering point o) b eo)
  takes_stepped old fs f (phases.Ready start) left er b eo d el = absurd (cc)
  takes_stepped old fs f (phases.Waiting point) left er b eo d el = absurd (cc)
  takes_stepped old fs f (phases.Given point c) left er b eo d el = absurd (cc)

  -- one whose step is due is there
  pub takes_if_due : (old : Config S) (top : Option (NumberedFrame × Phase)) (fs : List NumberedFrame) (left : ℕ) → old.state ≡ states.Running → Base meaning old
      → Pops old.frames (option_map with_phase top) fs → is_due (option_map (λ (q : NumberedFrame). q.phase) (last old.frames)) ≡ true → old.left ≡ suc left
      → Takes meaning old top (record old { frames = fs; left = left })
  takes_if_due old None fs left er b eo d el = absurd (none_due old.frames eo.0 d)
  takes_if_due old (Some top) fs left er b eo d el = takes_stepped old fs top.0 top.1 left er b eo (sym (due_top old.frames fs (with_phase top) eo) ∙ d) el

  pub takes_not_due : (old : Config S) (top : NumberedFrame × Phase) (fs : List NumberedFrame) → old.state ≡ states.Running → Base meaning old
      → old.frames ≡ fs ++ with_phase top ∷ [] → is_due (option_map (λ (q : NumberedFrame). q.phase) (last old.frames)) ≡ false
      → Takes meaning old (Some top) (record old { frames = fs })
  takes_not_due old top fs er b eo d = takes_quiet old fs top.0 top.1 er b eo (sym (due_top old.frames fs (with_phase top) eo) ∙ d)

  -- as its phase says
  pub takes_with : (old new : Config S) (f : NumberedFrame) (p q : Phase) → q ≡ p → Takes meaning old (Some (f, q)) new → TakesPhase meaning old f p new
  takes_with old new f p q is h = subst (λ x. TakesPhase meaning old f x new) is h
