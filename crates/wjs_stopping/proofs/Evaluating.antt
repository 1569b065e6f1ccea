-- Evaluations that end or stop, composed.
use Rattle.std.proofs.Common.{◌≡◌, ℕ, ◌≤◌, List, [], ◌∷◌, ◌++◌, refl, sym, ap, ◌∙◌, subst, arith}
use Rattle.std.specs.Prelude.{Option, None, Some, Result, Ok, Err, OnOk, All, map as each}
use Rattle.std.proofs.lemmas.List.Elements.{All-append}
use Rattle.wjs_base.specs.declared.ids.OutOfMemory.{OutOfMemory}
use Rattle.wjs_base.specs.Text.{Table, Grows}
use Rattle.wjs_by_content.specs.Values.{Value}
use Rattle.wjs_by_content.specs.Tables.{value_in}
use Rattle.wjs_store.specs.Meaning.{Meaning}
use Rattle.wjs_meaning.specs.Deeds.{St, Env, Goal, Completion, Act, Ret, Throws, Eval, Sub, Outcome, Ends, Spent, interp, then_do}
use Rattle.wjs_meaning.specs.Programs.{eval, entry}
use Rattle.wjs_model.specs.declared.config.Config.{Config}
use Rattle.wjs_model.specs.declared.config.State.TheVariants as states
use Rattle.wjs_model.specs.declared.frame.Phase.{Phase}
use Rattle.wjs_model.specs.declared.frame.Phase.TheVariants as phases
use Rattle.wjs_model.specs.declared.point.Point.{Point}
use Rattle.wjs_model.specs.declared.frame.Activation.{Activation as Frame}
use Rattle.wjs_model.specs.declared.frame.Completion.{Completion as Said}
use Rattle.wjs_model.specs.Begun.{with_phase}
use Rattle.wjs_model.specs.Contents.{frame_in, completion_in}
use Rattle.wjs_model.specs.Configurations.{run_in}
use Rattle.wjs_model.specs.Soundness.{IsStacked, Base}
use Rattle.wjs_frames.specs.declared.part.Part.{Part}
use Rattle.wjs_frames.specs.declared.part.Part.TheVariants as part
use Rattle.wjs_frames.specs.Following.{Follows}
use Rattle.wjs_frames.specs.Parts.{goal_of, start_of, node_of, env_in, then_at, due_frame}
use Rattle.wjs_frames.specs.Shortening.{Shortens}
use Rattle.wjs_frames.proofs.Entering.{given_then}
use Rattle.wjs_frames.proofs.Paying.{step_paid}
use Rattle.wjs_frames.proofs.Shorter.{follows_shorter, shorten_ended}
use Rattle.wjs_frames.proofs.Sounding.{sound_push}
use Rattle.wjs_stopping.specs.declared.ends.Broken.{Broken}
use Rattle.wjs_stopping.specs.declared.ends.Broken.TheVariants as ends
use Rattle.wjs_stopping.specs.Stopping.{stopped_then}
use Rattle.wjs_stopping.specs.Waiting.{at_node, waiting_at, StopsAt}
use Rattle.wjs_stopping.specs.Evaluating.{InMemory, HasMemory, Leaves, Evaluates, stops_in, rest_in, part_then}
use Rattle.wjs_stopping.specs.Composing.{DueStops, GivenStops, PartWaits, PartGoesOn, LineEnds, EntryIsPaid, FormIsNested, FormIsLine, StopsFollow}
use Rattle.wjs_stopping.proofs.Stopping.{keeps_stopped}

pub then_twice : (o : Outcome) (one two : Completion → St → ℕ → Outcome) → then_do (then_do o one) two ≡ then_do o (λ c st n. then_do (one c st n) two)
then_twice (Ends c st n) one two = refl
then_twice (Spent st) one two = refl

then_ends : (o : Outcome) → then_do o (λ c st n. Ends c st n) ≡ o
then_ends (Ends c st n) = refl
then_ends (Spent st) = refl

then_same : (o : Outcome) (one two : Completion → St → ℕ → Outcome) → ((c : Completion) (st : St) (n : ℕ) → one c st n ≡ two c st n) → then_do o one ≡ then_do o two
then_same (Ends c st n) one two h = h c st n
then_same (Spent st) one two h = refl

pub same_below : (x : ℕ) → x ≤ x
same_below x = omega arith

pub none_below : (n : ℕ) → 0 ≤ n
none_below n = omega arith

shorten_nested : (goal : Goal) (env : Env) (next go : Completion → Act) → Shortens (Sub (Eval goal env next) go) (Eval goal env (λ c. Sub (next c) go))
shorten_nested goal env next go = record { same = λ st n. then_twice (eval goal env st n) _ _; fewer = λ st k. none_below _ }

shorten_line : (goal : Goal) (env : Env) (next : Completion → Act) → Shortens (Eval goal env next) (Eval goal env (λ c. Sub (next c) Ret))
shorten_line goal env next = record { same = λ st n. sym (then_same (eval goal env st n) _ _ (λ c st' n'. then_ends (interp eval (next c) st' n'))); fewer = λ st k. none_below _ }

shorten_same : (act : Act) → Shortens act act
shorten_same act = record { same = λ st n. refl; fewer = λ st k. same_below _ }

-- under what holds of all but want of memory
pub in_memory : {A : Type 0} {T U : Type 0} (done : Result A Broken) → (T → U) → InMemory done T → InMemory done U
in_memory (Ok v) f x = f x
in_memory (Err (ends.Throws e)) f x = f x
in_memory (Err ends.Stopped) f x = f x
in_memory (Err ends.OutOfMemory) f x = x

-- where memory is there
had : {A : Type 0} {T : Type 0} (done : Result A Broken) → HasMemory done → InMemory done T → T
had (Ok v) h x = x
had (Err (ends.Throws e)) h x = x
had (Err ends.Stopped) h x = x
had (Err ends.OutOfMemory) h x = absurd h

-- deeds, and then a line
abbrev pub within_then : (Table → (Completion → Act) → Act) → (Table → Completion → Act) → Table → (Completion → Act) → Act
within_then deeds next t go = deeds t (λ c. Sub (next t c) go)

on_ok_had : (T U : Type 0) (r : Result (Unit {0}) OutOfMemory) → OnOk r T → (T → OnOk r U) → OnOk r U
on_ok_had T U (Ok u) x f = f x
on_ok_had T U (Err e) x f = x

module _ {S : Type 0} (meaning : S → Meaning) where
  -- ---- one after the other

  pub leaves_all : (one two three : Table → (Completion → Act) → Act) (old mid new : Config S) → Leaves meaning one two old mid → Leaves meaning two three mid new → Leaves meaning one three old new
  leaves_all one two three old mid new l m = record { by = λ go later r h. l.by go later r (m.by go later r h) }

  -- ---- stops

  due_left : (c : Config S) (f : Frame) (p : Part) → Leaves meaning (λ t go. Eval (goal_of p) (env_in meaning c t f) go) (stops_in meaning c [] (due_frame f p)) c c
  due_left c f (part.Expr e) = record { by = λ go later r h. h }
  due_left c f (part.Target e) = record { by = λ go later r h. h }
  due_left c f (part.Stmt s) = record { by = λ go later r h. h }
  due_left c f (part.Again s) = record { by = λ go later r h. h }

  given_left : (c : Config S) (f : Frame) (point : Point) (e : Said)
      → Leaves meaning (λ t go. Sub (then_at meaning c f point t (env_in meaning c t f) (completion_in t e)) go) (stops_in meaning c [] (record f { phase = phases.Given point e })) c c
  given_left c f point e = record {
    by = λ go later r h.
        let t = later.heap.texts in
        subst (λ (k : Completion → Act). OnOk r (Follows meaning (Sub (k (completion_in t e)) go) c later)) (given_then meaning t c f point) h;
  }

  pub stopped_left : {A : Type 0} (said : Table → A → Completion) (deeds : Table → (Completion → Act) → Act) (c : Config S) (f : Frame) (phase : Phase) (end : Broken) (waits : List Frame) (top : Option (Frame × Phase))
      → Leaves meaning deeds (stops_in meaning c [] (with_phase (f, phase))) c c → StopsAt f phase end waits top → Evaluates meaning deeds said (Err end) waits top c c
  stopped_left said deeds c f phase ends.Stopped waits top l s =
      subst (λ (w : List Frame). Leaves meaning deeds (rest_in meaning c w top) c c) (sym s.0) (subst (λ (p : Option (Frame × Phase)). Leaves meaning deeds (rest_in meaning c [] p) c c) (sym s.1) l)
  stopped_left said deeds c f phase (ends.Throws v) waits top l s = absurd s
  stopped_left said deeds c f phase ends.OutOfMemory waits top l s = s

  pub due_stops : {A : Type 0} (said : Table → A → Completion) → DueStops meaning said
  due_stops said c f p end waits top s = stopped_left said _ c (at_node f (node_of p) []) (phases.Due (start_of p)) end waits top (due_left c f p) s

  pub given_stops : {A : Type 0} (said : Table → A → Completion) → GivenStops meaning said
  given_stops said c f point e end waits top s = stopped_left said _ c f (phases.Given point e) end waits top (given_left c f point e) s

  -- ---- parts, and other deeds before a line

  -- where they stopped
  pub within_waits : (deeds : Table → (Completion → Act) → Act) (old mid : Config S) (waits : List Frame) (top : Option (Frame × Phase)) (f : Frame) (point : Point) → Leaves meaning deeds (rest_in meaning mid waits top) old mid
      → Leaves meaning (within_then deeds (λ t. then_at meaning mid f point t (env_in meaning mid t f))) (rest_in meaning mid (waiting_at f point ∷ waits) top) old mid
  within_waits deeds old mid waits None f point l = record { by = λ go later r h. l.by _ later r h }
  within_waits deeds old mid waits (Some top) f point l = record {
    by = λ go later r h.
        let t = later.heap.texts in
        let next = then_at meaning mid f point t (env_in meaning mid t f) in
        l.by (λ c. Sub (next c) go) later r
        (subst (λ (k : Completion → Act). OnOk r (Follows meaning (stopped_then (run_in meaning t mid) (each (frame_in t) waits) (frame_in t (with_phase top)) (λ c. Sub (k c) go)) mid later)) (given_then meaning t mid f point) h);
  }

  -- where they threw
  pub within_thrown : (deeds : Table → (Completion → Act) → Act) (next : Table → Completion → Act) (error : Table → Value) (old mid : Config S) → ((t : Table) → next t (Throws (error t)) ≡ Ret (Throws (error t)))
      → Leaves meaning deeds (λ t go. go (Throws (error t))) old mid → Leaves meaning (within_then deeds next) (λ t go. go (Throws (error t))) old mid
  within_thrown deeds next error old mid e l = record {
    by = λ go later r h.
        let t = later.heap.texts in
        l.by (λ c. Sub (next t c) go) later r
        (follows_shorter meaning _ _ mid later r (shorten_ended (next t (Throws (error t))) (Throws (error t)) go (subst (λ (a : Act). Shortens a (Ret (Throws (error t)))) (sym (e t)) (shorten_same _))) h);
  }

  pub part_waits : {A B : Type 0} (told : Table → A → Completion) (said : Table → B → Completion) → PartWaits meaning told said
  part_waits told said goal env old mid f point ends.Stopped waits top ends.Stopped waits' top' et l w =
      let deeds = part_then meaning goal env (λ t. then_at meaning mid f point t (env_in meaning mid t f)) in
      subst (λ (x : List Frame). Leaves meaning deeds (rest_in meaning mid x top') old mid) (sym w.0)
      (subst (λ (p : Option (Frame × Phase)). Leaves meaning deeds (rest_in meaning mid (waiting_at f point ∷ waits) p) old mid) (sym w.1) (within_waits (λ t go. Eval goal (env t) go) old mid waits top f point l))
  part_waits told said goal env old mid f point ends.Stopped waits top (ends.Throws v) waits' top' et l w = absurd w
  part_waits told said goal env old mid f point ends.Stopped waits top ends.OutOfMemory waits' top' et l w = w
  part_waits told said goal env old mid f point (ends.Throws v) waits top end' waits' top' et l w =
      let next : Table → Completion → Act = λ t. then_at meaning mid f point t (env_in meaning mid t f) in
      subst (λ (x : Broken). Evaluates meaning (part_then meaning goal env next) said (Err x) waits' top' old mid) (sym w.0)
      (within_thrown (λ t go. Eval goal (env t) go) next (λ t. value_in t v) old mid (λ t. et t (value_in t v)) l)
  part_waits told said goal env old mid f point ends.OutOfMemory waits top end' waits' top' et l w =
      let next : Table → Completion → Act = λ t. then_at meaning mid f point t (env_in meaning mid t f) in
      subst (λ (x : Broken). Evaluates meaning (part_then meaning goal env next) said (Err x) waits' top' old mid) (sym w) l

  pub part_goes_on : {A B : Type 0} (told : Table → A → Completion) (said : Table → B → Completion) → PartGoesOn meaning told said
  part_goes_on told said goal env next v done w p waits top old mid new l m =
      in_memory done (λ m'. record { by = λ go later r h. l.by (λ c. Sub (next later.heap.texts c) go) later r (m'.by go later r h) }) m

  ended_by : (c later : Config S) (act : Act) (e : Completion) (go : Completion → Act) (r : Result (Unit {0}) OutOfMemory) → (Grows c.heap.texts later.heap.texts → Shortens act (Ret e))
      → OnOk r (Follows meaning (go e) c later) → OnOk r (Follows meaning (Sub act go) c later)
  ended_by c later act e go (Ok u) s h = follows_shorter meaning _ _ c later (Ok u) (shorten_ended act e go (s h.keeps.stays.texts)) h
  ended_by c later act e go (Err x) s h = h

  pub line_ends : {A : Type 0} (said : Table → A → Completion) → LineEnds meaning said
  line_ends said act v w p c s = record { by = λ go later r h. ended_by c later (act later.heap.texts) (said later.heap.texts v) go r (s later.heap.texts) h }

  -- ---- entries

  pub entry_is_paid : {A : Type 0} (said : Table → A → Completion) → EntryIsPaid meaning said
  entry_is_paid said goal env done waits top old new left e l =
      in_memory done (λ l'. record {
        by = λ go later r h. step_paid meaning goal (env later.heap.texts) go (Sub (entry goal (env later.heap.texts)) go) old later left r e (λ st n. refl) (l'.by go later r h);
      }) l

  pub form_is_nested : {A : Type 0} (said : Table → A → Completion) → FormIsNested meaning said
  form_is_nested said goal env next done waits top old new l =
      in_memory done (λ l'. record {
        by = λ go later r h. follows_shorter meaning _ _ old later r (shorten_nested goal (env later.heap.texts) (next later.heap.texts) go) (l'.by go later r h);
      }) l

  pub form_is_line : {A : Type 0} (said : Table → A → Completion) → FormIsLine meaning said
  form_is_line said goal env next done waits top old mid new r l m h =
      on_ok_had (HasMemory done) _ r m (λ hm. follows_shorter meaning _ _ old new r (shorten_line goal (env new.heap.texts) (next new.heap.texts)) ((had done hm l).by Ret new r h))

  -- ---- on the others

  pub stops_follow : StopsFollow meaning
  stops_follow old waits top frames er b hs h ef = record {
    keeps = keeps_stopped meaning old.heap.texts old waits top frames er ef;
    sound = sound_push meaning old frames (old.frames ++ waits) top er b (All-append (IsStacked meaning old) old.frames waits b.frames hs) h ef;
  }

  -- in the code's own two steps
  pub settled : (old mid : Config S) (waits : List Frame) (top : Frame) (frames : List Frame) → old.state ≡ states.Running → Base meaning old → All (IsStacked meaning old) waits → IsStacked meaning old top
      → mid ≡ record old { frames = old.frames ++ waits } → frames ≡ mid.frames ++ top ∷ [] → Follows meaning (stops_in meaning old waits top mid.heap.texts Ret) old (record mid { frames = frames })
  settled old mid waits top frames er b hs h e ef =
      subst (λ (x : Config S). Follows meaning (stops_in meaning old waits top x.heap.texts Ret) old (record x { frames = frames })) (sym e)
      (stops_follow old waits top frames er b hs h (ef ∙ ap (λ (x : Config S). x.frames ++ top ∷ []) e))
