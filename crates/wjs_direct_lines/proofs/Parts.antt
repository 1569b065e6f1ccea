-- What the clauses of a form ask for, by the way that it takes: a part that broke off, a node that stops, a step that is taken, a line.
use Rattle.std.proofs.Common.{◌≡◌, ◌-◌, ◌<◌, List, [], inl, inr, refl, sym, subst}
use Rattle.std.specs.Prelude.{Option, None, Some, Result, Ok, Err}
use Rattle.wjs_base.specs.declared.ids.NodeId.{NodeId}
use Rattle.wjs_base.specs.Text.{Table, Grows}
use Rattle.wjs_base.specs.declared.values.Value.{Value as Numbered}
use Rattle.wjs_by_content.specs.Tables.{value_in}
use Rattle.wjs_by_content.specs.Values.{Value}
use Rattle.wjs_store.specs.Meaning.{Meaning}
use Rattle.wjs_tree.specs.declared.node.Node.TheVariants as nodes
use Rattle.wjs_meaning.specs.Deeds.{Env, Goal, Completion, Act, Ret, Throws, Eval, Sub}
use Rattle.wjs_model.specs.declared.config.Config.{Config}
use Rattle.wjs_model.specs.declared.frame.Activation.{Activation as Frame}
use Rattle.wjs_model.specs.declared.frame.Completion.{Completion as Said}
use Rattle.wjs_model.specs.declared.frame.Held.{Held}
use Rattle.wjs_model.specs.declared.frame.Phase.{Phase}
use Rattle.wjs_model.specs.declared.frame.Phase.TheVariants as phases
use Rattle.wjs_model.specs.declared.point.Point.{Point}
use Rattle.wjs_model.specs.Contents.{completion_in}
use Rattle.wjs_model.specs.Soundness.{Base, HasItems, HasPhase, HasPoint, IsThere, StandsHere}
use Rattle.wjs_model.specs.Standing.{IfStands}
use Rattle.wjs_frames.specs.declared.part.Part.{Part}
use Rattle.wjs_frames.specs.declared.part.Part.TheVariants as part
use Rattle.wjs_frames.specs.Doing.{Does}
use Rattle.wjs_frames.specs.Following.{Later}
use Rattle.wjs_frames.specs.Parts.{goal_of, start_of, node_of, env_in, node_among, then_at}
use Rattle.wjs_frames.specs.Shortening.{Shortens}
use Rattle.wjs_frames.proofs.Parting.{point_later, stands_here, stands_later}
use Rattle.wjs_frames.proofs.Shorter.{follows_shorter, shorten_ended, shorten_sub}
use Rattle.wjs_heap_steps.proofs.Later.{later_same, later_twice}
use Rattle.wjs_quick.proofs.Coming.{later_left, one_less, shorten_last}
use Rattle.wjs_effects.proofs.Leaving.{follows_when, shorten_as}
use Rattle.wjs_stopping.specs.declared.ends.Broken.{Broken}
use Rattle.wjs_stopping.specs.declared.ends.Broken.TheVariants as ends
use Rattle.wjs_stopping.specs.Waiting.{at_node, StopsAt, WaitsAt}
use Rattle.wjs_stopping.specs.Evaluating.{Evaluates, HasBroken, InMemory, Leaves, stops_in}
use Rattle.wjs_stopping.proofs.Evaluating.{form_is_nested, given_stops, in_memory, stopped_left}
use Rattle.wjs_direct_lines.specs.Deeds.{goal_here, entry_here, line_here, form_here}
use Rattle.wjs_direct_lines.proofs.Forming.{due_here, form_goes_on, line_ended, node_there, step_taken, stops_there, waits_there}
use Rattle.wjs_direct_lines.proofs.Nesting.{within_broke}

-- ---- memory

-- what holds in every case holds in memory
pub in_all : {A : Type 0} {T : Type 0} (done : Result A Broken) → T → InMemory done T
in_all (Ok v) x = x
in_all (Err (ends.Throws e)) x = x
in_all (Err ends.Stopped) x = x
in_all (Err ends.OutOfMemory) x = tt

-- where memory didn't run out behind a part that broke off, it hadn't before
module _ (A B T : Type 0) where
  still_memory : (f : Frame) (point : Point) (end : Broken) (waits : List Frame) (top : Option (Frame × Phase)) (end' : Broken) (waits' : List Frame) (top' : Option (Frame × Phase))
      → WaitsAt f point end waits top end' waits' top' → InMemory {A = A} (Err end) T → InMemory {A = B} (Err end') T
  still_memory f point ends.Stopped waits top ends.Stopped waits' top' w h = h
  still_memory f point ends.Stopped waits top (ends.Throws v) waits' top' w h = absurd w
  still_memory f point ends.Stopped waits top ends.OutOfMemory waits' top' w h = tt
  still_memory f point (ends.Throws v) waits top end' waits' top' w h = subst (λ (x : Broken). InMemory {A = B} (Err x) T) (sym w.0) h
  still_memory f point ends.OutOfMemory waits top end' waits' top' w h = subst (λ (x : Broken). InMemory {A = B} (Err x) T) (sym w) tt

module _ {S : Type 0} (meaning : S → Meaning) where
  -- ---- one after the other

  pub later_then : {A : Type 0} (old mid new : Config S) (done : Result A Broken) → Later meaning old mid → InMemory done (Later meaning mid new) → InMemory done (Later meaning old new)
  later_then old mid new done l m = in_memory done (later_twice meaning old mid new l) m

  pub later_stopped : {A : Type 0} (old new : Config S) (done : Result A Broken) → Base meaning old → new ≡ old → InMemory done (Later meaning old new)
  later_stopped old new done b e = in_all done (subst (λ (c : Config S). Later meaning old c) (sym e) (later_same meaning old b))

  -- a step is taken
  pub stepped : (old mid : Config S) → mid ≡ old → Base meaning mid → Later meaning old (record mid { left = mid.left - 1 })
  stepped old mid e b = subst (λ (c : Config S). Later meaning c (record mid { left = mid.left - 1 })) e (later_left meaning mid (mid.left - 1) b)

  -- ---- a node stops

  pub stop_found : (c new : Config S) (f : Frame) (node : NodeId) (held : List Held) (phase : Phase) (end : Broken) (waits : List Frame) (top : Option (Frame × Phase)) → new ≡ c
      → IsThere meaning c f → StandsHere c f node → HasItems c held → HasPhase c (at_node f node held) phase → StopsAt (at_node f node held) phase end waits top → HasBroken meaning new end waits top
  stop_found c new f node held phase end waits top e h n k p s =
      subst (λ (x : Config S). HasBroken meaning x end waits top) (sym e) (stops_there meaning c (at_node f node held) phase end waits top (node_there meaning c f node held h n k) p s)

  -- what its entry does is what a frame does that begins with it
  ready_left : (c : Config S) (f : Frame) (p : Part) → Leaves meaning (entry_here meaning c f (goal_of p)) (stops_in meaning c [] (record (at_node f (node_of p) []) { phase = phases.Ready (start_of p) })) c c
  ready_left c f (part.Expr e) = record { by = λ go later r h. h }
  ready_left c f (part.Target e) = record { by = λ go later r h. h }
  ready_left c f (part.Stmt s) = record { by = λ go later r h. h }
  ready_left c f (part.Again s) = record { by = λ go later r h. h }

  -- the second part of an `if` stands there, if there is one
  pub else_stands : (c : Config S) (f : Frame) (node test one : NodeId) (other : Option NodeId) (k : NodeId) → IsThere meaning c f → StandsHere c f node → node_among c.units.items f.tree node ≡ nodes.If test one other
      → IfStands c.units.items c.heap.arena f.tree k f.scope other
  else_stands c f node test one None k h s e = tt
  else_stands c f node test one (Some x) k h s e = stands_here meaning c (at_node f node []) (nodes.If test one (Some x)) x (node_there meaning c f node [] h s tt) e (inr (inr (inl refl)))

  -- ---- a part broke off, and its node waits, or hands on what was thrown

  module _ (A B : Type 0) (old mid new : Config S) (f : Frame) (node : NodeId) (held : List Held) (point : Point) (end : Broken) (waits : List Frame) (top : Option (Frame × Phase))
      (end' : Broken) (waits' : List Frame) (top' : Option (Frame × Phase)) (same : new ≡ mid) (w : WaitsAt (at_node f node held) point end waits top end' waits' top') where
    pub broke_later : InMemory {A = A} (Err end) (Later meaning old mid) → InMemory {A = B} (Err end') (Later meaning old new)
    broke_later l = subst (λ (c : Config S). InMemory {A = B} (Err end') (Later meaning old c)) (sym same) (still_memory A B (Later meaning old mid) (at_node f node held) point end waits top end' waits' top' w l)

    had_there : (end : Broken) (l : InMemory {A = A} (Err end) (Later meaning old mid)) → HasBroken meaning mid end waits top → WaitsAt (at_node f node held) point end waits top end' waits' top'
        → (Later meaning old mid → IsThere meaning mid (at_node f node held) × HasPoint mid (at_node f node held) point) → HasBroken meaning mid end' waits' top'
    had_there ends.Stopped l b w h = waits_there meaning mid (at_node f node held) point ends.Stopped waits top end' waits' top' (h l).0 (h l).1 b w
    had_there (ends.Throws v) l b w h = waits_there meaning mid (at_node f node held) point (ends.Throws v) waits top end' waits' top' (h l).0 (h l).1 b w
    had_there ends.OutOfMemory l b w h = subst (λ (x : Broken). HasBroken meaning mid x waits' top') (sym w) tt

    pub broke_found : InMemory {A = A} (Err end) (Later meaning old mid) → IsThere meaning old f → StandsHere old f node → HasItems old held → HasPoint old (at_node f node held) point
        → HasBroken meaning mid end waits top → HasBroken meaning new end' waits' top'
    broke_found l h n k p b =
        subst (λ (c : Config S). HasBroken meaning c end' waits' top') (sym same)
        (had_there end l b w (λ later.
        (node_there meaning mid f node held (later.frames f h) (stands_later meaning old f mid node later n) (later.items held k), point_later meaning old (at_node f node held) mid point later p)))

    pub broke_does : (told : Table → A → Completion) (said : Table → B → Completion) (goal : Goal) (next : Table → Env → Completion → Act)
        → (Later meaning old mid → (t : Table) (env : Env) → then_at meaning mid (at_node f node held) point t env ≡ next t env)
        → ((t : Table) (env : Env) (e : Value) → next t env (Throws e) ≡ Ret (Throws e)) → InMemory {A = A} (Err end) (Later meaning old mid)
        → Evaluates meaning (goal_here meaning old f goal) told (Err end) waits top old mid → Evaluates meaning (form_here meaning old f goal next) said (Err end') waits' top' old new
    broke_does told said goal next en et l d =
        subst (λ (c : Config S). Evaluates meaning (form_here meaning old f goal next) said (Err end') waits' top' old c) (sym same)
        (within_broke meaning told said old mid f (goal_here meaning old f goal) next node held point end waits top end' waits' top' en et l d w)

  -- ---- deeds

  module _ {A : Type 0} (said : Table → A → Completion) where
    -- they were done at once
    pub did : (deeds : Table → (Completion → Act) → Act) (v : A) (w : List Frame) (p : Option (Frame × Phase)) (old mid : Config S) → Does meaning deeds (λ t. said t v) old mid → Evaluates meaning deeds said (Ok v) w p old mid
    did deeds v w p old mid d = record { by = λ go later r h. d.by go later r h }

    -- deeds that come to the same in fewer turns, under a table that has grown
    pub shortened : (long short : Table → (Completion → Act) → Act) (done : Result A Broken) (w : List Frame) (p : Option (Frame × Phase)) (c new : Config S)
        → ((t : Table) → Grows c.heap.texts t → (go : Completion → Act) → Shortens (long t go) (short t go)) → Evaluates meaning short said done w p c new → Evaluates meaning long said done w p c new
    shortened long short done w p c new s d =
        in_memory done (λ l. record { by = λ go later r h. follows_when meaning c later r (long later.heap.texts go) (short later.heap.texts go) (λ more. s later.heap.texts more go) (l.by go later r h) }) d

    module _ (c new : Config S) (f : Frame) (act : Table → Env → Act) (done : Result A Broken) (w : List Frame) (p : Option (Frame × Phase)) where
      -- a line that is another one
      pub line_as : (other : Table → Env → Act) → ((t : Table) → Grows c.heap.texts t → act t (env_in meaning c t f) ≡ other t (env_in meaning c t f))
          → Evaluates meaning (line_here meaning c f other) said done w p c new → Evaluates meaning (line_here meaning c f act) said done w p c new
      line_as other e d =
          shortened (line_here meaning c f act) (line_here meaning c f other) done w p c new
          (λ t more go. shorten_sub _ _ go (shorten_as _ _ (e t more))) d

      -- one that is a goal
      pub line_last : (goal : Goal) → ((t : Table) → Grows c.heap.texts t → act t (env_in meaning c t f) ≡ Eval goal (env_in meaning c t f) Ret)
          → Evaluates meaning (goal_here meaning c f goal) said done w p c new → Evaluates meaning (line_here meaning c f act) said done w p c new
      line_last goal e d =
          shortened (line_here meaning c f act) (goal_here meaning c f goal) done w p c new
          (λ t more go. subst (λ (x : Act). Shortens (Sub x go) (Eval goal (env_in meaning c t f) go)) (sym (e t more)) (shorten_last goal (env_in meaning c t f) go)) d

      -- one that begins with a part
      pub line_form : (goal : Goal) (next : Table → Env → Completion → Act) → ((t : Table) → Grows c.heap.texts t → act t (env_in meaning c t f) ≡ Eval goal (env_in meaning c t f) (next t (env_in meaning c t f)))
          → Evaluates meaning (form_here meaning c f goal next) said done w p c new → Evaluates meaning (line_here meaning c f act) said done w p c new
      line_form goal next e d =
          line_as (λ t env. Eval goal env (next t env)) e
          (form_is_nested meaning said goal (λ t. env_in meaning c t f) (λ t. next t (env_in meaning c t f)) done w p c new d)

    -- a line that throws
    pub line_threw : (c : Config S) (f : Frame) (act : Table → Env → Act) (e : Numbered) (w : List Frame) (p : Option (Frame × Phase))
        → ((t : Table) (env : Env) → act t env ≡ Ret (Throws (value_in t e))) → Evaluates meaning (line_here meaning c f act) said (Err (ends.Throws e)) w p c c
    line_threw c f act e w p is = record {
      by = λ go later r h.
          let t = later.heap.texts in
          let env = env_in meaning c t f in
          follows_shorter meaning (Sub (act t env) go) (go (Throws (value_in t e))) c later r
          (shorten_ended (act t env) (Throws (value_in t e)) go (shorten_as _ _ (is t env))) h;
    }

    -- ---- a node stops

    module _ (c new : Config S) (f : Frame) (end : Broken) (w : List Frame) (p : Option (Frame × Phase)) (same : new ≡ c) where
      module _ (part : Part) where
        -- at its entry, before its step
        pub due_does : StopsAt (at_node f (node_of part) []) (phases.Due (start_of part)) end w p → Evaluates meaning (goal_here meaning c f (goal_of part)) said (Err end) w p c new
        due_does s = subst (λ (x : Config S). Evaluates meaning (goal_here meaning c f (goal_of part)) said (Err end) w p c x) (sym same) (due_here meaning said c f part end w p s)

        -- behind its step
        pub ready_does : StopsAt (at_node f (node_of part) []) (phases.Ready (start_of part)) end w p → Evaluates meaning (entry_here meaning c f (goal_of part)) said (Err end) w p c new
        ready_does s =
            subst (λ (x : Config S). Evaluates meaning (entry_here meaning c f (goal_of part)) said (Err end) w p c x) (sym same)
            (stopped_left meaning said (entry_here meaning c f (goal_of part)) c (at_node f (node_of part) []) (phases.Ready (start_of part)) end w p (ready_left c f part) s)

      -- with a completion at a point
      pub given_does : (node : NodeId) (held : List Held) (point : Point) (e : Said) → StopsAt (at_node f node held) (phases.Given point e) end w p
          → Evaluates meaning (line_here meaning c f (λ t env. then_at meaning c (at_node f node held) point t env (completion_in t e))) said (Err end) w p c new
      given_does node held point e s =
          subst (λ (x : Config S). Evaluates meaning (line_here meaning c f (λ t env. then_at meaning c (at_node f node held) point t env (completion_in t e))) said (Err end) w p c x) (sym same)
          (given_stops meaning said c (at_node f node held) point e end w p s)

    -- ---- a step is taken, and what follows it is done
    pub step_does : (old mid new : Config S) (f : Frame) (goal : Goal) (done : Result A Broken) (w : List Frame) (p : Option (Frame × Phase)) → mid ≡ old → 0 < mid.left
        → Evaluates meaning (entry_here meaning (record mid { left = mid.left - 1 }) f goal) said done w p (record mid { left = mid.left - 1 }) new → Evaluates meaning (goal_here meaning old f goal) said done w p old new
    step_does old mid new f goal done w p e some d =
        subst (λ (c : Config S). Evaluates meaning (goal_here meaning c f goal) said done w p c new) e
        (step_taken meaning said mid new f goal done w p (mid.left - 1) (one_less mid.left some) d)

  module _ {A B : Type 0} (told : Table → A → Completion) (said : Table → B → Completion) where
    -- a part ended, and so does its form
    pub form_ends : (old mid : Config S) (f : Frame) (goal : Goal) (next : Table → Env → Completion → Act) (v : A) (u : B) (w : List Frame) (p : Option (Frame × Phase)) (w' : List Frame) (p' : Option (Frame × Phase))
        → Later meaning old mid → Evaluates meaning (goal_here meaning old f goal) told (Ok v) w p old mid → ((t : Table) (env : Env) → next t env (told t v) ≡ Ret (said t u))
        → Evaluates meaning (form_here meaning old f goal next) said (Ok u) w' p' old mid
    form_ends old mid f goal next v u w p w' p' l d e =
        form_goes_on meaning told said old mid mid f goal next v (Ok u) w p w' p' l d
        (line_ended meaning said mid f (λ t env. next t env (told t v)) u w' p' (λ t more env. shorten_as _ _ (e t env)))
