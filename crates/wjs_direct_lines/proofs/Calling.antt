-- Calls: their lines from one argument to the next, and the frames that are left where one stops.
use Rattle.std.proofs.Common.{◌≡◌, ℕ, zero, suc, ◌+◌, ◌≤◌, true, false, List, [], ◌∷◌, ◌++◌, inl, inr, Option, None, Some, Vec, Global, refl, sym, ap, ◌∙◌, subst, drop, arith}
use Rattle.std.specs.Prelude.{All, cond, Result, Ok, Err, OnOk, map as each}
use Rattle.std.proofs.lemmas.List.Elements.{All-weaker}
use Rattle.wjs_base.specs.declared.ids.NodeId.{NodeId}
use Rattle.wjs_base.specs.declared.ids.ObjId.{ObjId}
use Rattle.wjs_base.specs.declared.values.Value.{Value as Numbered}
use Rattle.wjs_base.specs.declared.values.Value.TheVariants as values
use Rattle.wjs_base.specs.Text.{Table}
use Rattle.wjs_arena.specs.declared.object.Code.{Code}
use Rattle.wjs_arena.specs.declared.object.Code.TheVariants as code
use Rattle.wjs_store.specs.Meaning.{Meaning}
use Rattle.wjs_tree.specs.declared.node.Node.{Node}
use Rattle.wjs_tree.specs.declared.node.Node.TheVariants as nodes
use Rattle.wjs_scope.specs.Nesting.{Around, parts, IsAmong}
use Rattle.wjs_by_content.specs.Objects.{Arena, object_at, has_code}
use Rattle.wjs_by_content.specs.Tables.{value_in}
use Rattle.wjs_by_content.specs.Values.{Value, Undefined, Object}
use Rattle.wjs_meaning.specs.Calls.{this_or_global, call, call_code, call_found}
use Rattle.wjs_meaning.specs.Deeds.{St, Env, Goal, AtExpr, AtTarget, AtBody, Completion, Act, Ret, Tick, Eval, Sub, Do, Look, interp, then_do, then_value, then_reference, tree_here}
use Rattle.wjs_meaning.specs.Expressions.{expr_of, values_from, call_values, call_callee, call_reference}
use Rattle.wjs_meaning.specs.Functions.{body_of}
use Rattle.wjs_meaning.specs.NewObjects.{to_object}
use Rattle.wjs_meaning.specs.Programs.{eval, entry}
use Rattle.wjs_meaning.specs.Reading.{node_in, numbers}
use Rattle.wjs_meaning.specs.Trees.{is_target}
use Rattle.wjs_meaning.proofs.Steps.{entries_lem}
use Rattle.wjs_model.specs.declared.config.Config.{Config}
use Rattle.wjs_model.specs.declared.frame.Activation.{Activation as Frame}
use Rattle.wjs_model.specs.declared.frame.Phase.{Phase}
use Rattle.wjs_model.specs.declared.frame.Phase.TheVariants as phases
use Rattle.wjs_model.specs.declared.loaded.LoadedProgram.{LoadedProgram as Program}
use Rattle.wjs_model.specs.declared.point.ExprPoint.TheVariants as exprs
use Rattle.wjs_model.specs.declared.point.Point.TheVariants as points
use Rattle.wjs_model.specs.declared.point.Start.{Start}
use Rattle.wjs_model.specs.declared.point.Start.TheVariants as starts
use Rattle.wjs_model.specs.Begun.{with_phase}
use Rattle.wjs_model.specs.Lists.{arguments_of}
use Rattle.wjs_model.specs.Outside.{Sees}
use Rattle.wjs_model.specs.Rest.{call_if, turns_act}
use Rattle.wjs_model.specs.Soundness.{HasObject, HasValue, IsThere, StandsHere}
use Rattle.wjs_frames.specs.Following.{Follows, Later}
use Rattle.wjs_frames.specs.Parts.{env_in, node_among, node_now, begins_at, then_at}
use Rattle.wjs_frames.specs.Shortening.{Shortens}
use Rattle.wjs_frames.proofs.Entering.{begin_then}
use Rattle.wjs_frames.proofs.Frames.{each_snoc}
use Rattle.wjs_frames.proofs.Handling.{env_later}
use Rattle.wjs_frames.proofs.Parting.{among_around, stands_here}
use Rattle.wjs_frames.proofs.Paying.{step_paid}
use Rattle.wjs_frames.proofs.Places.{node_same}
use Rattle.wjs_frames.proofs.Shorter.{follows_look, follows_shorter, shorten_deed}
use Rattle.wjs_quick.proofs.Coming.{shorten_goal, shorten_last}
use Rattle.wjs_effects.specs.Sequences.{NextIs}
use Rattle.wjs_stopping.specs.declared.ends.Broken.{Broken}
use Rattle.wjs_stopping.specs.Ends.{gives_in}
use Rattle.wjs_stopping.specs.Waiting.{at_node, StopsAt, WaitsAt}
use Rattle.wjs_stopping.specs.Evaluating.{InMemory, Leaves, Evaluates, HasBroken, stops_in}
use Rattle.wjs_stopping.proofs.Evaluating.{in_memory, leaves_all, stopped_left}
use Rattle.wjs_direct_lines.specs.Deeds.{IsNode, call_held, entry_here, goal_here, line_here, form_here}
use Rattle.wjs_direct_lines.proofs.Forming.{node_there, stops_there}
use Rattle.wjs_direct_lines.proofs.Parts.{broke_does, shortened}
use Rattle.wjs_direct_lines.proofs.Holdings.{callee_of_call, values_of_call, call_there}

-- ---- lines

-- the values from an argument on
pub values_next : (args : List ℕ) (i : ℕ) (e : NodeId) (vs : List Value) (env : Env) (go : List Value → Act) → NextIs args i (Some e)
    → values_from (drop i args) vs env go ≡ Eval (AtExpr e.0) env (then_value (λ v. values_from (drop (i + 1) args) (vs ++ v ∷ []) env go))
values_next args i e vs env go h = ap (λ l. values_from l vs env go) h

-- behind the last
pub values_end : (args : List ℕ) (i : ℕ) (vs : List Value) (env : Env) (go : List Value → Act) → NextIs args i None → values_from (drop i args) vs env go ≡ go vs
values_end args i vs env go h = ap (λ l. values_from l vs env go) h

-- ---- what is looked up first

-- deeds of a look are those of what it finds, whatever is asked of them
call_by : {X : Type 0} (F : Act → X) (f : ObjId) (this : Value) (vs : List Value) (env : Env) (arena : Arena) (k : Code) → ((go : Arena → Act) → F (Do Look go) ≡ F (go arena)) → (object_at arena f).code ≡ k
    → F (call_found (cond (has_code k) (Some f) None) this vs env) ≡ F (call_code k f this vs env)
call_by F f this vs env arena code.None look e = refl
call_by F f this vs env arena (code.Script tree body) look e = look _ ∙ ap (λ (c : Code). F (call_code c f this vs env)) e
call_by F f this vs env arena (code.Native native) look e = look _ ∙ ap (λ (c : Code). F (call_code c f this vs env)) e

least : (n : ℕ) → n ≤ n
least n = omega arith

-- a call of an object, where a look tells whether it is a function
pub call_looks : (f : ObjId) (this : Value) (vs : List Value) (env : Env) → Shortens (call_values (Object f) this env vs) (call f this vs env)
call_looks f this vs env = record {
  same = λ st n. call_by (λ a. interp eval a st n) f this vs env st.arena (object_at st.arena f).code (λ go. refl) refl;
  fewer = λ st k. subst (λ m. turns_act (call f this vs env) st k ≤ m) (sym (call_by (λ a. turns_act a st k) f this vs env st.arena (object_at st.arena f).code (λ go. refl) refl)) (least _);
}

-- ---- a goal that is due

then_same : (goal : Goal) (env : Env) (go : Completion → Act) (st : St) (n : ℕ) → interp eval (Eval goal env go) st n ≡ interp eval (Sub (Tick (entry goal env)) go) st n
then_same goal env go st n = ap (λ o. then_do o (λ c st' n'. interp eval (go c) st' n')) (entries_lem goal env st n)

pub goal_due : (goal : Goal) (env : Env) (go : Completion → Act) → Shortens (Sub (Eval goal env Ret) go) (Sub (Tick (entry goal env)) go)
goal_due goal env go = record { same = λ st n. (shorten_last goal env go).same st n ∙ then_same goal env go st n; fewer = λ st k. least _ }

-- ---- arguments stand

next_among : (l : List NodeId) (at : ℕ) (s : NodeId) (rest : List ℕ) → drop at (numbers l) ≡ s.0 ∷ rest → IsAmong l s
next_among [] zero s rest h = absurd (cc)
next_among [] (suc k) s rest h = absurd (cc)
next_among (x ∷ l) zero s rest h = let same : s.0 ≡ x.0 = cc in inl (λ i. record { 0 = same i })
next_among (x ∷ l) (suc k) s rest h = inr (next_among l k s rest h)

none_among : (at : ℕ) (s : NodeId) (rest : List ℕ) → drop at [] ≡ s.0 ∷ rest → ⊥
none_among zero s rest k = cc
none_among (suc i) s rest k = cc

argument_parts : (t : Table) (n : Node) (at : ℕ) (s : NodeId) → NextIs (arguments_of (node_in t n)) at (Some s) → IsAmong (parts n) (s, Around)
argument_parts t (nodes.Call f list) at s k = inr (among_around list s (next_among list at s _ k))
argument_parts t (nodes.NewWith f list) at s k = inr (among_around list s (next_among list at s _ k))
argument_parts t n at s k = absurd (none_among at s _ k)

module _ {S : Type 0} (meaning : S → Meaning) where
  pub argument_stands : (c : Config S) (f : Frame) (node : NodeId) (at : ℕ) (s : NodeId) → IsThere meaning c f → StandsHere c f node
      → ((t : Table) → NextIs (arguments_of (node_in t (node_among c.units.items f.tree node))) at (Some s)) → StandsHere c f s
  argument_stands c f node at s there stands next =
      let g = at_node f node [] in
      stands_here meaning c g (node_now meaning c g) s (node_there meaning c f node [] there stands tt) refl (argument_parts c.heap.texts (node_now meaning c g) at s (next c.heap.texts))

  -- values that are there stay
  pub values_later : (old new : Config S) (vs : List Numbered) → Later meaning old new → All (HasValue old) vs → All (HasValue new) vs
  values_later old new vs l h = All-weaker (HasValue old) (HasValue new) l.values vs h

  -- ---- where one stops

  ready_left : (c : Config S) (f : Frame) (start : Start) → Leaves meaning (λ t go. Sub (begins_at meaning c f start t (env_in meaning c t f)) go) (stops_in meaning c [] (with_phase (f, phases.Ready start))) c c
  ready_left c f start = record {
    by = λ go later r h. subst (λ (a : Act). OnOk r (Follows meaning (Sub a go) c later)) (begin_then meaning later.heap.texts c f start) h;
  }

  module _ (c new : Config S) (f : Frame) (node : NodeId) (callee : ObjId) (vs : List Numbered) (end : Broken) (waits : List Frame) (top : Option (Frame × Phase)) (same : new ≡ c) where
    -- a call of an object
    pub call_does : {A : Type 0} (said : Table → A → Completion) (this : Numbered) → StopsAt (at_node f node (call_held (values.Object callee) this vs)) (phases.Ready starts.Call) end waits top
        → Evaluates meaning (line_here meaning c f (λ t env. call callee (value_in t this) (each (value_in t) vs) env)) said (Err end) waits top c new
    call_does said this s =
        let g = at_node f node (call_held (values.Object callee) this vs) in
        let one = callee_of_call (values.Object callee) this vs in
        subst (λ (x : Config S). Evaluates meaning (line_here meaning c f (λ t env. call callee (value_in t this) (each (value_in t) vs) env)) said (Err end) waits top c x) (sym same)
        (subst (λ (act : Table → Env → Act). Evaluates meaning (line_here meaning c f act) said (Err end) waits top c c)
        (λ i t env. call_if (value_in t (one i).0) (value_in t (one i).1) (values_of_call (values.Object callee) this vs t i) env)
        (stopped_left meaning said (λ t go. Sub (begins_at meaning c g starts.Call t (env_in meaning c t g)) go) c g (phases.Ready starts.Call) end waits top (ready_left c g starts.Call) s))

    module _ (this : ObjId) where
      -- a function's body, before its step
      abbrev body_frame : Frame
      body_frame = record (at_node f node (call_held (values.Object callee) (values.Object this) vs)) { this = values.Object this }

      abbrev body_line : Table → Env → Act
      body_line t env = Eval (AtBody callee (each (value_in t) vs)) (record env { this = Object this }) Ret

      body_left : Leaves meaning (line_here meaning c f body_line) (stops_in meaning c [] (with_phase (body_frame, phases.Due (starts.Body callee)))) c c
      body_left = record {
        by = λ go later r h.
            let t = later.heap.texts in
            let env = record (env_in meaning c t f) { this = Object this } in
            let goal = AtBody callee (each (value_in t) vs) in
            follows_shorter meaning (Sub (Eval goal env Ret) go) (Sub (Tick (entry goal env)) go) c later r (goal_due goal env go)
            (subst (λ (a : Act). OnOk r (Follows meaning (Sub (Tick a) go) c later))
            (begin_then meaning t c body_frame (starts.Body callee) ∙ ap (λ l. body_of callee l env) (values_of_call (values.Object callee) (values.Object this) vs t)) h);
      }

      pub body_does : {A : Type 0} (said : Table → A → Completion) → StopsAt body_frame (phases.Due (starts.Body callee)) end waits top → Evaluates meaning (line_here meaning c f body_line) said (Err end) waits top c new
      body_does said s =
          subst (λ (x : Config S). Evaluates meaning (line_here meaning c f body_line) said (Err end) waits top c x) (sym same)
          (stopped_left meaning said (line_here meaning c f body_line) c body_frame (phases.Due (starts.Body callee)) end waits top body_left s)

      pub body_found : IsThere meaning c f → StandsHere c f node → HasObject c callee → HasObject c this → All (HasValue c) vs → StopsAt body_frame (phases.Due (starts.Body callee)) end waits top → HasBroken meaning new end waits top
      body_found h n o i k s =
          let g = node_there meaning c f node (call_held (values.Object callee) (values.Object this) vs) h n (call_there c (values.Object callee) (values.Object this) vs o i k) in
          subst (λ (x : Config S). HasBroken meaning x end waits top) (sym same)
          (stops_there meaning c body_frame (phases.Due (starts.Body callee)) end waits top
          (record { scope = g.scope; this = i; world = g.world; held = g.held; stands = record { node = g.stands.node; shown = g.stands.shown } }) o s)

  -- the step of a function's body is paid
  pub body_paid : {A : Type 0} (said : Table → A → Completion) (c new : Config S) (f : Frame) (callee this : ObjId) (vs : List Numbered) (done : Result A Broken) (waits : List Frame) (top : Option (Frame × Phase)) (left : ℕ) → c.left ≡ suc left
      → Evaluates meaning (line_here meaning (record c { left = left }) f (λ t env. body_of callee (each (value_in t) vs) (record env { this = Object this }))) said done waits top (record c { left = left }) new
      → Evaluates meaning (line_here meaning c f (λ t env. Eval (AtBody callee (each (value_in t) vs)) (record env { this = Object this }) Ret)) said done waits top c new
  body_paid said c new f callee this vs done waits top left e d =
      in_memory done (λ d'. record {
        by = λ go later r h.
            let t = later.heap.texts in
            let goal = AtBody callee (each (value_in t) vs) in
            let env = record (env_in meaning c t f) { this = Object this } in
            follows_shorter meaning (Sub (Eval goal env Ret) go) (Eval goal env go) c later r (shorten_last goal env go)
            (step_paid meaning goal env go (Sub (entry goal env) go) c later left r e (λ st n. refl) (d'.by go later r h));
      }) d

  -- ---- the callee

  module _ (c : Config S) (f : Frame) (node callee : NodeId) (args : List NodeId) (is : IsNode meaning c f node (nodes.Call callee args)) where
    pub callee_stands : IsThere meaning c f → StandsHere c f node → StandsHere c f callee
    callee_stands there stands = stands_here meaning c (at_node f node []) (nodes.Call callee args) callee (node_there meaning c f node [] there stands tt) is (inl refl)

    -- a call whose callee is a target
    call_entry : (t : Table) → is_target (tree_here (env_in meaning c t f)) callee.0 ≡ true
        → entry (AtExpr node.0) (env_in meaning c t f) ≡ Eval (AtTarget callee.0) (env_in meaning c t f) (then_reference (call_reference (arguments_of (node_in t (node_among c.units.items f.tree node))) (env_in meaning c t f)))
    call_entry t target =
        let env = env_in meaning c t f in
        let next : List ℕ → Completion → Act = λ l. then_reference (call_reference l env) in
        ap (λ n. expr_of node.0 n env) (node_same t c.units.items f.tree node ∙ ap (node_in t) is)
        ∙ ap (λ b. elim b [ true ↦ Eval (AtTarget callee.0) env (next (numbers args)) | false ↦ Eval (AtExpr callee.0) env (then_value (call_callee (numbers args) Undefined env)) ]) target
        ∙ sym (ap (λ n. Eval (AtTarget callee.0) env (next (arguments_of (node_in t n)))) is)

    pub call_entered : {A : Type 0} (said : Table → A → Completion) (done : Result A Broken) (waits : List Frame) (top : Option (Frame × Phase)) (new : Config S) → ((t : Table) → is_target (tree_here (env_in meaning c t f)) callee.0 ≡ true)
        → Evaluates meaning (form_here meaning c f (AtTarget callee.0) (λ t env. then_reference (call_reference (arguments_of (node_in t (node_among c.units.items f.tree node))) env))) said done waits top c new
        → Evaluates meaning (entry_here meaning c f (AtExpr node.0)) said done waits top c new
    call_entered said done waits top new target d =
        let line : Table → Env → Completion → Act = λ t env. then_reference (call_reference (arguments_of (node_in t (node_among c.units.items f.tree node))) env) in
        shortened meaning said (entry_here meaning c f (AtExpr node.0)) (form_here meaning c f (AtTarget callee.0) line) done waits top c new
        (λ t more go.
        let env = env_in meaning c t f in
        subst (λ (a : Act). Shortens (Sub a go) (Eval (AtTarget callee.0) env (λ e. Sub (line t env e) go))) (sym (call_entry t (target t))) (shorten_goal (AtTarget callee.0) env (line t env) go)) d

    -- a call whose callee is none
    value_entry : (t : Table) → is_target (tree_here (env_in meaning c t f)) callee.0 ≡ false
        → entry (AtExpr node.0) (env_in meaning c t f) ≡ Eval (AtExpr callee.0) (env_in meaning c t f) (then_value (call_callee (arguments_of (node_in t (node_among c.units.items f.tree node))) Undefined (env_in meaning c t f)))
    value_entry t target =
        let env = env_in meaning c t f in
        let next : List ℕ → Completion → Act = λ l. then_value (call_callee l Undefined env) in
        ap (λ n. expr_of node.0 n env) (node_same t c.units.items f.tree node ∙ ap (node_in t) is)
        ∙ ap (λ b. elim b [ true ↦ Eval (AtTarget callee.0) env (then_reference (call_reference (numbers args) env)) | false ↦ Eval (AtExpr callee.0) env (next (numbers args)) ]) target
        ∙ sym (ap (λ n. Eval (AtExpr callee.0) env (next (arguments_of (node_in t n)))) is)

    pub value_entered : {A : Type 0} (said : Table → A → Completion) (done : Result A Broken) (waits : List Frame) (top : Option (Frame × Phase)) (new : Config S) → ((t : Table) → is_target (tree_here (env_in meaning c t f)) callee.0 ≡ false)
        → Evaluates meaning (form_here meaning c f (AtExpr callee.0) (λ t env. then_value (call_callee (arguments_of (node_in t (node_among c.units.items f.tree node))) Undefined env))) said done waits top c new
        → Evaluates meaning (entry_here meaning c f (AtExpr node.0)) said done waits top c new
    value_entered said done waits top new target d =
        let line : Table → Env → Completion → Act = λ t env. then_value (call_callee (arguments_of (node_in t (node_among c.units.items f.tree node))) Undefined env) in
        shortened meaning said (entry_here meaning c f (AtExpr node.0)) (form_here meaning c f (AtExpr callee.0) line) done waits top c new
        (λ t more go.
        let env = env_in meaning c t f in
        subst (λ (a : Act). Shortens (Sub a go) (Eval (AtExpr callee.0) env (λ e. Sub (line t env e) go))) (sym (value_entry t (target t))) (shorten_goal (AtExpr callee.0) env (line t env) go)) d

  -- a function that a script made, whose `this` is an object
  pub script_entered : {A : Type 0} (said : Table → A → Completion) (c new : Config S) (f : Frame) (callee object : ObjId) (this : Numbered) (vs : List Numbered) (tree : ℕ) (body : NodeId) (done : Result A Broken) (waits : List Frame) (top : Option (Frame × Phase))
      → ((t : Table) (arena : Arena) → Sees meaning c t arena → (object_at arena callee).code ≡ code.Script tree body) → ((t : Table) → Object object ≡ this_or_global (value_in t this) (env_in meaning c t f))
      → Evaluates meaning (line_here meaning c f (λ t env. Eval (AtBody callee (each (value_in t) vs)) (record env { this = Object object }) Ret)) said done waits top c new
      → Evaluates meaning (line_here meaning c f (λ t env. call callee (value_in t this) (each (value_in t) vs) env)) said done waits top c new
  script_entered said c new f callee object this vs tree body done waits top seen is d =
      in_memory done (λ d'. record {
        by = λ go later r h.
            let t = later.heap.texts in
            let env = env_in meaning c t f in
            let l = each (value_in t) vs in
            let inner : Act = Eval (AtBody callee l) (record env { this = Object object }) Ret in
            let looked : Arena → Act = λ arena. call_code (object_at arena callee).code callee (value_in t this) l env in
            follows_shorter meaning (Sub (Do Look looked) go) (Do Look (λ arena. Sub (looked arena) go)) c later r (shorten_deed Look looked go)
            (follows_look meaning (λ arena. Sub (looked arena) go) (Sub inner go) c later r
            (λ arena s. ap (λ (k : Code). Sub (call_code k callee (value_in t this) l env) go) (seen t arena s)
            ∙ ap (λ (v : Value). Sub (to_object v env (λ o. Eval (AtBody callee l) (record env { this = Object o }) Ret)) go) (sym (is t)))
            (d'.by go later r h));
      }) d

  -- where a target's reference is asked for
  pub callee_waits : (old mid : Config S) (f : Frame) (node : NodeId) → Later meaning old mid → (t : Table) (env : Env)
      → then_at meaning mid (at_node f node []) (points.Expr exprs.CalleeTarget) t env ≡ then_reference (call_reference (arguments_of (node_in t (node_among old.units.items f.tree node))) env)
  callee_waits old mid f node l t env = ap (λ (us : Vec Program Global). then_reference (call_reference (arguments_of (node_in t (node_among us.items f.tree node))) env)) l.units

  -- where another callee's value is asked for
  pub callee_valued : (old mid : Config S) (f : Frame) (node : NodeId) → Later meaning old mid → (t : Table) (env : Env)
      → then_at meaning mid (at_node f node []) (points.Expr exprs.CalleeValue) t env ≡ then_value (call_callee (arguments_of (node_in t (node_among old.units.items f.tree node))) Undefined env)
  callee_valued old mid f node l t env = ap (λ (us : Vec Program Global). then_value (call_callee (arguments_of (node_in t (node_among us.items f.tree node))) Undefined env)) l.units

  -- ---- from one argument to the next

  module _ (old : Config S) (f : Frame) (node : NodeId) (callee : ObjId) (this : Numbered) where
    abbrev arguments_here : Table → List ℕ
    arguments_here t = arguments_of (node_in t (node_among old.units.items f.tree node))

    -- what is left from an argument on, with the values before it
    abbrev pub values_left : ℕ → List Numbered → Table → Env → Act
    values_left at vs t env = values_from (drop at (arguments_here t)) (each (value_in t) vs) env (call_values (Object callee) (value_in t this) env)

    -- and after it
    abbrev after_argument : ℕ → List Numbered → Table → Env → Completion → Act
    after_argument at vs t env = then_value (λ v. values_from (drop (at + 1) (arguments_here t)) (each (value_in t) vs ++ v ∷ []) env (call_values (Object callee) (value_in t this) env))

    -- none is done
    pub values_first : Leaves meaning (line_here meaning old f (values_left 0 [])) (line_here meaning old f (values_left 0 [])) old old
    values_first = record { by = λ go later r h. h }

    module _ (mid : Config S) (l : Later meaning old mid) (at : ℕ) (vs : List Numbered) where
      -- the same list
      here_as : (o : Option NodeId) → ((t : Table) → NextIs (arguments_of (node_in t (node_among mid.units.items f.tree node))) at o) → (t : Table) → NextIs (arguments_here t) at o
      here_as o next t = subst (λ (us : Vec Program Global). NextIs (arguments_of (node_in t (node_among us.items f.tree node))) at o) l.units (next t)

      module _ (e : NodeId) (next : (t : Table) → NextIs (arguments_of (node_in t (node_among mid.units.items f.tree node))) at (Some e)) where
        -- its evaluation comes first
        argument_first : (rest : Table → (Completion → Act) → Act) (new : Config S) → Leaves meaning (form_here meaning mid f (AtExpr e.0) (after_argument at vs)) rest mid new → Leaves meaning (line_here meaning old f (values_left at vs)) rest mid new
        argument_first rest new d = record {
          by = λ go later r h.
              let t = later.heap.texts in
              let env = env_in meaning old t f in
              let F : Act → Type 0 = λ a. OnOk r (Follows meaning a mid later) in
              subst (λ (a : Act). F (Sub a go)) (sym (values_next (arguments_here t) at e (each (value_in t) vs) env (call_values (Object callee) (value_in t this) env) (here_as (Some e) next t)))
              (follows_shorter meaning (Sub (Eval (AtExpr e.0) env (after_argument at vs t env)) go) (Eval (AtExpr e.0) env (λ c. Sub (after_argument at vs t env c) go)) mid later r (shorten_goal (AtExpr e.0) env (after_argument at vs t env) go)
              (subst (λ (x : Env). F (Eval (AtExpr e.0) x (λ c. Sub (after_argument at vs t x c) go))) (env_later meaning old mid t f l) (d.by go later r h)));
        }

        -- it has its value
        pub argument_given : (v : Numbered) (w : List Frame) (p : Option (Frame × Phase)) (new : Config S) → Evaluates meaning (goal_here meaning mid f (AtExpr e.0)) gives_in (Ok v) w p mid new
            → Leaves meaning (line_here meaning old f (values_left 0 [])) (line_here meaning old f (values_left at vs)) old mid → Leaves meaning (line_here meaning old f (values_left 0 [])) (line_here meaning old f (values_left (at + 1) (vs ++ v ∷ []))) old new
        argument_given v w p new d left =
            leaves_all meaning _ _ _ old mid new left (argument_first _ new (record {
              by = λ go later r h.
                  let t = later.heap.texts in
                  let same = sym (env_later meaning old mid t f l) in
                  d.by (λ c. Sub (after_argument at vs t (env_in meaning mid t f) c) go) later r
                  (subst (λ (a : Act). OnOk r (Follows meaning (Sub a go) new later))
                  (λ i. values_from (drop (at + 1) (arguments_here t)) (each_snoc (value_in t) vs v i) (same i) (call_values (Object callee) (value_in t this) (same i))) h);
            }))

        argument_point : (new : Config S) → Later meaning mid new → (t : Table) (env : Env) → then_at meaning new (at_node f node (call_held (values.Object callee) this vs)) (points.Expr (exprs.Argument at)) t env ≡ after_argument at vs t env
        argument_point new m t env =
            let us = m.units ∙ l.units in
            let one = callee_of_call (values.Object callee) this vs in
            λ i. then_value (λ v. values_from (drop (at + 1) (arguments_of (node_in t (node_among (us i).items f.tree node)))) (values_of_call (values.Object callee) this vs t i ++ v ∷ []) env
            (call_values (value_in t (one i).0) (value_in t (one i).1) env))

        -- it broke off
        pub argument_broken : (end : Broken) (w : List Frame) (p : Option (Frame × Phase)) (end' : Broken) (waits : List Frame) (top : Option (Frame × Phase)) (new after : Config S) → after ≡ new → InMemory {A = Numbered} (Err end) (Later meaning mid new)
            → Evaluates meaning (goal_here meaning mid f (AtExpr e.0)) gives_in (Err end) w p mid new → WaitsAt (at_node f node (call_held (values.Object callee) this vs)) (points.Expr (exprs.Argument at)) end w p end' waits top
            → Leaves meaning (line_here meaning old f (values_left 0 [])) (line_here meaning old f (values_left at vs)) old mid
            → Evaluates meaning (line_here meaning old f (values_left 0 [])) gives_in (Err end') waits top old after
        argument_broken end w p end' waits top new after same m d s left =
            in_memory {A = Numbered} (Err end') (λ x. leaves_all meaning _ _ _ old mid after left (argument_first _ after x))
            (broke_does meaning Numbered Numbered mid new after f node (call_held (values.Object callee) this vs) (points.Expr (exprs.Argument at)) end w p end' waits top same s
            gives_in gives_in (AtExpr e.0) (after_argument at vs) (argument_point new) (λ t env x. refl) m d)

      -- behind the last comes the call
      pub arguments_done : (done : Result Numbered Broken) (waits : List Frame) (top : Option (Frame × Phase)) (new : Config S) → ((t : Table) → NextIs (arguments_of (node_in t (node_among mid.units.items f.tree node))) at None)
          → Evaluates meaning (line_here meaning mid f (λ t env. call_values (Object callee) (value_in t this) env (each (value_in t) vs))) gives_in done waits top mid new
          → Leaves meaning (line_here meaning old f (values_left 0 [])) (line_here meaning old f (values_left at vs)) old mid
          → Evaluates meaning (line_here meaning old f (values_left 0 [])) gives_in done waits top old new
      arguments_done done waits top new none d left =
          in_memory done (λ d'. leaves_all meaning _ _ _ old mid new left (record {
            by = λ go later r h.
                let t = later.heap.texts in
                let env = env_in meaning old t f in
                let F : Act → Type 0 = λ a. OnOk r (Follows meaning a mid later) in
                subst (λ (a : Act). F (Sub a go)) (sym (values_end (arguments_here t) at (each (value_in t) vs) env (call_values (Object callee) (value_in t this) env) (here_as None none t)))
                (subst (λ (x : Env). F (Sub (call_values (Object callee) (value_in t this) x (each (value_in t) vs)) go)) (env_later meaning old mid t f l) (d'.by go later r h));
          })) d
