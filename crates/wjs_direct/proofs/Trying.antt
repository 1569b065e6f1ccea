-- Exceptions: what is thrown, what catches it, and what is left of a `try` where a part of it stops.
use Rattle.std.proofs.Common.{◌≡◌, ℕ, List, [], ◌∷◌, Option, None, Some, Vec, Global, inl, inr, refl, sym, ap, ◌∙◌, subst}
use Rattle.std.specs.Prelude.{Result, Ok, Err, OnOk}
use Rattle.std.specs.Option.{option_map}
use Rattle.wjs_base.specs.declared.ids.NodeId.{NodeId}
use Rattle.wjs_base.specs.declared.ids.ObjId.{ObjId}
use Rattle.wjs_base.specs.declared.values.Name.{Name}
use Rattle.wjs_base.specs.declared.values.Value.{Value as Numbered}
use Rattle.wjs_base.specs.Text.{Table, Grows}
use Rattle.wjs_by_content.specs.Names.{slot}
use Rattle.wjs_by_content.specs.Tables.{name_in, text_in, value_in}
use Rattle.wjs_by_content.specs.Values.{Text}
use Rattle.wjs_heap.specs.Means.{nothing}
use Rattle.wjs_store.specs.Meaning.{Meaning}
use Rattle.wjs_tree.specs.declared.node.Handler.{Handler}
use Rattle.wjs_tree.specs.declared.node.Node.{Node}
use Rattle.wjs_tree.specs.declared.node.Node.TheVariants as nodes
use Rattle.wjs_scope.specs.Nesting.{Around, caught_part, on_side, option_part}
use Rattle.wjs_meaning.specs.Deeds.{Env, AtStmt, Completion, Act, Ret, Throws, Eval, Sub, Do, Create, Write, then_value}
use Rattle.wjs_meaning.specs.NewObjects.{scope_object}
use Rattle.wjs_meaning.specs.Reading.{handler_in, node_in, number}
use Rattle.wjs_meaning.specs.Statements.{finally_done, stmt_of, throw_value, try_block, try_catch, try_finally}
use Rattle.wjs_model.specs.declared.config.Config.{Config}
use Rattle.wjs_model.specs.declared.frame.Activation.{Activation as Frame}
use Rattle.wjs_model.specs.declared.frame.Completion.{Completion as Said}
use Rattle.wjs_model.specs.declared.frame.Completion.TheVariants as completions
use Rattle.wjs_model.specs.declared.frame.Held.{Held}
use Rattle.wjs_model.specs.declared.frame.Phase.{Phase}
use Rattle.wjs_model.specs.declared.loaded.LoadedProgram.{LoadedProgram as Program}
use Rattle.wjs_model.specs.declared.point.Point.{Point}
use Rattle.wjs_model.specs.declared.point.Point.TheVariants as points
use Rattle.wjs_model.specs.declared.point.StmtPoint.TheVariants as stmt
use Rattle.wjs_model.specs.Contents.{completion_in}
use Rattle.wjs_model.specs.Lists.{handler_of}
use Rattle.wjs_model.specs.Soundness.{HasCompletion, HasObject, IsThere, StandsHere, StandsIf}
use Rattle.wjs_model.specs.Standing.{Stands}
use Rattle.wjs_frames.specs.Doing.{Does}
use Rattle.wjs_frames.specs.Following.{Follows, Later}
use Rattle.wjs_frames.specs.Parts.{env_in, node_among, then_at}
use Rattle.wjs_frames.proofs.Parting.{among_right, stands_here}
use Rattle.wjs_frames.proofs.Shorter.{follows_shorter, shorten_deed, shorten_do, shorten_trans}
use Rattle.wjs_heap_steps.proofs.Later.{later_twice}
use Rattle.wjs_quick.proofs.Coming.{shorten_goal}
use Rattle.wjs_step_common.proofs.Following.{follows_as}
use Rattle.wjs_blocks.specs.Tries.{catch_in}
use Rattle.wjs_blocks.proofs.Catching.{handler_same}
use Rattle.wjs_stopping.specs.declared.ends.Broken.{Broken}
use Rattle.wjs_stopping.specs.declared.ends.Broken.TheVariants as ends
use Rattle.wjs_stopping.specs.Evaluating.{Evaluates, HasOutcome, InMemory, Leaves, rest_in}
use Rattle.wjs_stopping.specs.Waiting.{at_node, waiting_at, WaitsAt}
use Rattle.wjs_stopping.proofs.Evaluating.{in_memory, leaves_all}
use Rattle.wjs_direct_lines.specs.Deeds.{goal_here, line_here}
use Rattle.wjs_direct.specs.Tries.{IsCaught, caught_here, ended_by, last_by, thrown_by}
use Rattle.wjs_direct_lines.proofs.Forming.{line_moved, node_there}
use Rattle.wjs_direct_lines.proofs.Nesting.{leaves_shorter, within_left, within_stopped}

-- ---- what a `throw` ends with

pub thrown_is : (t : Table) (e : Said) → then_value throw_value (completion_in t e) ≡ Ret (completion_in t (thrown_by e))
thrown_is t (completions.Gives v) = refl
thrown_is t (completions.Refers r) = refl
thrown_is t completions.Normal = refl
thrown_is t (completions.Breaks label) = refl
thrown_is t (completions.Continues label) = refl
thrown_is t (completions.Returns v) = refl
thrown_is t (completions.Throws v) = refl

pub thrown_there : {S : Type 0} (c : Config S) (e : Said) → HasCompletion c e → HasCompletion c (thrown_by e)
thrown_there c (completions.Gives v) h = h
thrown_there c (completions.Refers r) h = h
thrown_there c completions.Normal h = h
thrown_there c (completions.Breaks label) h = h
thrown_there c (completions.Continues label) h = h
thrown_there c (completions.Returns v) h = h
thrown_there c (completions.Throws v) h = h

-- ---- what was thrown, as an end like every other

pub ended_memory : (T : Type 0) (done : Result Said Broken) → InMemory done T → InMemory (ended_by done) T
ended_memory T (Ok e) h = h
ended_memory T (Err (ends.Throws v)) h = h
ended_memory T (Err ends.Stopped) h = h
ended_memory T (Err ends.OutOfMemory) h = h

pub ended_caught : (done : Result Said Broken) → IsCaught (ended_by done)
ended_caught (Ok e) = tt
ended_caught (Err (ends.Throws v)) = tt
ended_caught (Err ends.Stopped) = tt
ended_caught (Err ends.OutOfMemory) = tt

module _ {S : Type 0} (meaning : S → Meaning) where
  pub ended_found : (c : Config S) (done : Result Said Broken) (w : List Frame) (p : Option (Frame × Phase)) → HasOutcome meaning HasCompletion c done w p → HasOutcome meaning HasCompletion c (ended_by done) w p
  ended_found c (Ok e) w p h = h
  ended_found c (Err (ends.Throws v)) w p h = h
  ended_found c (Err ends.Stopped) w p h = h
  ended_found c (Err ends.OutOfMemory) w p h = h

  pub ended_does : (deeds : Table → (Completion → Act) → Act) (done : Result Said Broken) (w : List Frame) (p : Option (Frame × Phase)) (old new : Config S) → Evaluates meaning deeds completion_in done w p old new
      → Evaluates meaning deeds completion_in (ended_by done) w p old new
  ended_does deeds (Ok e) w p old new d = d
  ended_does deeds (Err (ends.Throws v)) w p old new d = record { by = λ go later r h. d.by go later r h }
  ended_does deeds (Err ends.Stopped) w p old new d = d
  ended_does deeds (Err ends.OutOfMemory) w p old new d = d

-- ---- what a `try` ends with by its `finally`

pub last_is : (t : Table) (earlier e : Said) → finally_done (completion_in t earlier) (completion_in t e) ≡ Ret (completion_in t (last_by earlier e))
last_is t earlier (completions.Gives v) = refl
last_is t earlier (completions.Refers r) = refl
last_is t earlier completions.Normal = refl
last_is t earlier (completions.Breaks label) = refl
last_is t earlier (completions.Continues label) = refl
last_is t earlier (completions.Returns v) = refl
last_is t earlier (completions.Throws v) = refl

pub last_there : {S : Type 0} (c : Config S) (earlier e : Said) → HasCompletion c earlier → HasCompletion c e → HasCompletion c (last_by earlier e)
last_there c earlier (completions.Gives v) k h = h
last_there c earlier (completions.Refers r) k h = h
last_there c earlier completions.Normal k h = k
last_there c earlier (completions.Breaks label) k h = h
last_there c earlier (completions.Continues label) k h = h
last_there c earlier (completions.Returns v) k h = h
last_there c earlier (completions.Throws v) k h = h

-- ---- the handler

-- what a `try` begins with
pub try_begins : (t : Table) (n : Node) (block : NodeId) (handler : Option Handler) (last : Option NodeId) (here : ℕ) (env : Env) → n ≡ nodes.Try block handler last
    → stmt_of here (node_in t n) env ≡ Eval (AtStmt block.0) env (try_block (handler_of (node_in t n)) (number last) env)
try_begins t n block handler last here env e =
    subst (λ (x : Node). stmt_of here (node_in t x) env ≡ Eval (AtStmt block.0) env (try_block (handler_of (node_in t x)) (number last) env)) (sym e) refl

-- what is not thrown doesn't go there
pub passes_by : (handler : Option (Text × ℕ)) (last : Option ℕ) (env : Env) (t : Table) (e : Said) → ((v : Numbered) → e ≡ completions.Throws v → ⊥)
    → try_block handler last env (completion_in t e) ≡ try_finally last env (completion_in t e)
passes_by None last env t e other = refl
passes_by (Some h) last env t (completions.Gives v) other = refl
passes_by (Some h) last env t (completions.Refers r) other = refl
passes_by (Some h) last env t completions.Normal other = refl
passes_by (Some h) last env t (completions.Breaks label) other = refl
passes_by (Some h) last env t (completions.Continues label) other = refl
passes_by (Some h) last env t (completions.Returns v) other = refl
passes_by (Some h) last env t (completions.Throws v) other = absurd (other v refl)

module _ {S : Type 0} (meaning : S → Meaning) where
  -- the `finally` stands there, if there is one
  pub last_stands : (c : Config S) (f : Frame) (node block : NodeId) (handler : Option Handler) (last : Option NodeId) → IsThere meaning c f → StandsHere c f node
      → node_among c.units.items f.tree node ≡ nodes.Try block handler last → StandsIf c f last
  last_stands c f node block handler None h n e = tt
  last_stands c f node block handler (Some s) h n e =
      stands_here meaning c (at_node f node []) (nodes.Try block handler (Some s)) s (node_there meaning c f node [] h n tt) e
      (inr (among_right (caught_part handler) (on_side Around (option_part (Some s))) (s, Around) (inl refl)))

  module _ (c : Config S) (f : Frame) (node : NodeId) (last : Option NodeId) (t : Table) (env : Env) where
    -- what is thrown goes to the handler
    pub goes_to : (h : Handler) (v : Numbered) → catch_in (node_among c.units.items f.tree node) ≡ Some h
        → caught_here c f node last t env (Throws (value_in t v)) ≡ try_catch (text_in t h.name) h.block.0 (number last) env (value_in t v)
    goes_to h v is =
        ap (λ x. try_block x (number last) env (Throws (value_in t v))) (handler_same t (node_among c.units.items f.tree node) ∙ ap (option_map (handler_in t)) is)

    -- and past the `finally` where there is none
    pub goes_past : (e : Said) → catch_in (node_among c.units.items f.tree node) ≡ None → caught_here c f node last t env (completion_in t e) ≡ try_finally (number last) env (completion_in t e)
    goes_past e is =
        ap (λ x. try_block x (number last) env (completion_in t e)) (handler_same t (node_among c.units.items f.tree node) ∙ ap (option_map (handler_in t)) is)

  -- it is told by what there was before
  pub caught_then : (old mid : Config S) (f : Frame) (node : NodeId) (last : Option NodeId) → Later meaning old mid → (t : Table) (env : Env)
      → then_at meaning mid (at_node f node []) (points.Stmt (stmt.TryBlock last)) t env ≡ caught_here old f node last t env
  caught_then old mid f node last l t env = ap (λ (us : Vec Program Global). try_block (handler_of (node_in t (node_among us.items f.tree node))) (number last) env) l.units

  pub caught_moved : (old mid new : Config S) (f : Frame) (node : NodeId) (last : Option NodeId) (e : Said) (done : Result Said Broken) (w : List Frame) (p : Option (Frame × Phase)) → Later meaning old mid
      → Evaluates meaning (line_here meaning mid f (λ t env. caught_here mid f node last t env (completion_in t e))) completion_in done w p mid new
      → Evaluates meaning (line_here meaning mid f (λ t env. caught_here old f node last t env (completion_in t e))) completion_in done w p mid new
  caught_moved old mid new f node last e done w p l d =
      subst (λ (us : Vec Program Global). Evaluates meaning (line_here meaning mid f (λ t env. try_block (handler_of (node_in t (node_among us.items f.tree node))) (number last) env (completion_in t e))) completion_in done w p mid new) l.units d

  -- its scope is made, the name is written there, and its block is run
  pub catch_does : (old mid late new : Config S) (f : Frame) (h : Handler) (last : Option NodeId) (v : Numbered) (scope outer : ObjId) (name : Name) (done : Result Said Broken) (w : List Frame) (p : Option (Frame × Phase)) → outer ≡ f.scope
      → Does meaning (λ t go. Do (Create old.owner (scope_object outer)) go) (λ t. scope) old mid → Later meaning old mid
      → ((t : Table) → Grows mid.heap.texts t → name_in t name ≡ text_in t h.name)
      → Does meaning (λ t go. Do (Write f.world (slot scope (name_in t name)) (Some (value_in t v))) go) (λ t. nothing) mid late → Later meaning mid late
      → Evaluates meaning (line_here meaning late f (λ t env. Eval (AtStmt h.block.0) (record env { scope = scope }) (try_finally (number last) env))) completion_in done w p late new
      → Evaluates meaning (line_here meaning old f (λ t env. try_catch (text_in t h.name) h.block.0 (number last) env (value_in t v))) completion_in done w p old new
  catch_does old mid late new f h last v scope outer name done w p same made l named wrote m d =
      in_memory done (λ d'. record {
        by = λ go later r k.
            let t = later.heap.texts in
            let env = env_in meaning old t f in
            let Made : ObjId → Type 0 = λ s. Does meaning (λ u to. Do (Create old.owner (scope_object s)) to) (λ u. scope) old mid in
            let block : ObjId → Act = λ s. Eval (AtStmt h.block.0) (record env { scope = s }) (try_finally (number last) env) in
            let put : Text → ObjId → Act = λ x s. Do (Write f.world (slot s x) (Some (value_in t v))) (λ end. Sub (block s) go) in
            let wrote_first : OnOk r (Follows meaning (put (name_in t name) scope) mid later) = wrote.by (λ end. Sub (block scope) go) later r (d'.by go later r k) in
            follows_shorter meaning (Sub (try_catch (text_in t h.name) h.block.0 (number last) env (value_in t v)) go) (Do (Create old.owner (scope_object f.scope)) (put (text_in t h.name))) old later r
            (shorten_trans _ _ _ (shorten_deed _ _ go) (shorten_do _ _ _ (λ s. shorten_deed _ _ go)))
            ((subst Made same made).by (put (text_in t h.name)) later r
            (follows_as meaning (put (name_in t name) scope) (put (text_in t h.name) scope) mid later r (λ grows. ap (λ (x : Text). put x scope) (named t grows)) wrote_first));
      })
      (line_moved meaning completion_in old late new f (λ t env. Eval (AtStmt h.block.0) (record env { scope = scope }) (try_finally (number last) env)) done w p (later_twice meaning old mid late l m) d)

  -- ---- a part that stopped, and what comes next

  module _ (old mid new : Config S) (f : Frame) (deeds : Table → (Completion → Act) → Act) (next : Table → Env → Completion → Act) (node : NodeId) (held : List Held) (point : Point) where
    abbrev behind : Table → (Completion → Act) → Act
    behind t go = deeds t (λ c. Sub (next t (env_in meaning old t f) c) go)

    stood : (end : Broken) (waits : List Frame) (top : Option (Frame × Phase)) (end' : Broken) (waits' : List Frame) (top' : Option (Frame × Phase)) → IsCaught (Err end)
        → (Later meaning old mid → (t : Table) (env : Env) → then_at meaning mid (at_node f node held) point t env ≡ next t env) → InMemory {A = Said} (Err end) (Later meaning old mid)
        → Evaluates meaning deeds completion_in (Err end) waits top old mid → WaitsAt (at_node f node held) point end waits top end' waits' top'
        → Evaluates meaning behind completion_in (Err end') waits' top' old mid
    stood ends.Stopped waits top ends.Stopped waits' top' c en l d w =
        subst (λ (x : List Frame). Leaves meaning behind (rest_in meaning mid x top') old mid) (sym w.0)
        (subst (λ (p : Option (Frame × Phase)). Leaves meaning behind (rest_in meaning mid (waiting_at (at_node f node held) point ∷ waits) p) old mid) (sym w.1)
        (within_stopped meaning completion_in completion_in old mid f deeds next node held point waits top (en l) l d))
    stood ends.Stopped waits top (ends.Throws v) waits' top' c en l d w = absurd w
    stood ends.Stopped waits top ends.OutOfMemory waits' top' c en l d w = tt
    stood (ends.Throws v) waits top end' waits' top' c en l d w = absurd c
    stood ends.OutOfMemory waits top end' waits' top' c en l d w = subst (λ (x : Broken). Evaluates meaning behind completion_in (Err x) waits' top' old mid) (sym w) tt

    pub stood_does : (end : Broken) (waits : List Frame) (top : Option (Frame × Phase)) (end' : Broken) (waits' : List Frame) (top' : Option (Frame × Phase)) → new ≡ mid → IsCaught (Err end)
        → (Later meaning old mid → (t : Table) (env : Env) → then_at meaning mid (at_node f node held) point t env ≡ next t env) → InMemory {A = Said} (Err end) (Later meaning old mid)
        → Evaluates meaning deeds completion_in (Err end) waits top old mid → WaitsAt (at_node f node held) point end waits top end' waits' top'
        → Evaluates meaning (λ t go. deeds t (λ c. Sub (next t (env_in meaning old t f) c) go)) completion_in (Err end') waits' top' old new
    stood_does end waits top end' waits' top' same c en l d w =
        subst (λ (x : Config S). Evaluates meaning behind completion_in (Err end') waits' top' old x) (sym same) (stood end waits top end' waits' top' c en l d w)

    -- one that ended
    pub ended_then : (e : Said) (done : Result Said Broken) (w : List Frame) (p : Option (Frame × Phase)) → Later meaning old mid → Leaves meaning deeds (λ t go. go (completion_in t e)) old mid
        → Evaluates meaning (line_here meaning mid f (λ t env. next t env (completion_in t e))) completion_in done w p mid new
        → Evaluates meaning (λ t go. deeds t (λ c. Sub (next t (env_in meaning old t f) c) go)) completion_in done w p old new
    ended_then e done w p l d m =
        in_memory done (λ m'. leaves_all meaning behind (line_here meaning mid f (λ t env. next t env (completion_in t e))) _ old mid new (within_left meaning completion_in deeds old mid f next e l d) m') m

  -- ---- a statement in a scope of its own

  -- the block of a handler, and then the `finally`
  pub handled_does : (old new : Config S) (f : Frame) (block : NodeId) (scope : ObjId) (last : Option NodeId) (done : Result Said Broken) (w : List Frame) (p : Option (Frame × Phase))
      → Evaluates meaning (λ t go. goal_here meaning old (record f { scope = scope }) (AtStmt block.0) t (λ c. Sub (try_finally (number last) (env_in meaning old t f) c) go)) completion_in done w p old new
      → Evaluates meaning (line_here meaning old f (λ t env. Eval (AtStmt block.0) (record env { scope = scope }) (try_finally (number last) env))) completion_in done w p old new
  handled_does old new f block scope last done w p d =
      in_memory done (λ d'. leaves_all meaning _ (λ t go. goal_here meaning old (record f { scope = scope }) (AtStmt block.0) t (λ c. Sub (try_finally (number last) (env_in meaning old t f) c) go)) _ old old new
      (leaves_shorter meaning _ _ old (λ t more go. let env = env_in meaning old t f in shorten_goal (AtStmt block.0) (record env { scope = scope }) (try_finally (number last) env) go)) d') d

  module _ (old begun : Config S) (f start inner : Frame) (node : NodeId) (scope : ObjId) (same : begun ≡ old) (first : start ≡ at_node f node []) (is : inner ≡ record start { scope = scope }) where
    frame_is : inner ≡ record (at_node f node []) { scope = scope }
    frame_is = is ∙ ap (λ (q : Frame). record q { scope = scope }) first

    -- its frame is there
    pub inner_there : IsThere meaning old f → HasObject old scope → Stands old.units.items old.heap.arena f.tree node scope 0 → IsThere meaning begun inner
    inner_there h o s =
        subst (λ (c : Config S). IsThere meaning c inner) (sym same)
        (subst (IsThere meaning old) (sym frame_is) (record { scope = o; this = h.this; world = h.world; held = tt; stands = record { node = s; shown = h.stands.shown } }))

    pub inner_stands : Stands old.units.items old.heap.arena f.tree node scope 0 → Stands begun.units.items begun.heap.arena inner.tree node inner.scope 0
    inner_stands s =
        subst (λ (c : Config S). Stands c.units.items c.heap.arena inner.tree node inner.scope 0) (sym same)
        (subst (λ (q : Frame). Stands old.units.items old.heap.arena q.tree node q.scope 0) (sym frame_is) s)

    -- it is made first, and given back behind the statement
    pub inner_does : (ran new : Config S) (done : Result Said Broken) (w : List Frame) (p : Option (Frame × Phase)) → new ≡ ran
        → Evaluates meaning (goal_here meaning begun inner (AtStmt node.0)) completion_in done w p begun ran → Evaluates meaning (goal_here meaning old (record f { scope = scope }) (AtStmt node.0)) completion_in done w p old new
    inner_does ran new done w p en d =
        subst (λ (c : Config S). Evaluates meaning (goal_here meaning old (record f { scope = scope }) (AtStmt node.0)) completion_in done w p old c) (sym en)
        (subst (λ (c : Config S). Evaluates meaning (goal_here meaning c (record f { scope = scope }) (AtStmt node.0)) completion_in done w p c ran) same
        (subst (λ (q : Frame). Evaluates meaning (goal_here meaning begun q (AtStmt node.0)) completion_in done w p begun ran) frame_is d))
