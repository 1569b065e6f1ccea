-- Bodies that are entered: by a frame, and within nested deeds.
use Rattle.std.proofs.Common.{◌≡◌, ℕ, List, [], ◌∷◌, ◌++◌, Option, None, Some, Vec, Global, refl, sym, ap, ◌∙◌, subst, drop}
use Rattle.std.specs.Prelude.{All, IfSome, Result, Ok, Err, OnOk, map as each}
use Rattle.std.specs.FinMap as map
use Rattle.std.proofs.lemmas.List.{map-append}
use Rattle.wjs_base.specs.declared.ids.NodeId.{NodeId}
use Rattle.wjs_base.specs.declared.ids.ObjId.{ObjId}
use Rattle.wjs_base.specs.declared.ids.WorldId.{WorldId}
use Rattle.wjs_base.specs.declared.values.Value.{Value as Numbered}
use Rattle.wjs_base.specs.declared.values.Value.TheVariants as values
use Rattle.wjs_base.specs.Text.{Table}
use Rattle.wjs_arena.specs.declared.object.Code.{Code}
use Rattle.wjs_arena.specs.declared.object.Code.TheVariants as code
use Rattle.wjs_arena.specs.Entries.{Entry}
use Rattle.wjs_arena.proofs.Fields.{coded, coded_is}
use Rattle.wjs_store.specs.Meaning.{Meaning}
use Rattle.wjs_by_content.specs.Names.{Slot, slot, prototype_name, constructor_name, arguments_name}
use Rattle.wjs_by_content.specs.Objects.{Arena, Internals, object_at}
use Rattle.wjs_by_content.specs.Tables.{value_in}
use Rattle.wjs_by_content.specs.Values.{Text, Value, Object}
use Rattle.wjs_meaning.specs.Declarations.{Declared, declared_by}
use Rattle.wjs_meaning.specs.Deeds.{Env, AtStmt, Completion, Act, Sub, Do, Look, Write, write_all, tree_here, node_here}
use Rattle.wjs_meaning.specs.Functions.{arguments_slots, formal_slots, variable_slots, function_names, make_function_in, declare_functions, body_next, body_from, body_run, body_scopes, body_code, body_of}
use Rattle.wjs_meaning.specs.Reading.{node_in}
use Rattle.wjs_meaning.specs.Trees.{name_of, elements_of}
use Rattle.wjs_model.specs.declared.config.Config.{Config}
use Rattle.wjs_model.specs.declared.frame.Activation.{Activation as Frame}
use Rattle.wjs_model.specs.declared.frame.Completion.{Completion as Said}
use Rattle.wjs_model.specs.declared.frame.Phase.{Phase}
use Rattle.wjs_model.specs.declared.frame.Phase.TheVariants as phases
use Rattle.wjs_model.specs.declared.loaded.LoadedProgram.{LoadedProgram as Program}
use Rattle.wjs_model.specs.declared.point.Start.TheVariants as starts
use Rattle.wjs_model.specs.Contents.{completion_in}
use Rattle.wjs_model.specs.Frames.{earliest_first}
use Rattle.wjs_model.specs.Outside.{Sees}
use Rattle.wjs_model.specs.Soundness.{HasObject, HasValue, IsThere, StandsHere}
use Rattle.wjs_frames.specs.Doing.{Does}
use Rattle.wjs_frames.specs.Following.{Follows, Later}
use Rattle.wjs_frames.specs.Parts.{env_in, node_among, node_now}
use Rattle.wjs_frames.specs.Shortening.{Shortens}
use Rattle.wjs_frames.proofs.Entering.{begin_then}
use Rattle.wjs_frames.proofs.Places.{node_same}
use Rattle.wjs_frames.proofs.Shorter.{follows_look, follows_shorter, shorten_trans, shorten_same, shorten_do, shorten_deed}
use Rattle.wjs_heap_steps.proofs.Looking.{seen_is}
use Rattle.wjs_stopping.specs.declared.ends.Broken.{Broken}
use Rattle.wjs_stopping.specs.Ends.{gives_in}
use Rattle.wjs_stopping.specs.Evaluating.{Evaluates, HasBroken}
use Rattle.wjs_stopping.specs.Waiting.{at_node, StopsAt}
use Rattle.wjs_stopping.proofs.Evaluating.{in_memory, stopped_left}
use Rattle.wjs_variables.specs.Entering.{declared_then, entered_then}
use Rattle.wjs_direct_lines.specs.Deeds.{IsScript, call_held, form_here, goal_here, line_here}
use Rattle.wjs_direct_lines.proofs.Forming.{form_goes_on, node_there, stops_there}
use Rattle.wjs_direct_lines.proofs.Holdings.{call_there, values_of_call}

pub earliest_each : {A B : Type 0} (f : A → B) (xs : List A) → each f (earliest_first xs) ≡ earliest_first (each f xs)
earliest_each f [] = refl
earliest_each f (x ∷ xs) = map-append f (earliest_first xs) (x ∷ []) ∙ ap (λ l. l ++ f x ∷ []) (earliest_each f xs)

-- ---- within nested deeds: what comes next is, where the deeds before it are

write_within : (w : WorldId) (xs : List (Slot × Value)) (one two : Act) (go : Completion → Act) → Shortens (Sub one go) two → Shortens (Sub (write_all w xs one) go) (write_all w xs two)
write_within w [] one two go h = h
write_within w (x ∷ xs) one two go h = shorten_trans _ _ _ (shorten_deed _ _ go) (shorten_do _ _ _ (λ done. write_within w xs one two go h))

make_within : (k : ℕ) (scope : ObjId) (env : Env) (one two : ObjId → Act) (go : Completion → Act) → ((f : ObjId) → Shortens (Sub (one f) go) (two f))
    → Shortens (Sub (make_function_in k scope env one) go) (make_function_in k scope env two)
make_within k scope env one two go h =
    shorten_trans _ _ _ (shorten_deed _ _ go) (shorten_do _ _ _ (λ f.
    shorten_trans _ _ _ (shorten_deed _ _ go) (shorten_do _ _ _ (λ p. write_within env.world ((slot p constructor_name, Object f) ∷ (slot f prototype_name, Object p) ∷ []) (one f) (two f) go (h f)))))

named_within : (name : Option Text) (holder f : ObjId) (env : Env) (one two : Act) (go : Completion → Act) → Shortens (Sub one go) two
    → Shortens (Sub (elim name [
      | None ↦ one
      | Some n ↦ Do (Write env.world (slot holder n) (Some (Object f))) (λ done. one)
    ]) go) (elim name [
      | None ↦ two
      | Some n ↦ Do (Write env.world (slot holder n) (Some (Object f))) (λ done. two)
    ])
named_within None holder f env one two go h = h
named_within (Some n) holder f env one two go h = shorten_trans _ _ _ (shorten_deed _ _ go) (shorten_do _ _ _ (λ done. h))

declare_within : (ks : List ℕ) (holder : ObjId) (env : Env) (one two : Act) (go : Completion → Act) → Shortens (Sub one go) two → Shortens (Sub (declare_functions ks holder env one) go) (declare_functions ks holder env two)
declare_within [] holder env one two go h = h
declare_within (k ∷ ks) holder env one two go h =
    make_within k env.scope env _ _ go (λ f. named_within (name_of (node_here env k)) holder f env (declare_functions ks holder env one) (declare_functions ks holder env two) go (declare_within ks holder env one two go h))

declared_within : (declared : Declared) (f a : ObjId) (args : List Value) (env : Env) (one two : Act) (go : Completion → Act) → Shortens (Sub one go) two
    → Shortens (Sub (declared_then declared f a args env one) go) (declared_then declared f a args env two)
declared_within declared f a args env one two go h =
    let first = arguments_slots a f args ++ (slot env.scope arguments_name, Object a) ∷ formal_slots env.scope declared.formals args in
    let last = variable_slots env.scope (arguments_name ∷ declared.formals ++ function_names env declared.functions) declared.vars in
    write_within env.world first _ _ go (declare_within declared.functions env.scope env (write_all env.world last one) (write_all env.world last two) go (write_within env.world last one two go h))

-- a body that is entered
pub entered_within : (body : ℕ) (scope f : ObjId) (args : List Value) (env : Env) (next : Env → Act) (go : Completion → Act)
    → Shortens (Sub (entered_then body scope f args env next) go) (entered_then body scope f args env (λ e. Sub (next e) go))
entered_within body scope f args env next go =
    shorten_trans _ _ _ (shorten_deed _ _ go) (shorten_do _ _ _ (λ s.
    shorten_trans _ _ _ (shorten_deed _ _ go) (shorten_do _ _ _ (λ a.
    let inner = record env { scope = s } in
    declared_within (declared_by (tree_here env) body) f a args inner (next inner) (Sub (next inner) go) go (shorten_same _)))))

drop_none : {A : Type 0} (xs : List A) → drop 0 xs ≡ xs
drop_none [] = refl
drop_none (x ∷ xs) = refl

module _ {S : Type 0} (meaning : S → Meaning) where
  -- a body runs from its first element on
  pub body_runs : (c : Config S) (t : Table) (f : Frame) (body : NodeId) → f.node ≡ body → body_run body.0 (env_in meaning c t f) ≡ body_from (drop 0 (elements_of (node_in t (node_now meaning c f)))) (env_in meaning c t f)
  body_runs c t f body e =
      let env = env_in meaning c t f in
      ap (λ (i : NodeId). body_run i.0 env) (sym e)
      ∙ ap (λ n. body_from (elements_of n) env) (node_same t c.units.items f.tree f.node)
      ∙ ap (λ l. body_from l env) (sym (drop_none (elements_of (node_in t (node_now meaning c f)))))

  -- its scope is entered, and it runs
  pub body_entered : {A : Type 0} (said : Table → A → Completion) (old mid new : Config S) (inner : Frame) (body : NodeId) (scope f : ObjId) (args : Table → List Value) (env : Table → Env) (done : Result A Broken) (waits : List Frame) (top : Option (Frame × Phase))
      → Does meaning (λ t. entered_then body.0 scope f (args t) (env t)) (λ t. env_in meaning mid t inner) old mid → inner.node ≡ body
      → Evaluates meaning (line_here meaning mid inner (λ t e. body_from (drop 0 (elements_of (node_in t (node_now meaning mid inner)))) e)) said done waits top mid new
      → Evaluates meaning (λ t go. Sub (body_scopes body.0 scope f (args t) (env t)) go) said done waits top old new
  body_entered said old mid new inner body scope f args env done waits top first is d =
      in_memory done (λ d'. record {
        by = λ go later r h.
            let t = later.heap.texts in
            follows_shorter meaning (Sub (body_scopes body.0 scope f (args t) (env t)) go) (entered_then body.0 scope f (args t) (env t) (λ e. Sub (body_run body.0 e) go)) old later r
            (entered_within body.0 scope f (args t) (env t) (body_run body.0) go)
            (first.by (λ e. Sub (body_run body.0 e) go) later r
            (subst (λ (a : Act). OnOk r (Follows meaning (Sub a go) mid later)) (sym (body_runs mid t inner body is)) (d'.by go later r h)));
      }) d

  -- the same where its frame is made first, and given back behind it
  pub body_inside : {A : Type 0} (said : Table → A → Completion) (old begun mid ran new : Config S) (f start inner : Frame) (node : NodeId) (tree : ℕ) (body : NodeId) (scope callee this : ObjId) (args : Table → List Value) (done : Result A Broken) (waits : List Frame) (top : Option (Frame × Phase))
      → begun ≡ old → start ≡ record (at_node f node []) { this = values.Object this } → new ≡ ran
      → Does meaning (λ t. entered_then body.0 scope callee (args t) (record (env_in meaning begun t start) { tree = tree })) (λ t. env_in meaning mid t inner) begun mid → inner.node ≡ body
      → Evaluates meaning (line_here meaning mid inner (λ t e. body_from (drop 0 (elements_of (node_in t (node_now meaning mid inner)))) e)) said done waits top mid ran
      → Evaluates meaning (line_here meaning old f (λ t env. body_scopes body.0 scope callee (args t) (record env { this = Object this; tree = tree }))) said done waits top old new
  body_inside said old begun mid ran new f start inner node tree body scope callee this args done waits top eb es en first is d =
      let D : Config S → Table → (Completion → Act) → Act = λ c. line_here meaning c f (λ t env. body_scopes body.0 scope callee (args t) (record env { this = Object this; tree = tree })) in
      subst (λ (c : Config S). Evaluates meaning (D old) said done waits top old c) (sym en)
      (subst (λ (c : Config S). Evaluates meaning (D c) said done waits top c ran) eb
      (subst (λ (q : Frame). Evaluates meaning (λ t go. Sub (body_scopes body.0 scope callee (args t) (record (env_in meaning begun t q) { tree = tree })) go) said done waits top begun ran) es
      (body_entered said begun mid ran inner body scope callee args (λ t. record (env_in meaning begun t start) { tree = tree }) done waits top first is d)))

  -- ---- the function

  -- its code, as each look finds it
  pub script_seen : (c : Config S) (f : ObjId) (tree : ℕ) (body : NodeId) → HasObject c f → IsScript c f tree body → (t : Table) (arena : Arena) → Sees meaning c t arena → (object_at arena f).code ≡ code.Script tree body
  script_seen c f tree body there is t arena s =
      let found = map.get c.heap.arena f in
      let k : Code = code.Script tree body in
      ap (λ (x : Internals). x.code) (seen_is c.heap.arena f (coded found k) there.0 (coded_is found k (by found (λ e h. is e h))) t arena s)
    where
      by : (r : Option Entry) → ((e : Entry) → r ≡ Some e → e.object.code ≡ code.Script tree body) → IfSome r (λ (e : Entry). code.Script tree body ≡ e.object.code)
      by None h = tt
      by (Some e) h = sym (h e refl)

  -- looks tell its code and its scope
  pub body_looked : {A : Type 0} (said : Table → A → Completion) (c new : Config S) (f : ObjId) (tree : ℕ) (body : NodeId) (scope : ObjId) (args : Table → List Value) (env : Table → Env) (done : Result A Broken) (waits : List Frame) (top : Option (Frame × Phase))
      → HasObject c f → IsScript c f tree body → ((t : Table) (arena : Arena) → Sees meaning c t arena → (object_at arena f).scope ≡ Some scope)
      → Evaluates meaning (λ t go. Sub (body_scopes body.0 scope f (args t) (record (env t) { tree = tree })) go) said done waits top c new
      → Evaluates meaning (λ t go. Sub (body_of f (args t) (env t)) go) said done waits top c new
  body_looked said c new f tree body scope args env done waits top there is around d =
      in_memory done (λ d'. record {
        by = λ go later r h.
            let t = later.heap.texts in
            let looked : Arena → Act = λ arena. body_code (object_at arena f).code (object_at arena f).scope f (args t) (env t) in
            follows_shorter meaning (Sub (Do Look looked) go) (Do Look (λ arena. Sub (looked arena) go)) c later r (shorten_deed Look looked go)
            (follows_look meaning (λ arena. Sub (looked arena) go) (Sub (body_scopes body.0 scope f (args t) (record (env t) { tree = tree })) go) c later r
            (λ arena s i. Sub (body_code (script_seen c f tree body there is t arena s i) (around t arena s i) f (args t) (env t)) go)
            (d'.by go later r h));
      }) d

  -- ---- where its body stops

  module _ (c : Config S) (f : Frame) (node : NodeId) (callee this : ObjId) (vs : List Numbered) (end : Broken) (waits : List Frame) (top : Option (Frame × Phase)) where
    abbrev stopped : Frame
    stopped = record (at_node f node (call_held (values.Object callee) (values.Object this) vs)) { this = values.Object this }

    -- its frame is there
    pub body_ready_there : IsThere meaning c f → StandsHere c f node → HasObject c callee → HasObject c this → All (HasValue c) vs → StopsAt stopped (phases.Ready (starts.Body callee)) end waits top → HasBroken meaning c end waits top
    body_ready_there h n ho ht hv s =
        let k = node_there meaning c f node (call_held (values.Object callee) (values.Object this) vs) h n (call_there c (values.Object callee) (values.Object this) vs ho ht hv) in
        stops_there meaning c stopped (phases.Ready (starts.Body callee)) end waits top (record { scope = k.scope; this = ht; world = k.world; held = k.held; stands = record { node = k.stands.node; shown = k.stands.shown } }) ho s

    -- and goes on behind its step
    pub body_ready : {A : Type 0} (said : Table → A → Completion) → StopsAt stopped (phases.Ready (starts.Body callee)) end waits top
        → Evaluates meaning (line_here meaning c f (λ t env. body_of callee (each (value_in t) vs) (record env { this = Object this }))) said (Err end) waits top c c
    body_ready said s = stopped_left meaning said _ c stopped (phases.Ready (starts.Body callee)) end waits top (record {
      by = λ go later r h.
          let t = later.heap.texts in
          let env = record (env_in meaning c t f) { this = Object this } in
          subst (λ (a : Act). OnOk r (Follows meaning (Sub a go) c later))
          (begin_then meaning t c stopped (starts.Body callee) ∙ ap (λ l. body_of callee l env) (values_of_call (values.Object callee) (values.Object this) vs t)) h;
    }) s

  -- ---- its elements

  -- what follows an element
  abbrev pub behind : Config S → Frame → ℕ → Table → Env → Completion → Act
  behind c f next t env = body_next (body_from (drop next (elements_of (node_in t (node_now meaning c f)))) env)

  pub behind_later : (old mid : Config S) (f : Frame) (next : ℕ) → Later meaning old mid → (t : Table) (env : Env) → behind mid f next t env ≡ behind old f next t env
  behind_later old mid f next l t env = ap (λ (us : Vec Program Global). body_next (body_from (drop next (elements_of (node_in t (node_among us.items f.tree f.node)))) env)) l.units

  -- it ended, and the body goes on
  pub element_ended : (old mid new : Config S) (f : Frame) (next : ℕ) (s : NodeId) (e : Said) (done : Result Numbered Broken) (w : List Frame) (p : Option (Frame × Phase)) (waits : List Frame) (top : Option (Frame × Phase)) → Later meaning old mid
      → Evaluates meaning (goal_here meaning old f (AtStmt s.0)) completion_in (Ok e) w p old mid
      → Evaluates meaning (line_here meaning mid f (λ t env. behind mid f next t env (completion_in t e))) gives_in done waits top mid new
      → Evaluates meaning (form_here meaning old f (AtStmt s.0) (behind old f next)) gives_in done waits top old new
  element_ended old mid new f next s e done w p waits top l first d =
      form_goes_on meaning completion_in gives_in old mid new f (AtStmt s.0) (behind old f next) e done w p waits top l first
      (subst (λ (act : Table → Env → Completion → Act). Evaluates meaning (line_here meaning mid f (λ t env. act t env (completion_in t e))) gives_in done waits top mid new) (λ i t env. behind_later old mid f next l t env i) d)
