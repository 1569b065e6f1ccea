-- Calls of native functions, and the frames that are left where one is run by a frame.
use Rattle.std.proofs.Common.{◌≡◌, ℕ, suc, false, List, [], Option, refl, sym, ap, ◌∙◌, subst}
use Rattle.std.specs.Prelude.{All, Result, Err, OnOk, map as each}
use Rattle.wjs_base.specs.declared.ids.NodeId.{NodeId}
use Rattle.wjs_base.specs.declared.ids.ObjId.{ObjId}
use Rattle.wjs_base.specs.declared.values.Value.{Value as Numbered}
use Rattle.wjs_base.specs.declared.values.Value.TheVariants as values
use Rattle.wjs_base.specs.Text.{Table}
use Rattle.wjs_arena.specs.declared.native.Native.{Native}
use Rattle.wjs_arena.specs.declared.object.Code.{Code}
use Rattle.wjs_arena.specs.declared.object.Code.TheVariants as code
use Rattle.wjs_store.specs.Meaning.{Meaning}
use Rattle.wjs_by_content.specs.Objects.{Arena, object_at}
use Rattle.wjs_by_content.specs.Tables.{value_in}
use Rattle.wjs_by_content.specs.Values.{Value, Object}
use Rattle.wjs_meaning.specs.Calls.{this_or_global, call_code}
use Rattle.wjs_meaning.specs.Deeds.{Env, AtNative, Completion, Act, Ret, Tick, Eval, Sub, Do, Look}
use Rattle.wjs_meaning.specs.Expressions.{call_values}
use Rattle.wjs_meaning.specs.Natives.{native_of}
use Rattle.wjs_meaning.specs.Programs.{entry}
use Rattle.wjs_model.specs.declared.config.Config.{Config}
use Rattle.wjs_model.specs.declared.frame.Activation.{Activation as Frame}
use Rattle.wjs_model.specs.declared.frame.Phase.{Phase}
use Rattle.wjs_model.specs.declared.frame.Phase.TheVariants as phases
use Rattle.wjs_model.specs.declared.point.Start.TheVariants as starts
use Rattle.wjs_model.specs.Begun.{with_phase}
use Rattle.wjs_model.specs.Outside.{Sees}
use Rattle.wjs_model.specs.Soundness.{HasObject, HasPhase, HasValue, IsThere, StandsHere}
use Rattle.wjs_frames.specs.Following.{Follows}
use Rattle.wjs_frames.specs.Parts.{env_in}
use Rattle.wjs_frames.proofs.Entering.{begin_then}
use Rattle.wjs_frames.proofs.Paying.{step_paid}
use Rattle.wjs_frames.proofs.Shorter.{follows_look, follows_shorter, shorten_deed, shorten_sub}
use Rattle.wjs_quick.proofs.Coming.{shorten_last}
use Rattle.wjs_stopping.specs.declared.ends.Broken.{Broken}
use Rattle.wjs_stopping.specs.Waiting.{at_node, StopsAt}
use Rattle.wjs_stopping.specs.Evaluating.{Evaluates, HasBroken, Leaves, stops_in}
use Rattle.wjs_stopping.proofs.Evaluating.{in_memory, stopped_left}
use Rattle.wjs_direct_lines.specs.Deeds.{call_held, line_here}
use Rattle.wjs_direct_lines.proofs.Calling.{call_looks, goal_due}
use Rattle.wjs_direct_lines.proofs.Forming.{node_there, stops_there}
use Rattle.wjs_direct_lines.proofs.Holdings.{values_of_call, call_there}

module _ {S : Type 0} (meaning : S → Meaning) where
  module _ (c new : Config S) (f : Frame) (node : NodeId) (callee : ObjId) (native : Native) (this : Numbered) (vs : List Numbered) (end : Broken) (waits : List Frame) (top : Option (Frame × Phase)) (same : new ≡ c) where
    abbrev native_frame : Frame
    native_frame = record (at_node f node (call_held (values.Object callee) this vs)) { this = this }

    abbrev run_line : Table → Env → Act
    run_line t env = native_of native false (each (value_in t) vs) (record env { this = value_in t this })

    abbrev native_line : Table → Env → Act
    native_line t env = Eval (AtNative native false (each (value_in t) vs)) (record env { this = value_in t this }) Ret

    due_left : Leaves meaning (line_here meaning c f native_line) (stops_in meaning c [] (with_phase (native_frame, phases.Due (starts.Native native false)))) c c
    due_left = record {
      by = λ go later r h.
          let t = later.heap.texts in
          let env = record (env_in meaning c t f) { this = value_in t this } in
          let goal = AtNative native false (each (value_in t) vs) in
          follows_shorter meaning (Sub (Eval goal env Ret) go) (Sub (Tick (entry goal env)) go) c later r (goal_due goal env go)
          (subst (λ (a : Act). OnOk r (Follows meaning (Sub (Tick a) go) c later))
          (begin_then meaning t c native_frame (starts.Native native false) ∙ ap (λ l. native_of native false l env) (values_of_call (values.Object callee) this vs t)) h);
    }

    ready_left : Leaves meaning (line_here meaning c f run_line) (stops_in meaning c [] (with_phase (native_frame, phases.Ready (starts.Native native false)))) c c
    ready_left = record {
      by = λ go later r h.
          let t = later.heap.texts in
          let env = record (env_in meaning c t f) { this = value_in t this } in
          subst (λ (a : Act). OnOk r (Follows meaning (Sub a go) c later))
          (begin_then meaning t c native_frame (starts.Native native false) ∙ ap (λ l. native_of native false l env) (values_of_call (values.Object callee) this vs t)) h;
    }

    -- its step is due
    pub native_due : {A : Type 0} (said : Table → A → Completion) → StopsAt native_frame (phases.Due (starts.Native native false)) end waits top → Evaluates meaning (line_here meaning c f native_line) said (Err end) waits top c new
    native_due said s =
        subst (λ (x : Config S). Evaluates meaning (line_here meaning c f native_line) said (Err end) waits top c x) (sym same)
        (stopped_left meaning said (line_here meaning c f native_line) c native_frame (phases.Due (starts.Native native false)) end waits top due_left s)

    -- it is taken
    pub native_ready : {A : Type 0} (said : Table → A → Completion) → StopsAt native_frame (phases.Ready (starts.Native native false)) end waits top → Evaluates meaning (line_here meaning c f run_line) said (Err end) waits top c new
    native_ready said s =
        subst (λ (x : Config S). Evaluates meaning (line_here meaning c f run_line) said (Err end) waits top c x) (sym same)
        (stopped_left meaning said (line_here meaning c f run_line) c native_frame (phases.Ready (starts.Native native false)) end waits top ready_left s)

    pub native_there : (phase : Phase) → HasPhase c native_frame phase → IsThere meaning c f → StandsHere c f node → HasObject c callee → HasValue c this → All (HasValue c) vs → StopsAt native_frame phase end waits top → HasBroken meaning new end waits top
    native_there phase p h n o i k s =
        let g = node_there meaning c f node (call_held (values.Object callee) this vs) h n (call_there c (values.Object callee) this vs o i k) in
        subst (λ (x : Config S). HasBroken meaning x end waits top) (sym same)
        (stops_there meaning c native_frame phase end waits top
        (record { scope = g.scope; this = i; world = g.world; held = g.held; stands = record { node = g.stands.node; shown = g.stands.shown } }) p s)

  -- its step is paid
  pub native_paid : {A : Type 0} (said : Table → A → Completion) (c new : Config S) (f : Frame) (native : Native) (this : Numbered) (vs : List Numbered) (done : Result A Broken) (waits : List Frame) (top : Option (Frame × Phase)) (left : ℕ) → c.left ≡ suc left
      → Evaluates meaning (line_here meaning (record c { left = left }) f (λ t env. native_of native false (each (value_in t) vs) (record env { this = value_in t this }))) said done waits top (record c { left = left }) new
      → Evaluates meaning (line_here meaning c f (λ t env. Eval (AtNative native false (each (value_in t) vs)) (record env { this = value_in t this }) Ret)) said done waits top c new
  native_paid said c new f native this vs done waits top left e d =
      in_memory done (λ d'. record {
        by = λ go later r h.
            let t = later.heap.texts in
            let goal = AtNative native false (each (value_in t) vs) in
            let env = record (env_in meaning c t f) { this = value_in t this } in
            follows_shorter meaning (Sub (Eval goal env Ret) go) (Eval goal env go) c later r (shorten_last goal env go)
            (step_paid meaning goal env go (Sub (entry goal env) go) c later left r e (λ st n. refl) (d'.by go later r h));
      }) d

  -- a call of one, whose `this` is settled
  pub native_entered : {A : Type 0} (said : Table → A → Completion) (c new : Config S) (f : Frame) (callee : ObjId) (native : Native) (this settled : Numbered) (vs : List Numbered) (done : Result A Broken) (waits : List Frame) (top : Option (Frame × Phase))
      → ((t : Table) (arena : Arena) → Sees meaning c t arena → (object_at arena callee).code ≡ code.Native native) → ((t : Table) → value_in t settled ≡ this_or_global (value_in t this) (env_in meaning c t f))
      → Evaluates meaning (line_here meaning c f (λ t env. Eval (AtNative native false (each (value_in t) vs)) (record env { this = value_in t settled }) Ret)) said done waits top c new
      → Evaluates meaning (line_here meaning c f (λ t env. call_values (Object callee) (value_in t this) env (each (value_in t) vs))) said done waits top c new
  native_entered said c new f callee native this settled vs done waits top seen is d =
      in_memory done (λ d'. record {
        by = λ go later r h.
            let t = later.heap.texts in
            let env = env_in meaning c t f in
            let l = each (value_in t) vs in
            let inner : Act = Eval (AtNative native false l) (record env { this = value_in t settled }) Ret in
            let looked : Arena → Act = λ arena. call_code (object_at arena callee).code callee (value_in t this) l env in
            follows_shorter meaning (Sub (call_values (Object callee) (value_in t this) env l) go) (Sub (Do Look looked) go) c later r (shorten_sub (call_values (Object callee) (value_in t this) env l) (Do Look looked) go (call_looks callee (value_in t this) l env))
            (follows_shorter meaning (Sub (Do Look looked) go) (Do Look (λ arena. Sub (looked arena) go)) c later r (shorten_deed Look looked go)
            (follows_look meaning (λ arena. Sub (looked arena) go) (Sub inner go) c later r
            (λ arena s. ap (λ (k : Code). Sub (call_code k callee (value_in t this) l env) go) (seen t arena s)
            ∙ ap (λ (v : Value). Sub (Eval (AtNative native false l) (record env { this = v }) Ret) go) (sym (is t)))
            (d'.by go later r h)));
      }) d
