-- References whose values are read, and what follows these.
use Rattle.std.proofs.Common.{◌≡◌, ℕ, List, [], Vec, Global, refl, sym, ap, subst}
use Rattle.std.specs.Prelude.{Option, None, Result, Ok, Err}
use Rattle.wjs_base.specs.declared.ids.NodeId.{NodeId}
use Rattle.wjs_base.specs.declared.ids.ObjId.{ObjId}
use Rattle.wjs_base.specs.declared.values.Value.{Value as Numbered}
use Rattle.wjs_base.specs.declared.values.Value.TheVariants as values
use Rattle.wjs_base.specs.Text.{Table, Grows}
use Rattle.wjs_by_content.specs.Tables.{value_in}
use Rattle.wjs_by_content.specs.Values.{Value}
use Rattle.wjs_store.specs.Meaning.{Meaning}
use Rattle.wjs_meaning.specs.Deeds.{Env, Completion, Gives, Throws, Act, Ret, Sub, give, then_value}
use Rattle.wjs_meaning.specs.Expressions.{base_of, call_callee, call_reference, call_values, values_from}
use Rattle.wjs_meaning.specs.Reading.{node_in}
use Rattle.wjs_meaning.specs.References.{value_of}
use Rattle.wjs_model.specs.declared.config.Config.{Config}
use Rattle.wjs_model.specs.declared.frame.Activation.{Activation as Frame}
use Rattle.wjs_model.specs.declared.frame.Phase.{Phase}
use Rattle.wjs_model.specs.declared.frame.Reference.{Reference as NumberedReference}
use Rattle.wjs_model.specs.declared.loaded.LoadedProgram.{LoadedProgram as Program}
use Rattle.wjs_model.specs.Contents.{reference_in}
use Rattle.wjs_model.specs.Lists.{arguments_of}
use Rattle.wjs_model.specs.Operands.{evaluated}
use Rattle.wjs_model.specs.Soundness.{HasValue}
use Rattle.wjs_frames.specs.Following.{Later}
use Rattle.wjs_frames.specs.Parts.{env_in, node_among}
use Rattle.wjs_frames.specs.Shortening.{Shortens}
use Rattle.wjs_frames.proofs.Shorter.{follows_shorter, shorten_ret, shorten_same, shorten_sub}
use Rattle.wjs_heap_steps.specs.Peeking.{Peeks}
use Rattle.wjs_effects.proofs.Storing.{value_goes}
use Rattle.wjs_stopping.specs.declared.ends.Broken.{Broken}
use Rattle.wjs_stopping.specs.declared.ends.Broken.TheVariants as ends
use Rattle.wjs_stopping.specs.Ends.{gives_in}
use Rattle.wjs_stopping.specs.Evaluating.{Evaluates, HasBroken, HasOutcome, InMemory}
use Rattle.wjs_stopping.proofs.Evaluating.{in_memory}
use Rattle.wjs_direct_lines.specs.Deeds.{line_here}
use Rattle.wjs_direct_lines.specs.References.{FindsCallee, FindsObject, ReadsAs, read_here}
use Rattle.wjs_direct_lines.proofs.Forming.{line_ended, line_moved}
use Rattle.wjs_direct_lines.proofs.Parts.{line_as, shortened}

-- what is no object is no function, whatever its `this`
no_function : (t : Table) (v : Numbered) (one other : Value) (env : Env) (vs : List Value) → ((o : ObjId) → v ≡ values.Object o → ⊥) → call_values (value_in t v) one env vs ≡ call_values (value_in t v) other env vs
no_function t values.Undefined one other env vs h = refl
no_function t values.Null one other env vs h = refl
no_function t (values.Bool b) one other env vs h = refl
no_function t (values.Number x) one other env vs h = refl
no_function t (values.Text id) one other env vs h = refl
no_function t (values.Object o) one other env vs h = absurd (h o refl)

pub whatever_this : (t : Table) (args : List ℕ) (v : Numbered) (one other : Value) (env : Env) → ((o : ObjId) → v ≡ values.Object o → ⊥) → call_callee args one env (value_in t v) ≡ call_callee args other env (value_in t v)
whatever_this t args v one other env h = λ i. values_from args [] env (λ vs. no_function t v one other env vs h i)

module _ {S : Type 0} (meaning : S → Meaning) where
  -- ---- how a read ends

  -- a look tells it
  pub look_reads : (c : Config S) (f : Frame) (q : NumberedReference) (v : Numbered) → Peeks meaning (read_here meaning c f q) (λ t. Gives (value_in t v)) c → ReadsAs meaning c f q v c
  look_reads c f q v peeks = record { by = λ go later r h. (peeks c.left).by go later r h }

  -- no frame stops in it
  pub read_found : (c : Config S) (end : Broken) (waits : List Frame) (top : Option (Frame × Phase)) → HasBroken meaning c end [] None → waits ≡ [] → HasBroken meaning c end waits top
  read_found c (ends.Throws x) waits top h empty = (h.0, empty)
  read_found c ends.Stopped waits top h empty = absurd h
  read_found c ends.OutOfMemory waits top h empty = tt

  -- what it throws ends the node
  pub read_broke : {A : Type 0} (said : Table → A → Completion) (old new : Config S) (f : Frame) (q : NumberedReference) (more : Table → Env → Value → Act) (end : Broken) (waits : List Frame) (top : Option (Frame × Phase))
      → HasBroken meaning new end [] None → Evaluates meaning {A = Numbered} (read_here meaning old f q) gives_in (Err end) [] None old new
      → Evaluates meaning (line_here meaning old f (λ t env. value_of (reference_in t q) env (more t env))) said (Err end) waits top old new
  read_broke said old new f q more (ends.Throws x) waits top b d = record {
    by = λ go later r h.
        let t = later.heap.texts in
        let env = env_in meaning old t f in
        let k : Value → Act = more t env in
        let thrown : Completion = Throws (value_in t x) in
        follows_shorter meaning (Sub (value_of (reference_in t q) env k) go) (evaluated (reference_in t q) env (λ e. Sub (then_value k e) go)) old later r (value_goes env k go (reference_in t q))
        (d.by (λ e. Sub (then_value k e) go) later r (follows_shorter meaning (Sub (Ret thrown) go) (go thrown) new later r (shorten_ret thrown go) h));
  }
  read_broke said old new f q more ends.Stopped waits top b d = absurd b
  read_broke said old new f q more ends.OutOfMemory waits top b d = tt

  -- ---- what follows its value

  pub read_goes : {A : Type 0} (said : Table → A → Completion) (old mid new : Config S) (f : Frame) (q : NumberedReference) (more : Table → Env → Value → Act) (v : Numbered) (done : Result A Broken) (waits : List Frame) (top : Option (Frame × Phase))
      → Later meaning old mid → ReadsAs meaning old f q v mid → Evaluates meaning (line_here meaning mid f (λ t env. more t env (value_in t v))) said done waits top mid new
      → Evaluates meaning (line_here meaning old f (λ t env. value_of (reference_in t q) env (more t env))) said done waits top old new
  read_goes said old mid new f q more v done waits top l one d =
      in_memory done (λ d'. record {
        by = λ go later r h.
            let t = later.heap.texts in
            let env = env_in meaning old t f in
            let k : Value → Act = more t env in
            follows_shorter meaning (Sub (value_of (reference_in t q) env k) go) (evaluated (reference_in t q) env (λ e. Sub (then_value k e) go)) old later r (value_goes env k go (reference_in t q))
            (one.by (λ e. Sub (then_value k e) go) later r (d'.by go later r h));
      }) (line_moved meaning said old mid new f (λ t env. more t env (value_in t v)) done waits top l d)

  -- ---- a line that gives its value

  pub read_value_found : (c : Config S) (done : Result Numbered Broken) (waits : List Frame) (top : Option (Frame × Phase)) → HasOutcome meaning HasValue c done [] None → waits ≡ [] → HasOutcome meaning HasValue c done waits top
  read_value_found c (Ok v) waits top h empty = (h.0, empty)
  read_value_found c (Err end) waits top h empty = read_found c end waits top h empty

  value_given : (old new : Config S) (f : Frame) (q : NumberedReference) (done : Result Numbered Broken) (waits : List Frame) (top : Option (Frame × Phase))
      → InMemory done (Later meaning old new) → HasOutcome meaning HasValue new done [] None → Evaluates meaning (read_here meaning old f q) gives_in done [] None old new
      → Evaluates meaning (line_here meaning old f (λ t env. value_of (reference_in t q) env give)) gives_in done waits top old new
  value_given old new f q (Ok v) waits top l h d =
      read_goes gives_in old new new f q (λ t env. give) v (Ok v) waits top l d
      (line_ended meaning gives_in new f (λ t env. give (value_in t v)) v waits top (λ t more env. shorten_same (give (value_in t v))))
  value_given old new f q (Err end) waits top l h d = read_broke gives_in old new f q (λ t env. give) end waits top h d

  pub read_value_does : (old new : Config S) (f : Frame) (q : NumberedReference) (act : Table → Env → Act) (done : Result Numbered Broken) (waits : List Frame) (top : Option (Frame × Phase))
      → ((t : Table) → Grows old.heap.texts t → (env : Env) → Shortens (act t env) (value_of (reference_in t q) env give))
      → InMemory done (Later meaning old new) → HasOutcome meaning HasValue new done [] None → Evaluates meaning (read_here meaning old f q) gives_in done [] None old new
      → Evaluates meaning (line_here meaning old f act) gives_in done waits top old new
  read_value_does old new f q act done waits top s l h d =
      shortened meaning gives_in (line_here meaning old f act) (line_here meaning old f (λ t env. value_of (reference_in t q) env give)) done waits top old new
      (λ t more go. shorten_sub _ _ go (s t more (env_in meaning old t f))) (value_given old new f q done waits top l h d)

  -- a callee, and its call
  pub callee_goes : (old mid new : Config S) (f : Frame) (q : NumberedReference) (args : Table → List ℕ) (v this : Numbered) (done : Result Numbered Broken) (waits : List Frame) (top : Option (Frame × Phase))
      → Later meaning old mid → ReadsAs meaning old f q v mid → ((t : Table) → value_in t this ≡ base_of (reference_in t q))
      → Evaluates meaning (line_here meaning mid f (λ t env. call_callee (args t) (value_in t this) env (value_in t v))) gives_in done waits top mid new
      → Evaluates meaning (line_here meaning old f (λ t env. call_reference (args t) env (reference_in t q))) gives_in done waits top old new
  callee_goes old mid new f q args v this done waits top l one is d =
      read_goes gives_in old mid new f q (λ t env. call_callee (args t) (base_of (reference_in t q)) env) v done waits top l one
      (line_as meaning gives_in mid new f (λ t env. call_callee (args t) (base_of (reference_in t q)) env (value_in t v)) done waits top (λ t env. call_callee (args t) (value_in t this) env (value_in t v))
      (λ t more. ap (λ (b : Value). call_callee (args t) b (env_in meaning mid t f) (value_in t v)) (sym (is t))) d)

  -- its value is an object, or its call broke off behind it
  pub callee_found : (old mid new : Config S) (f : Frame) (node : NodeId) (q : NumberedReference) (v : Numbered) (done : Result ObjId Broken) (waits : List Frame) (top : Option (Frame × Phase)) → Later meaning old mid → new ≡ mid
      → ReadsAs meaning old f q v mid → FindsObject meaning mid f node v done waits top new → FindsCallee meaning old f node q done waits top new
  callee_found old mid new f node q v (Ok o) waits top l same one is =
      subst (λ (c : Config S). ReadsAs meaning old f q (values.Object o) c) (sym same) (subst (λ (x : Numbered). ReadsAs meaning old f q x mid) is one)
  callee_found old mid new f node q v (Err end) waits top l same one is =
      read_goes {A = Numbered} gives_in old mid new f q (λ t env. call_callee (arguments_of (node_in t (node_among old.units.items f.tree node))) (base_of (reference_in t q)) env) v (Err end) waits top l one
      (subst (λ (us : Vec Program Global). Evaluates meaning (line_here meaning mid f (λ t env. call_callee (arguments_of (node_in t (node_among us.items f.tree node))) (base_of (reference_in t q)) env (value_in t v))) gives_in (Err end) waits top mid new)
      l.units (is (λ t. base_of (reference_in t q))))
