-- Assignments: a value that is stored, or the result of an operation.
use Rattle.std.proofs.Common.{◌≡◌, List, [], inl, inr, refl, subst, sym}
use Rattle.std.specs.Prelude.{Option, Result, Ok, Err, MatchResult}
use Rattle.wjs_base.specs.Text.{Table}
use Rattle.wjs_base.specs.declared.values.Value.{Value as Numbered}
use Rattle.wjs_by_content.specs.Tables.{value_in}
use Rattle.wjs_store.specs.Meaning.{Meaning}
use Rattle.wjs_tree.specs.declared.operators.BinaryOperator.{BinaryOperator}
use Rattle.wjs_meaning.specs.Deeds.{Completion, Act, Ret, Gives, Sub, then_value}
use Rattle.wjs_meaning.specs.Expressions.{assign_value, compound_value}
use Rattle.wjs_meaning.specs.Operators.{operate}
use Rattle.wjs_meaning.specs.References.{store}
use Rattle.wjs_meaning.specs.Statements.{return_value}
use Rattle.wjs_model.specs.declared.config.Config.{Config}
use Rattle.wjs_model.specs.declared.frame.Activation.{Activation as Frame}
use Rattle.wjs_model.specs.declared.frame.Phase.{Phase}
use Rattle.wjs_model.specs.declared.frame.Reference.{Reference as NumberedReference}
use Rattle.wjs_model.specs.declared.frame.Completion.{Completion as Said}
use Rattle.wjs_model.specs.declared.frame.Completion.TheVariants as completions
use Rattle.wjs_model.specs.Contents.{completion_in, reference_in}
use Rattle.wjs_model.specs.Soundness.{HasCompletion, HasValue}
use Rattle.wjs_frames.specs.Doing.{Does}
use Rattle.wjs_frames.specs.Following.{Later}
use Rattle.wjs_frames.specs.Parts.{env_in}
use Rattle.wjs_frames.proofs.Shorter.{follows_shorter}
use Rattle.wjs_heap_steps.specs.Reads.{GivesOrThrows}
use Rattle.wjs_effects.specs.Effects.{stored, EndsOrThrows}
use Rattle.wjs_effects.proofs.Storing.{store_shortens}
use Rattle.wjs_stopping.specs.declared.ends.Broken.{Broken}
use Rattle.wjs_stopping.specs.declared.ends.Broken.TheVariants as ends
use Rattle.wjs_stopping.specs.Ends.{gives_in}
use Rattle.wjs_stopping.specs.Evaluating.{Evaluates, HasOutcome, InMemory}
use Rattle.wjs_stopping.proofs.Evaluating.{in_memory}
use Rattle.wjs_direct_lines.specs.Deeds.{IsThrown, line_here, returned_by}
use Rattle.wjs_direct_lines.proofs.Forming.{line_moved}
use Rattle.wjs_direct_lines.proofs.Nesting.{shorten_within}
use Rattle.wjs_direct_lines.proofs.Parts.{did, shortened}

-- what broke off did so, whatever the deeds would have ended with
pub broken_as : (A B T : Type 0) (end : Broken) → InMemory {A = A} (Err end) T → InMemory {A = B} (Err end) T
broken_as A B T (ends.Throws e) h = h
broken_as A B T ends.Stopped h = h
broken_as A B T ends.OutOfMemory h = h

module _ {S : Type 0} (meaning : S → Meaning) {A : Type 0} (said : Table → A → Completion) (old mid new : Config S) (f : Frame) where
  -- the result of an operation, and then its store
  pub operated_then : (op : BinaryOperator) (q : NumberedReference) (a b v : Numbered) (done : Result A Broken) (waits : List Frame) (top : Option (Frame × Phase)) → Later meaning old mid
      → Does meaning (λ t go. Sub (operate op (value_in t a) (value_in t b) (env_in meaning old t f)) go) (λ t. Gives (value_in t v)) old mid
      → Evaluates meaning (line_here meaning mid f (λ t env. assign_value (reference_in t q) env (value_in t v))) said done waits top mid new
      → Evaluates meaning (line_here meaning old f (λ t env. compound_value op (value_in t a) (reference_in t q) env (value_in t b))) said done waits top old new
  operated_then op q a b v done waits top l one d =
      in_memory done (λ d'. record {
        by = λ go later r h.
            let t = later.heap.texts in
            let env = env_in meaning old t f in
            let act = operate op (value_in t a) (value_in t b) env in
            let next : Completion → Act = then_value (assign_value (reference_in t q) env) in
            follows_shorter meaning (Sub (Sub act next) go) (Sub act (λ e. Sub (next e) go)) old later r (shorten_within act next go) (one.by (λ e. Sub (next e) go) later r (d'.by go later r h));
      }) (line_moved meaning said old mid new f (λ t env. assign_value (reference_in t q) env (value_in t v)) done waits top l d)

module _ {S : Type 0} (meaning : S → Meaning) (c new : Config S) (f : Frame) where
  -- a store, and then an end
  pub store_done : (q : NumberedReference) (v : Numbered) (last : Said) (e : Said) (waits : List Frame) (top : Option (Frame × Phase))
      → Does meaning (λ t. stored (reference_in t q) (value_in t v) (env_in meaning c t f) (completion_in t last)) (λ t. completion_in t e) c new
      → Evaluates meaning (line_here meaning c f (λ t env. store (reference_in t q) (value_in t v) env (Ret (completion_in t last)))) completion_in (Ok e) waits top c new
  store_done q v last e waits top d =
      shortened meaning completion_in (line_here meaning c f (λ t env. store (reference_in t q) (value_in t v) env (Ret (completion_in t last))))
      (λ t go. stored (reference_in t q) (value_in t v) (env_in meaning c t f) (completion_in t last) go) (Ok e) waits top c new
      (λ t more go. store_shortens (value_in t v) (env_in meaning c t f) (completion_in t last) go (reference_in t q))
      (did meaning completion_in (λ t go. stored (reference_in t q) (value_in t v) (env_in meaning c t f) (completion_in t last) go) e waits top c new d)

-- ---- what a store ends with

pub ends_so : (v : Numbered) (e : Said) → EndsOrThrows (completions.Gives v) e → GivesOrThrows e
ends_so v e (inl is) = inl (v, is)
ends_so v e (inr (x, is)) = inr (x, is)

abbrev pub IsValueOf : Said → Result Numbered Broken → Type 0
IsValueOf e r = MatchResult r (λ v. e ≡ completions.Gives v) (λ broken. IsThrown e broken)

-- deeds that end with a value or throw come to it, or break off by it
pub value_does : {S : Type 0} (meaning : S → Meaning) (deeds : Table → (Completion → Act) → Act) (e : Said) (r : Result Numbered Broken) (waits : List Frame) (top : Option (Frame × Phase)) (c new : Config S)
    → IsValueOf e r → Evaluates meaning deeds completion_in (Ok e) waits top c new → Evaluates meaning deeds gives_in r waits top c new
value_does meaning deeds e (Ok v) waits top c new is d = subst (λ (x : Said). Evaluates meaning deeds completion_in (Ok x) waits top c new) is d
value_does meaning deeds e (Err broken) waits top c new (x, (thrown, is)) d =
    subst (λ (b : Broken). Evaluates meaning deeds gives_in (Err b) waits top c new) (sym thrown)
    (subst (λ (y : Said). Evaluates meaning deeds completion_in (Ok y) waits top c new) is d)

pub value_found : {S : Type 0} (meaning : S → Meaning) (e : Said) (r : Result Numbered Broken) (waits : List Frame) (top : Option (Frame × Phase)) (c : Config S)
    → IsValueOf e r → HasCompletion c e → waits ≡ [] → HasOutcome meaning HasValue c r waits top
value_found meaning e (Ok v) waits top c is h empty = (subst (λ (x : Said). HasCompletion c x) is h, empty)
value_found meaning e (Err broken) waits top c (x, (thrown, is)) h empty =
    subst (λ (b : Broken). HasOutcome meaning HasValue c (Err b) waits top) (sym thrown) (subst (λ (y : Said). HasCompletion c y) is h, empty)

-- ---- what a `return` ends with

pub returned_is : (t : Table) (e : Said) → then_value return_value (completion_in t e) ≡ Ret (completion_in t (returned_by e))
returned_is t (completions.Gives v) = refl
returned_is t (completions.Refers r) = refl
returned_is t completions.Normal = refl
returned_is t (completions.Breaks label) = refl
returned_is t (completions.Continues label) = refl
returned_is t (completions.Returns v) = refl
returned_is t (completions.Throws v) = refl

pub returned_there : {S : Type 0} (c : Config S) (e : Said) → HasCompletion c e → HasCompletion c (returned_by e)
returned_there c (completions.Gives v) h = h
returned_there c (completions.Refers r) h = h
returned_there c completions.Normal h = h
returned_there c (completions.Breaks label) h = h
returned_there c (completions.Continues label) h = h
returned_there c (completions.Returns v) h = h
returned_there c (completions.Throws v) h = h
