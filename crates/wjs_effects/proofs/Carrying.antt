-- Stores that are done, and how they end.
use Rattle.std.proofs.Common.{◌≡◌, ℕ, [], sym, refl, ap, ◌∙◌, subst}
use Rattle.std.specs.Prelude.{OnOk}
use Rattle.wjs_base.specs.declared.ids.ObjId.{ObjId}
use Rattle.wjs_base.specs.declared.values.Value.{Value as Numbered}
use Rattle.wjs_base.specs.declared.values.Value.TheVariants as values
use Rattle.wjs_base.specs.Text.{Table}
use Rattle.wjs_store.specs.Meaning.{Meaning}
use Rattle.wjs_by_content.specs.declared.answers.PutAnswer.{PutAnswer}
use Rattle.wjs_by_content.specs.declared.answers.PutAnswer.TheVariants.{BadLength}
use Rattle.wjs_by_content.specs.Tables.{value_in}
use Rattle.wjs_by_content.specs.Values.{Text, Value, Object}
use Rattle.wjs_meaning.specs.declared.trouble.Trouble.TheVariants.{InvalidArrayLength}
use Rattle.wjs_meaning.specs.Deeds.{Env, Member, Completion, Throws, Act, Do, Create}
use Rattle.wjs_meaning.specs.Errors.{error_of}
use Rattle.wjs_meaning.specs.Properties.{put}
use Rattle.wjs_model.specs.declared.config.Config.{Config}
use Rattle.wjs_model.specs.declared.frame.Activation.{Activation as Frame}
use Rattle.wjs_model.specs.declared.frame.Completion.{Completion as NumberedCompletion}
use Rattle.wjs_model.specs.declared.frame.Reference.{Reference}
use Rattle.wjs_model.specs.Contents.{completion_in, reference_in}
use Rattle.wjs_model.specs.Soundness.{HasCompletion, HasValue}
use Rattle.wjs_frames.specs.Doing.{Does, DoesFirst}
use Rattle.wjs_frames.specs.Following.{Follows, Later}
use Rattle.wjs_frames.specs.Parts.{env_in}
use Rattle.wjs_heap_steps.proofs.Composing.{does_map, does_with}
use Rattle.wjs_effects.specs.declared.effect.Made.{Made}
use Rattle.wjs_effects.specs.declared.effect.Told.{Told}
use Rattle.wjs_effects.specs.declared.effect.Told.TheVariants as tells
use Rattle.wjs_effects.specs.Effects.{put_ended, stored, told_in, told_of}
use Rattle.wjs_effects.specs.Making.{made_in}

-- a store to a member of a primitive does nothing
pub stored_stays : (t : Table) (base : Numbered) (name : Text) (v : Value) (env : Env) (e : Completion) (go : Completion → Act) → ((o : ObjId) → base ≡ values.Object o → ⊥) → stored (Member (value_in t base) name) v env e go ≡ go e
stored_stays t values.Undefined name v env e go h = refl
stored_stays t values.Null name v env e go h = refl
stored_stays t (values.Bool b) name v env e go h = refl
stored_stays t (values.Number x) name v env e go h = refl
stored_stays t (values.Text id) name v env e go h = refl
stored_stays t (values.Object o) name v env e go h = absurd (h o refl)

-- what is told of a store
told_line : (t : Table) (told : Told) (v : Numbered) → completion_in t (told_of told v) ≡ told_in told (value_in t v)
told_line t tells.Stored v = refl
told_line t tells.Nothing v = refl

pub told_there : {S : Type 0} (c : Config S) (told : Told) (v : Numbered) → HasValue c v → HasCompletion c (told_of told v)
told_there c tells.Stored v h = h
told_there c tells.Nothing v h = tt

module _ {S : Type 0} (meaning : S → Meaning) where
  -- deeds that go on, and then an end
  pub carry_first : (deeds : Table → Act → Act) (e : Table → Completion) (old new : Config S) → DoesFirst meaning deeds old new → Does meaning (λ t go. deeds t (go (e t))) e old new
  carry_first deeds e old new d = record { by = λ go later r h. d.by (go (e later.heap.texts)) later r h }

  -- a value is made and stored, and then an end
  pub carry_made : (f : Frame) (q : Reference) (m : Made) (end : Table → Value → Completion) (v : Numbered) (last : Table → Completion) (old mid new : Config S) → Does meaning (λ t go. go (made_in t m)) (λ t. value_in t v) old mid → Later meaning old mid → Does meaning (λ t. stored (reference_in t q) (value_in t v) (env_in meaning mid t f) (end t (value_in t v))) last mid new
      → Does meaning (λ t. stored (reference_in t q) (made_in t m) (env_in meaning old t f) (end t (made_in t m))) last old new
  carry_made f q m end v last old mid new d l s = does_with meaning f (λ t. made_in t m) (λ t. value_in t v) (λ t x env go. stored (reference_in t q) x env (end t x) go) last old mid new d l s

  -- a store ends with what is told of it
  pub carry_told : (f : Frame) (q : Reference) (v : Numbered) (told : Told) (e : NumberedCompletion) (last : Table → Completion) (mid new : Config S) → e ≡ told_of told v
      → Does meaning (λ t. stored (reference_in t q) (value_in t v) (env_in meaning mid t f) (completion_in t e)) last mid new
      → Does meaning (λ t. stored (reference_in t q) (value_in t v) (env_in meaning mid t f) (told_in told (value_in t v))) last mid new
  carry_told f q v told e last mid new is d =
      let same : (t : Table) → completion_in t e ≡ told_in told (value_in t v) = λ t. ap (completion_in t) is ∙ told_line t told v in
      subst (λ (end : Table → Completion). Does meaning (λ t. stored (reference_in t q) (value_in t v) (env_in meaning mid t f) (end t)) last mid new) (λ i t. same t i) d

  -- a put, and then what its answer leads to
  module _ (o : ObjId) (name : Table → Text) (v : Table → Value) (f : Frame) (e : Table → Completion) (old mid : Config S) where
    abbrev ended : PutAnswer → Table → (Completion → Act) → Act
    ended a t go = put_ended (env_in meaning old t f) (e t) go a

    carry_put : (a : PutAnswer) (last : Table → Completion) (new : Config S) → Does meaning (λ t. put o (name t) (v t) (env_in meaning old t f)) (λ t. a) old mid → Does meaning (ended a) last mid new → Does meaning (λ t. stored (Member (Object o) (name t)) (v t) (env_in meaning old t f) (e t)) last old new
    carry_put a last new p q = record { by = λ go later r h. p.by (λ x. ended x later.heap.texts go) later r (q.by go later r h) }

    -- it ends as it is to
    pub carry_done : (a b : PutAnswer) → a ≡ b → ((t : Table) (go : Completion → Act) → ended b t go ≡ go (e t)) → Does meaning (λ t. put o (name t) (v t) (env_in meaning old t f)) (λ t. a) old mid → Does meaning (λ t. stored (Member (Object o) (name t)) (v t) (env_in meaning old t f) (e t)) e old mid
    carry_done a b is goes p = carry_put a e mid p (record {
      by = λ go later r h.
          let t = later.heap.texts in
          subst (λ (x : PutAnswer). OnOk r (Follows meaning (ended x t go) mid later)) (sym is) (subst (λ (act : Act). OnOk r (Follows meaning act mid later)) (sym (goes t go)) h);
    })

    -- the length is bad
    pub carry_refused : (a : PutAnswer) (error : ObjId) (new : Config S) → a ≡ BadLength → Later meaning old mid → Does meaning (λ t. put o (name t) (v t) (env_in meaning old t f)) (λ t. a) old mid → Does meaning (λ t go. Do (Create mid.owner (error_of InvalidArrayLength [])) go) (λ t. error) mid new
        → Does meaning (λ t. stored (Member (Object o) (name t)) (v t) (env_in meaning old t f) (e t)) (λ t. Throws (Object error)) old new
    carry_refused a error new is l p made =
        let thrown : Table → Completion = λ t. Throws (Object error) in
        let throws : Table → ObjId → Completion = λ t x. Throws (Object x) in
        let D : ℕ → Type 0 = λ n. Does meaning (λ t go. Do (Create n (error_of InvalidArrayLength [])) (λ x. go (Throws (Object x)))) thrown mid new in
        let A : PutAnswer → Type 0 = λ x. Does meaning (ended x) thrown mid new in
        carry_put a thrown new p (subst A (sym is) (subst D l.owner (does_map meaning (λ t go. Do (Create mid.owner (error_of InvalidArrayLength [])) go) (λ t. error) throws mid new made)))
