-- Deeds of which an effect is left, one after another.
use Rattle.std.proofs.Common.{◌≡◌, ℕ, ◌-◌, ◌<◌, refl, sym, subst}
use Rattle.std.specs.Prelude.{Option, None, Some, Result, Ok, Err, OnOk}
use Rattle.std.proofs.lemmas.Result.{on_ok_weaker}
use Rattle.wjs_base.specs.declared.ids.OutOfMemory.{OutOfMemory}
use Rattle.wjs_base.specs.declared.ids.TextId.{TextId}
use Rattle.wjs_base.specs.declared.values.Value.{Value as Numbered}
use Rattle.wjs_base.specs.Text.{Table, Grows}
use Rattle.wjs_base.proofs.TextLaws.{Grows-trans}
use Rattle.wjs_store.specs.Meaning.{Meaning}
use Rattle.wjs_scope.specs.declared.place.Place.{Place}
use Rattle.wjs_by_content.specs.Tables.{text_in, value_in}
use Rattle.wjs_by_content.specs.Values.{Value}
use Rattle.wjs_meaning.specs.Deeds.{Env, Goal, Reference, Completion, Gives, Returns, Act, Ret, Eval, Sub, then_value}
use Rattle.wjs_meaning.specs.Programs.{entry}
use Rattle.wjs_meaning.specs.References.{reference_at, value_of, store}
use Rattle.wjs_model.specs.declared.config.Config.{Config}
use Rattle.wjs_model.specs.declared.frame.Activation.{Activation as Frame}
use Rattle.wjs_model.specs.declared.frame.Completion.{Completion as NumberedCompletion}
use Rattle.wjs_model.specs.declared.frame.Completion.TheVariants as completions
use Rattle.wjs_model.specs.declared.frame.Reference.{Reference as NumberedReference}
use Rattle.wjs_model.specs.declared.operand.Operand.{Operand}
use Rattle.wjs_model.specs.Contents.{completion_in, operand_in, reference_in}
use Rattle.wjs_model.specs.Operands.{evaluated, with_operand}
use Rattle.wjs_model.specs.Units.{place_in}
use Rattle.wjs_frames.specs.declared.part.Part.{Part}
use Rattle.wjs_frames.specs.Following.{Follows, Later}
use Rattle.wjs_frames.specs.Operands.{IsOperand}
use Rattle.wjs_frames.specs.Parts.{goal_of, env_in}
use Rattle.wjs_frames.specs.Shortening.{Shortens}
use Rattle.wjs_frames.proofs.Paying.{step_paid}
use Rattle.wjs_frames.proofs.Shorter.{shorten_same, shorten_ret, shorten_sub, shorten_ended, follows_shorter}
use Rattle.wjs_heap_steps.specs.Peeking.{Peeks}
use Rattle.wjs_quick.specs.Coming.{GoalYields, GoalComes}
use Rattle.wjs_quick.proofs.Coming.{one_less, shorten_goal, shorten_last}
use Rattle.wjs_effects.specs.declared.effect.Effect.{Effect}
use Rattle.wjs_effects.specs.declared.effect.Made.{Made}
use Rattle.wjs_effects.specs.declared.effect.Made.TheVariants.{There, Joined}
use Rattle.wjs_effects.specs.declared.effect.Pieces.{Pieces}
use Rattle.wjs_effects.specs.Effects.{Rest, stored, ends, returns, stores, carried}
use Rattle.wjs_effects.specs.Leaving.{GoalLeaves, ActLeaves, Ends, ActEnds, GoalEnds}
use Rattle.wjs_effects.specs.Making.{made_in, HasIf, HasPieces, HasMade}
use Rattle.wjs_effects.proofs.Storing.{value_goes, referred_goes, store_shortens, carried_goes}

-- deeds that are the same
pub shorten_as : (a b : Act) → a ≡ b → Shortens a b
shorten_as a b e = subst (λ x. Shortens x b) (sym e) (shorten_same b)

-- an end within nested deeds that hand it on
shorten_handed : (k go : Completion → Act) (e d : Completion) → k e ≡ Ret d → Shortens (Sub (k e) go) (go d)
shorten_handed k go e d is = subst (λ (a : Act). Shortens (Sub a go) (go d)) (sym is) (shorten_ret d go)

module _ {S : Type 0} (meaning : S → Meaning) where
  abbrev with_left : Config S → ℕ → Config S
  with_left c left = record c { left = left }

  -- what pieces, values and effects name is there later
  if_later : (old new : Config S) (o : Option Numbered) → Later meaning old new → HasIf old o → HasIf new o
  if_later old new None l h = tt
  if_later old new (Some v) l h = l.values v h

  pieces_later : (old new : Config S) (p : Pieces) → Later meaning old new → HasPieces old p → HasPieces new p
  pieces_later old new p l h = ((l.values p.first h.0.0, (l.values p.second h.0.1.0, (if_later old new p.third l h.0.1.1.0, if_later old new p.fourth l h.0.1.1.1))), λ t more. h.1 t (Grows-trans old.heap.texts new.heap.texts t l.texts more))

  pub made_later : (old new : Config S) (m : Made) → Later meaning old new → HasMade old m → HasMade new m
  made_later old new (There v) l h = l.values v h
  made_later old new (Joined p) l h = pieces_later old new p l h

  -- deeds that come to the same in fewer turns, under a table that has grown
  pub follows_when : (c later : Config S) (r : Result (Unit {0}) OutOfMemory) (long short : Act) → (Grows c.heap.texts later.heap.texts → Shortens long short) → OnOk r (Follows meaning short c later) → OnOk r (Follows meaning long c later)
  follows_when c later (Ok u) long short s h = follows_shorter meaning long short c later (Ok u) (s h.keeps.stays.texts) h
  follows_when c later (Err x) long short s h = h

  -- what is left is done, and so what it was left of
  pub leaves_done : (act : Table → Env → Act) (x : Rest) (e : NumberedCompletion) (c : Config S) (f : Frame) (before after : ℕ) (new : Config S) → ActLeaves meaning act x c f before after → Ends meaning x e c f after new → ActEnds meaning act e c f before new
  leaves_done act x e c f before after new d done = record { by = λ go later r h. d.by go later r (done.by go later r h) }

  pub goal_done : (goal : Goal) (x : Rest) (e : NumberedCompletion) (c : Config S) (f : Frame) (before after : ℕ) (new : Config S) → GoalLeaves meaning goal x c f before after → Ends meaning x e c f after new → GoalEnds meaning goal e c f before new
  goal_done goal x e c f before after new d done = record { by = λ go later r h. d.by go later r (done.by go later r h) }

  module _ (c : Config S) (f : Frame) where
    -- ---- goals

    -- one that gives a value
    pub leaves_value : (goal : Goal) (v : Numbered) (before after : ℕ) → GoalComes meaning goal v c f before after → GoalLeaves meaning goal (ends (completions.Gives v)) c f before after
    leaves_value goal v before after d = record { by = λ go later r h. d.by go later r h }

    -- the step is taken, and then what follows it
    pub leaves_entered : (goal : Goal) (x : Rest) (before after : ℕ) → 0 < before → ActLeaves meaning (λ t env. entry goal env) x c f (before - 1) after → GoalLeaves meaning goal x c f before after
    leaves_entered goal x before after some d = record {
      by = λ go later r h.
          let env = env_in meaning c later.heap.texts f in
          step_paid meaning goal env go (Sub (entry goal env) go) (with_left c before) later (before - 1) r (one_less before some) (λ st n. refl) (d.by go later r h);
    }

    -- an operand that is had at once
    pub leaves_operand : (p : Part) (o : Operand) (e : NumberedCompletion) (before : ℕ) → 0 < before → IsOperand meaning c f p o → Peeks meaning (λ t. with_operand (operand_in t o) (env_in meaning c t f)) (λ t. completion_in t e) c → GoalLeaves meaning (goal_of p) (ends e) c f before (before - 1)
    leaves_operand p o e before some is d = record {
      by = λ go later r h.
          let t = later.heap.texts in
          let env = env_in meaning c t f in
          step_paid meaning (goal_of p) env go (with_operand (operand_in t o) env go) (with_left c before) later (before - 1) r (one_less before some) (λ st n. is.does t go st n) ((d (before - 1)).by go later r h);
    }

    -- ---- deeds

    -- a goal that ends, and then what follows it
    pub leaves_by : (goal : Goal) (k : Table → Env → Completion → Act) (e : NumberedCompletion) (x : Rest) (before mid after : ℕ) → GoalLeaves meaning goal (ends e) c f before mid → ActLeaves meaning (λ t env. k t env (completion_in t e)) x c f mid after → ActLeaves meaning (λ t env. Eval goal env (k t env)) x c f before after
    leaves_by goal k e x before mid after one two = record {
      by = λ go later r h.
          let t = later.heap.texts in
          let env = env_in meaning c t f in
          let next : Completion → Act = λ d. Sub (k t env d) go in
          follows_shorter meaning (Sub (Eval goal env (k t env)) go) (Eval goal env next) (with_left c before) later r (shorten_goal goal env (k t env) go) (one.by next later r (two.by go later r h));
    }

    -- a goal that gives a value, told by content, and then what follows it
    pub leaves_yielded : (goal : Goal) (k : Table → Env → Completion → Act) (v : Table → Value) (x : Rest) (before mid after : ℕ) → GoalYields meaning goal v c f before mid → ActLeaves meaning (λ t env. k t env (Gives (v t))) x c f mid after → ActLeaves meaning (λ t env. Eval goal env (k t env)) x c f before after
    leaves_yielded goal k v x before mid after one two = record {
      by = λ go later r h.
          let t = later.heap.texts in
          let env = env_in meaning c t f in
          let next : Completion → Act = λ d. Sub (k t env d) go in
          follows_shorter meaning (Sub (Eval goal env (k t env)) go) (Eval goal env next) (with_left c before) later r (shorten_goal goal env (k t env) go) (one.by next later r (two.by go later r h));
    }

    -- a goal that is all of them
    pub leaves_last : (goal : Goal) (x : Rest) (before after : ℕ) → GoalLeaves meaning goal x c f before after → ActLeaves meaning (λ t env. Eval goal env Ret) x c f before after
    leaves_last goal x before after d = record {
      by = λ go later r h.
          let env = env_in meaning c later.heap.texts f in
          follows_shorter meaning (Sub (Eval goal env Ret) go) (Eval goal env go) (with_left c before) later r (shorten_last goal env go) (d.by go later r h);
    }

    -- a goal whose completion is handed on
    pub leaves_through : (goal : Goal) (k : Completion → Act) (x : Effect) (before after : ℕ) → ((e : Completion) → k e ≡ Ret e) → GoalLeaves meaning goal (carried x) c f before after → ActLeaves meaning (λ t env. Eval goal env k) (carried x) c f before after
    leaves_through goal k x before after is d = record {
      by = λ go later r h.
          let t = later.heap.texts in
          let env = env_in meaning c t f in
          let next : Completion → Act = λ e. Sub (k e) go in
          follows_shorter meaning (Sub (Eval goal env k) go) (Eval goal env next) (with_left c before) later r (shorten_goal goal env k go)
          (d.by next later r (follows_shorter meaning (carried x t env next) (carried x t env go) (with_left c after) later r (carried_goes x t env next go (λ e. shorten_handed k go e e (is e))) h));
    }

    -- deeds that come to others where the texts have grown
    pub leaves_shorter : (long short : Table → Env → Act) (x : Rest) (before after : ℕ) → ((t : Table) → Grows c.heap.texts t → Shortens (long t (env_in meaning c t f)) (short t (env_in meaning c t f))) → ActLeaves meaning short x c f before after → ActLeaves meaning long x c f before after
    leaves_shorter long short x before after s d = record {
      by = λ go later r h.
          let t = later.heap.texts in
          let env = env_in meaning c t f in
          on_ok_weaker r (λ (k : Follows meaning (Sub (short t env) go) (with_left c before) later).
          follows_shorter meaning (Sub (long t env) go) (Sub (short t env) go) (with_left c before) later (Ok tt) (shorten_sub (long t env) (short t env) go (s t k.keeps.stays.texts)) k) (d.by go later r h);
    }

    pub leaves_as : (one two : Table → Env → Act) (x : Rest) (before after : ℕ) → ((t : Table) → Grows c.heap.texts t → two t (env_in meaning c t f) ≡ one t (env_in meaning c t f)) → ActLeaves meaning one x c f before after → ActLeaves meaning two x c f before after
    leaves_as one two x before after e d = leaves_shorter two one x before after (λ t g. shorten_as (two t (env_in meaning c t f)) (one t (env_in meaning c t f)) (e t g)) d

    -- deeds that end
    pub leaves_ended : (act : Table → Env → Act) (e : NumberedCompletion) (left : ℕ) → ((t : Table) → Grows c.heap.texts t → Shortens (act t (env_in meaning c t f)) (Ret (completion_in t e))) → ActLeaves meaning act (ends e) c f left left
    leaves_ended act e left s = record {
      by = λ go later r h.
          let t = later.heap.texts in
          let env = env_in meaning c t f in
          on_ok_weaker r (λ (k : Follows meaning (go (completion_in t e)) (with_left c left) later).
          follows_shorter meaning (Sub (act t env) go) (go (completion_in t e)) (with_left c left) later (Ok tt) (shorten_ended (act t env) (completion_in t e) go (s t k.keeps.stays.texts)) k) h;
    }

    -- the value of a reference, and then what follows it
    pub leaves_evaluated : (q : NumberedReference) (more : Table → Env → Value → Act) (v : Numbered) (x : Rest) (before after : ℕ) → Peeks meaning (λ t. evaluated (reference_in t q) (env_in meaning c t f)) (λ t. Gives (value_in t v)) c → ActLeaves meaning (λ t env. more t env (value_in t v)) x c f before after
        → ActLeaves meaning (λ t env. value_of (reference_in t q) env (more t env)) x c f before after
    leaves_evaluated q more v x before after p d = record {
      by = λ go later r h.
          let t = later.heap.texts in
          let env = env_in meaning c t f in
          let next : Completion → Act = λ e. Sub (then_value (more t env) e) go in
          follows_shorter meaning (Sub (value_of (reference_in t q) env (more t env)) go) (evaluated (reference_in t q) env next) (with_left c before) later r (value_goes env (more t env) go (reference_in t q))
          ((p before).by next later r (d.by go later r h));
    }

    -- a store, and then an end
    pub leaves_stored : (q : NumberedReference) (m : Made) (end : Table → Completion) (left : ℕ) → ActLeaves meaning (λ t env. store (reference_in t q) (made_in t m) env (Ret (end t))) (stores q m end) c f left left
    leaves_stored q m end left = record {
      by = λ go later r h.
          let t = later.heap.texts in
          let env = env_in meaning c t f in
          let v = made_in t m in
          follows_shorter meaning (Sub (store (reference_in t q) v env (Ret (end t))) go) (stored (reference_in t q) v env (end t) go) (with_left c left) later r (store_shortens v env (end t) go (reference_in t q)) h;
    }

    -- the end of a `return`
    pub leaves_returned : (m : Made) (left : ℕ) → ActLeaves meaning (λ t env. Ret (Returns (made_in t m))) (returns m) c f left left
    leaves_returned m left = record {
      by = λ go later r h.
          let e : Completion = Returns (made_in later.heap.texts m) in
          follows_shorter meaning (Sub (Ret e) go) (go e) (with_left c left) later r (shorten_ret e go) h;
    }

    -- deeds of which nothing is done yet
    pub leaves_all : (act : Table → Env → Act) (left : ℕ) → ActLeaves meaning act (λ t env go. Sub (act t env) go) c f left left
    leaves_all act left = record { by = λ go later r h. h }

    -- the reference of a name, and then what follows it
    pub leaves_referred : (place : Place) (id : TextId) (q : NumberedReference) (more : Table → Env → Reference → Act) (x : Rest) (before after : ℕ) → Peeks meaning (λ t. reference_at (place_in place) (text_in t id) (env_in meaning c t f)) (λ t. reference_in t q) c → ActLeaves meaning (λ t env. more t env (reference_in t q)) x c f before after
        → ActLeaves meaning (λ t env. reference_at (place_in place) (text_in t id) env (more t env)) x c f before after
    leaves_referred place id q more x before after p d = record {
      by = λ go later r h.
          let t = later.heap.texts in
          let env = env_in meaning c t f in
          let next : Reference → Act = λ y. Sub (more t env y) go in
          follows_shorter meaning (Sub (reference_at (place_in place) (text_in t id) env (more t env)) go) (reference_at (place_in place) (text_in t id) env next) (with_left c before) later r (referred_goes (place_in place) (text_in t id) env (more t env) go)
          ((p before).by next later r (d.by go later r h));
    }

    -- ---- deeds that were done

    -- the step is taken, and then what follows it
    pub ends_entered : (goal : Goal) (act : Table → Env → Act) (e : NumberedCompletion) (before : ℕ) (new : Config S) → 0 < before → ((t : Table) → entry goal (env_in meaning c t f) ≡ act t (env_in meaning c t f)) → ActEnds meaning act e c f (before - 1) new → GoalEnds meaning goal e c f before new
    ends_entered goal act e before new some is d =
        let x : Rest = λ t env go. Sub (act t env) go in
        goal_done goal x e c f before (before - 1) new (leaves_entered goal x before (before - 1) some (leaves_as act (λ t env. entry goal env) x (before - 1) (before - 1) (λ t more. is t) (leaves_all act (before - 1)))) d

    -- a goal, and then what follows it
    pub ends_by : (goal : Goal) (k : Table → Env → Completion → Act) (e d : NumberedCompletion) (before mid : ℕ) (new : Config S) → GoalLeaves meaning goal (ends e) c f before mid → ActEnds meaning (λ t env. k t env (completion_in t e)) d c f mid new → ActEnds meaning (λ t env. Eval goal env (k t env)) d c f before new
    ends_by goal k e d before mid new one two =
        let x : Rest = λ t env go. Sub (k t env (completion_in t e)) go in
        leaves_done (λ t env. Eval goal env (k t env)) x d c f before mid new (leaves_by goal k e x before mid mid one (leaves_all (λ t env. k t env (completion_in t e)) mid)) two

    -- a goal, whose completion leads to an end
    pub ends_through : (goal : Goal) (k : Completion → Act) (e d : NumberedCompletion) (left : ℕ) (new : Config S) → ((t : Table) → k (completion_in t e) ≡ Ret (completion_in t d)) → GoalEnds meaning goal e c f left new → ActEnds meaning (λ t env. Eval goal env k) d c f left new
    ends_through goal k e d left new is done = record {
      by = λ go later r h.
          let t = later.heap.texts in
          let env = env_in meaning c t f in
          let next : Completion → Act = λ x. Sub (k x) go in
          follows_shorter meaning (Sub (Eval goal env k) go) (Eval goal env next) (with_left c left) later r (shorten_goal goal env k go)
          (done.by next later r (follows_shorter meaning (Sub (k (completion_in t e)) go) (go (completion_in t d)) new later r (shorten_handed k go (completion_in t e) (completion_in t d) (is t)) h));
    }
