-- Deeds of which others are left, and what handlers go on with then.
use Rattle.std.proofs.Common.{◌≡◌, ℕ, suc, sym, ap, ◌∙◌, subst}
use Rattle.std.specs.Prelude.{Result, OnOk}
use Rattle.wjs_base.specs.declared.ids.OutOfMemory.{OutOfMemory}
use Rattle.wjs_base.specs.Text.{Table, Grows}
use Rattle.wjs_store.specs.Meaning.{Meaning}
use Rattle.wjs_base.specs.declared.ids.NodeId.{NodeId}
use Rattle.wjs_meaning.specs.Deeds.{Env, Goal, AtStmt, Completion, Act, Ret, Eval, Sub, interp}
use Rattle.wjs_meaning.specs.Programs.{eval, entry}
use Rattle.wjs_meaning.specs.Reading.{node_in}
use Rattle.wjs_model.specs.declared.config.Config.{Config}
use Rattle.wjs_model.specs.declared.point.Point.{Point}
use Rattle.wjs_model.specs.declared.frame.Activation.{Activation as Frame}
use Rattle.wjs_model.specs.Contents.{holding_in}
use Rattle.wjs_model.specs.Waiting.{after}
use Rattle.wjs_frames.specs.Doing.{Does}
use Rattle.wjs_frames.specs.Following.{Follows, Later}
use Rattle.wjs_frames.specs.Handling.{GoesOn}
use Rattle.wjs_frames.specs.Parts.{env_in, node_among, then_at}
use Rattle.wjs_frames.proofs.Handling.{env_later}
use Rattle.wjs_frames.proofs.Paying.{step_paid}
use Rattle.wjs_frames.proofs.Shorter.{follows_shorter}
use Rattle.wjs_quick.proofs.Coming.{then_ends}
use Rattle.wjs_quick.proofs.Entering.{shorten_after}
use Rattle.wjs_step_common.proofs.Following.{follows_as}
use Rattle.wjs_effects.specs.Proceeding.{Proceeds}

module _ {S : Type 0} (meaning : S → Meaning) where
  pub proceeds_same : (all : Table → Act) (c : Config S) → Proceeds meaning all all c c
  proceeds_same all c = record { by = λ later r h. h }

  pub proceeds_twice : (all some rest : Table → Act) (old mid new : Config S) → Proceeds meaning all some old mid → Proceeds meaning some rest mid new → Proceeds meaning all rest old new
  proceeds_twice all some rest old mid new p q = record { by = λ later r h. p.by later r (q.by later r h) }

  -- deeds that are the same
  pub proceeds_as : (one two rest : Table → Act) (old mid : Config S) → ((t : Table) → Grows old.heap.texts t → one t ≡ two t) → Proceeds meaning one rest old mid → Proceeds meaning two rest old mid
  proceeds_as one two rest old mid e p = record { by = λ later r h. let t = later.heap.texts in follows_as meaning (one t) (two t) old later r (e t) (p.by later r h) }

  -- where a frame is run
  module _ (f : Frame) where
    -- a deed, and then what follows its answer
    pub proceeds_by : {A : Type 0} (deeds : Table → (A → Act) → Act) (answer : Table → A) (more : Table → Env → A → Act) (rest : Table → Env → Act) (old mid : Config S) → Does meaning deeds answer old mid → Later meaning old mid → ((t : Table) → Grows mid.heap.texts t → more t (env_in meaning mid t f) (answer t) ≡ rest t (env_in meaning mid t f))
        → Proceeds meaning (λ t. deeds t (more t (env_in meaning old t f))) (λ t. rest t (env_in meaning mid t f)) old mid
    proceeds_by deeds answer more rest old mid d l e = record {
      by = λ later r h.
          let t = later.heap.texts in
          d.by (more t (env_in meaning old t f)) later r (follows_as meaning (rest t (env_in meaning mid t f)) (more t (env_in meaning old t f) (answer t)) mid later r
          (λ grows. sym (e t grows) ∙ ap (λ (env : Env). more t env (answer t)) (env_later meaning old mid t f l)) h);
    }

    -- a step, and then the entry of its goal
    pub proceeds_paid : (goal : Goal) (act : Table → Env → Act) (old : Config S) (left : ℕ) → old.left ≡ suc left → ((t : Table) → entry goal (env_in meaning old t f) ≡ act t (env_in meaning old t f)) → Proceeds meaning (λ t. Eval goal (env_in meaning old t f) Ret) (λ t. act t (env_in meaning old t f)) old (record old { left = left })
    proceeds_paid goal act old left el is = record {
      by = λ later r h.
          let t = later.heap.texts in
          let env = env_in meaning old t f in
          step_paid meaning goal env Ret (act t env) old later left r el (λ st n. then_ends (interp eval (entry goal env) st n) ∙ ap (λ (a : Act). interp eval a st n) (is t)) h;
    }

    -- what the frame does at a point stays
    then_later : (point : Point) (t : Table) (old mid : Config S) (e : Completion) → Later meaning old mid → then_at meaning mid f point t (env_in meaning mid t f) e ≡ then_at meaning old f point t (env_in meaning old t f) e
    then_later point t old mid e l = λ i. after point f.node.0 (node_in t (node_among (l.units i).items f.tree f.node)) (holding_in t f.held) (env_later meaning old mid t f l i) e

    -- a statement was done, and the frame goes on at a point with its end
    pub done_and_given : (point : Point) (s : NodeId) (answer : Table → Completion) (old mid new : Config S) (r : Result (Unit {0}) OutOfMemory) → Does meaning (λ t go. Eval (AtStmt s.0) (env_in meaning old t f) go) answer old mid → Later meaning old mid → GoesOn meaning f mid new r (λ t env. Sub (Ret (answer t)) (then_at meaning mid f point t env))
        → GoesOn meaning f old new r (λ t env. Eval (AtStmt s.0) env (then_at meaning old f point t env))
    done_and_given point s answer old mid new r d l h =
        let t = new.heap.texts in
        let env = env_in meaning old t f in
        let go = then_at meaning old f point t env in
        let P : (Completion → Act) → Type 0 = λ k. OnOk r (Follows meaning (Sub (Ret (answer t)) k) mid new) in
        follows_shorter meaning (Eval (AtStmt s.0) env go) (Eval (AtStmt s.0) env (λ e. Sub (Ret e) go)) old new r (shorten_after (AtStmt s.0) env go)
        (d.by (λ e. Sub (Ret e) go) new r (subst P (λ i. λ e. then_later point t old mid e l i) h))
