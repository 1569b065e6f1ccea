-- A part that has its value at once, where a frame enters it.
use Rattle.std.proofs.Common.{◌≡◌, ℕ, ◌≤◌, refl, subst, arith}
use Rattle.std.specs.Prelude.{Result, OnOk}
use Rattle.wjs_base.specs.declared.ids.OutOfMemory.{OutOfMemory}
use Rattle.wjs_base.specs.declared.values.Value.{Value as Numbered}
use Rattle.wjs_store.specs.Meaning.{Meaning}
use Rattle.wjs_by_content.specs.Tables.{value_in}
use Rattle.wjs_meaning.specs.Deeds.{Env, Goal, Completion, Gives, Act, Ret, Eval, Sub}
use Rattle.wjs_model.specs.declared.config.Config.{Config}
use Rattle.wjs_model.specs.declared.point.Point.{Point}
use Rattle.wjs_model.specs.declared.frame.Activation.{Activation as Frame}
use Rattle.wjs_frames.specs.declared.part.Part.{Part}
use Rattle.wjs_frames.specs.Doing.{Does}
use Rattle.wjs_frames.specs.Following.{Follows}
use Rattle.wjs_frames.specs.Parts.{goal_of, env_in, then_at}
use Rattle.wjs_frames.specs.Shortening.{Shortens}
use Rattle.wjs_frames.proofs.Shorter.{follows_shorter}

least : (n : ℕ) → n ≤ n
least n = omega arith

-- what comes after a goal may take a turn more
pub shorten_after : (goal : Goal) (env : Env) (go : Completion → Act) → Shortens (Eval goal env go) (Eval goal env (λ e. Sub (Ret e) go))
shorten_after goal env go = record { same = λ st n. refl; fewer = λ st c. least _ }

module _ {S : Type 0} (meaning : S → Meaning) where
  module _ (f : Frame) (p : Part) (v : Numbered) (old mid new : Config S) (r : Result (Unit {0}) OutOfMemory) (only : mid ≡ record old { left = mid.left }) (does : Does meaning (λ t go. Eval (goal_of p) (env_in meaning old t f) go) (λ t. Gives (value_in t v)) old mid) where
    -- the frame goes on at a point
    pub entered_quickly : (point : Point) → (let t = new.heap.texts in OnOk r (Follows meaning (Sub (Ret (Gives (value_in t v))) (then_at meaning mid f point t (env_in meaning mid t f))) mid new))
        → (let t = new.heap.texts in OnOk r (Follows meaning (Eval (goal_of p) (env_in meaning old t f) (then_at meaning old f point t (env_in meaning old t f))) old new))
    entered_quickly point h =
        let t = new.heap.texts in
        let env = env_in meaning old t f in
        let go = then_at meaning old f point t env in
        let P : Config S → Type 0 = λ c. OnOk r (Follows meaning (Sub (Ret (Gives (value_in t v))) (then_at meaning c f point t (env_in meaning c t f))) mid new) in
        follows_shorter meaning (Eval (goal_of p) env go) (Eval (goal_of p) env (λ e. Sub (Ret e) go)) old new r (shorten_after (goal_of p) env go) (does.by (λ e. Sub (Ret e) go) new r (subst P only h))

    -- the frame goes on at a point with the value in the same turn
    pub resumed_quickly : (point : Point) → (let t = new.heap.texts in OnOk r (Follows meaning (then_at meaning mid f point t (env_in meaning mid t f) (Gives (value_in t v))) mid new))
        → (let t = new.heap.texts in OnOk r (Follows meaning (Eval (goal_of p) (env_in meaning old t f) (then_at meaning old f point t (env_in meaning old t f))) old new))
    resumed_quickly point h =
        let t = new.heap.texts in
        let P : Config S → Type 0 = λ c. OnOk r (Follows meaning (then_at meaning c f point t (env_in meaning c t f) (Gives (value_in t v))) mid new) in
        does.by (then_at meaning old f point t (env_in meaning old t f)) new r (subst P only h)

    -- or ends
    pub ended_quickly : (let t = new.heap.texts in OnOk r (Follows meaning (Ret (Gives (value_in t v))) mid new)) → (let t = new.heap.texts in OnOk r (Follows meaning (Eval (goal_of p) (env_in meaning old t f) Ret) old new))
    ended_quickly h = does.by Ret new r h

  -- nothing has changed, and the part is entered
  pub entered_slowly : (f : Frame) (p : Part) (old mid new : Config S) (r : Result (Unit {0}) OutOfMemory) (point : Point) → mid ≡ old → (let t = new.heap.texts in OnOk r (Follows meaning (Eval (goal_of p) (env_in meaning mid t f) (then_at meaning mid f point t (env_in meaning mid t f))) mid new))
      → (let t = new.heap.texts in OnOk r (Follows meaning (Eval (goal_of p) (env_in meaning old t f) (then_at meaning old f point t (env_in meaning old t f))) old new))
  entered_slowly f p old mid new r point same h =
      let t = new.heap.texts in
      let P : Config S → Type 0 = λ c. OnOk r (Follows meaning (Eval (goal_of p) (env_in meaning c t f) (then_at meaning c f point t (env_in meaning c t f))) c new) in
      subst P same h

  pub last_slowly : (f : Frame) (p : Part) (old mid new : Config S) (r : Result (Unit {0}) OutOfMemory) → mid ≡ old → (let t = new.heap.texts in OnOk r (Follows meaning (Eval (goal_of p) (env_in meaning mid t f) Ret) mid new))
      → (let t = new.heap.texts in OnOk r (Follows meaning (Eval (goal_of p) (env_in meaning old t f) Ret) old new))
  last_slowly f p old mid new r same h =
      let t = new.heap.texts in
      let P : Config S → Type 0 = λ c. OnOk r (Follows meaning (Eval (goal_of p) (env_in meaning c t f) Ret) c new) in
      subst P same h
