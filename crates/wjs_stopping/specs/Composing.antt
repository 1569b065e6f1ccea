-- Laws of evaluations that end or stop: how those of parts make up those of the nodes around them.
use Rattle.std.specs.Prelude.{◌≡◌, ℕ, suc, List, [], ◌++◌, ◌∷◌, Option, All, Result, Ok, Err, OnOk}
use Rattle.wjs_base.specs.declared.ids.OutOfMemory.{OutOfMemory}
use Rattle.wjs_base.specs.Text.{Table, Grows}
use Rattle.wjs_by_content.specs.Values.{Value}
use Rattle.wjs_store.specs.Meaning.{Meaning}
use Rattle.wjs_meaning.specs.Deeds.{Env, Goal, Completion, Act, Ret, Throws, Eval, Sub}
use Rattle.wjs_meaning.specs.Programs.{entry}
use Rattle.wjs_model.specs.declared.config.Config.{Config}
use Rattle.wjs_model.specs.declared.config.State.TheVariants as states
use Rattle.wjs_model.specs.declared.frame.Phase.{Phase}
use Rattle.wjs_model.specs.declared.frame.Phase.TheVariants as phases
use Rattle.wjs_model.specs.declared.frame.Activation.{Activation as Frame}
use Rattle.wjs_model.specs.declared.frame.Completion.{Completion as Said}
use Rattle.wjs_model.specs.declared.point.Point.{Point}
use Rattle.wjs_model.specs.Contents.{completion_in}
use Rattle.wjs_model.specs.Soundness.{IsStacked, Base}
use Rattle.wjs_frames.specs.declared.part.Part.{Part}
use Rattle.wjs_frames.specs.Following.{Follows}
use Rattle.wjs_frames.specs.Parts.{goal_of, start_of, node_of, env_in, then_at}
use Rattle.wjs_frames.specs.Shortening.{Shortens}
use Rattle.wjs_stopping.specs.declared.ends.Broken.{Broken}
use Rattle.wjs_stopping.specs.Evaluating.{Evaluates, HasMemory, outcome_in, part_then, stops_in}
use Rattle.wjs_stopping.specs.Waiting.{at_node, StopsAt, WaitsAt}

module _ {S : Type 0} (meaning : S → Meaning) where
  -- a part stops at its entry
  abbrev pub DueStops : {A : Type 0} → (Table → A → Completion) → Type 0
  DueStops {A} said = (c : Config S) (f : Frame) (p : Part) (end : Broken) (waits : List Frame) (top : Option (Frame × Phase))
      → StopsAt (at_node f (node_of p) []) (phases.Due (start_of p)) end waits top
      → Evaluates meaning (λ t go. Eval (goal_of p) (env_in meaning c t f) go) said (Err end) waits top c c

  -- a node stops where it goes on at a point with a completion
  abbrev pub GivenStops : {A : Type 0} → (Table → A → Completion) → Type 0
  GivenStops {A} said = (c : Config S) (f : Frame) (point : Point) (e : Said) (end : Broken) (waits : List Frame) (top : Option (Frame × Phase))
      → StopsAt f (phases.Given point e) end waits top
      → Evaluates meaning (λ t go. Sub (then_at meaning c f point t (env_in meaning c t f) (completion_in t e)) go) said (Err end) waits top c c

  -- where a part broke off, its node waits at the point whose line comes next; that line hands on what is thrown
  abbrev pub PartWaits : {A B : Type 0} → (Table → A → Completion) → (Table → B → Completion) → Type 0
  PartWaits {A} {B} told said = (goal : Goal) (env : Table → Env) (old mid : Config S) (f : Frame) (point : Point)
      (end : Broken) (waits : List Frame) (top : Option (Frame × Phase)) (end' : Broken) (waits' : List Frame) (top' : Option (Frame × Phase))
      → ((t : Table) (e : Value) → then_at meaning mid f point t (env_in meaning mid t f) (Throws e) ≡ Ret (Throws e))
      → Evaluates meaning (λ t go. Eval goal (env t) go) told (Err end) waits top old mid → WaitsAt f point end waits top end' waits' top'
      → Evaluates meaning (part_then meaning goal env (λ t. then_at meaning mid f point t (env_in meaning mid t f))) said (Err end') waits' top' old mid

  -- where a part ended, the line that comes next goes on
  abbrev pub PartGoesOn : {A B : Type 0} → (Table → A → Completion) → (Table → B → Completion) → Type 0
  PartGoesOn {A} {B} told said = (goal : Goal) (env : Table → Env) (next : Table → Completion → Act) (v : A) (done : Result B Broken)
      (w : List Frame) (p : Option (Frame × Phase)) (waits : List Frame) (top : Option (Frame × Phase)) (old mid new : Config S)
      → Evaluates meaning (λ t go. Eval goal (env t) go) told (Ok v) w p old mid → Evaluates meaning (λ t go. Sub (next t (told t v)) go) said done waits top mid new
      → Evaluates meaning (part_then meaning goal env next) said done waits top old new

  -- a line that is at its end
  abbrev pub LineEnds : {A : Type 0} → (Table → A → Completion) → Type 0
  LineEnds {A} said = (act : Table → Act) (v : A) (w : List Frame) (p : Option (Frame × Phase)) (c : Config S) → ((t : Table) → Grows c.heap.texts t → Shortens (act t) (Ret (said t v)))
      → Evaluates meaning (λ t go. Sub (act t) go) said (Ok v) w p c c

  -- its step is paid
  abbrev pub EntryIsPaid : {A : Type 0} → (Table → A → Completion) → Type 0
  EntryIsPaid {A} said = (goal : Goal) (env : Table → Env) (done : Result A Broken) (waits : List Frame) (top : Option (Frame × Phase)) (old new : Config S) (left : ℕ)
      → old.left ≡ suc left → Evaluates meaning (λ t go. Sub (entry goal (env t)) go) said done waits top (record old { left = left }) new
      → Evaluates meaning (λ t go. Eval goal (env t) go) said done waits top old new

  -- a form whose deeds begin with a part, within nested deeds
  abbrev pub FormIsNested : {A : Type 0} → (Table → A → Completion) → Type 0
  FormIsNested {A} said = (goal : Goal) (env : Table → Env) (next : Table → Completion → Act) (done : Result A Broken) (waits : List Frame) (top : Option (Frame × Phase)) (old new : Config S)
      → Evaluates meaning (part_then meaning goal env next) said done waits top old new → Evaluates meaning (λ t go. Sub (Eval goal (env t) (next t)) go) said done waits top old new

  -- and in the place of a frame that was taken off
  abbrev pub FormIsLine : {A : Type 0} → (Table → A → Completion) → Type 0
  FormIsLine {A} said = (goal : Goal) (env : Table → Env) (next : Table → Completion → Act) (done : Result A Broken) (waits : List Frame) (top : Option (Frame × Phase)) (old mid new : Config S)
      (r : Result (Unit {0}) OutOfMemory) → Evaluates meaning (part_then meaning goal env next) said done waits top old mid
      → OnOk r (HasMemory done) → OnOk r (Follows meaning (outcome_in meaning mid said done waits top new.heap.texts Ret) mid new)
      → OnOk r (Follows meaning (Eval goal (env new.heap.texts) (next new.heap.texts)) old new)

  -- put on the others, frames that could stand there are followed
  abbrev pub StopsFollow : Type 0
  StopsFollow = (old : Config S) (waits : List Frame) (top : Frame) (frames : List Frame) → old.state ≡ states.Running → Base meaning old → All (IsStacked meaning old) waits → IsStacked meaning old top
      → frames ≡ (old.frames ++ waits) ++ top ∷ [] → Follows meaning (stops_in meaning old waits top old.heap.texts Ret) old (record old { frames = frames })
