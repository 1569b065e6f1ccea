-- Deeds, and then what follows them of a frame's line.
use Rattle.std.proofs.Common.{◌≡◌, List, Some, sym, ◌∙◌, subst}
use Rattle.std.specs.Prelude.{Result, OnOk}
use Rattle.wjs_base.specs.declared.ids.NodeId.{NodeId}
use Rattle.wjs_base.specs.declared.ids.OutOfMemory.{OutOfMemory}
use Rattle.wjs_base.specs.declared.values.Value.{Value as Numbered}
use Rattle.wjs_base.specs.Text.{Table, Grows}
use Rattle.wjs_store.specs.Meaning.{Meaning}
use Rattle.wjs_by_content.specs.Names.{Slot}
use Rattle.wjs_by_content.specs.Tables.{value_in}
use Rattle.wjs_by_content.specs.Values.{Value}
use Rattle.wjs_heap.specs.Means.{nothing}
use Rattle.wjs_meaning.specs.Deeds.{Env, Act, Gives, Eval, Do, Write, AtExpr, then_value}
use Rattle.wjs_model.specs.declared.config.Config.{Config}
use Rattle.wjs_model.specs.declared.frame.Activation.{Activation as Frame}
use Rattle.wjs_model.specs.declared.loaded.LoadedProgram.{LoadedProgram as Program}
use Rattle.wjs_frames.specs.Doing.{Does}
use Rattle.wjs_frames.specs.Following.{Follows, Later}
use Rattle.wjs_frames.specs.Parts.{env_in}
use Rattle.wjs_heap_steps.proofs.Composing.{env_later}
use Rattle.wjs_step_common.proofs.Following.{follows_as}
use Rattle.wjs_effects.specs.Proceeding.{Proceeds}

units_later : {S : Type 0} (meaning : S → Meaning) (old mid : Config S) → Later meaning old mid → mid.units.items ≡ old.units.items
units_later meaning old mid l = λ i. (l.units i).items

-- where the units and the place of the frame are those of before
line_later : {S : Type 0} (meaning : S → Meaning) (t : Table) (f : Frame) (line : List Program → Env → Act) (old mid new : Config S) (r : Result (Unit {0}) OutOfMemory) → Later meaning old mid
    → OnOk r (Follows meaning (line mid.units.items (env_in meaning mid t f)) mid new) → OnOk r (Follows meaning (line old.units.items (env_in meaning old t f)) mid new)
line_later meaning t f line old mid new r l h =
    subst (λ e. OnOk r (Follows meaning (line old.units.items e) mid new)) (env_later meaning old mid t f l)
    (subst (λ us. OnOk r (Follows meaning (line us (env_in meaning mid t f)) mid new)) (units_later meaning old mid l) h)

-- deeds, and then the line
pub does_line : {S : Type 0} (meaning : S → Meaning) {A : Type 0} (deeds : Table → (A → Act) → Act) (answer : Table → A) (f : Frame) (line : List Program → Env → A → Act) (old mid new : Config S) (r : Result (Unit {0}) OutOfMemory)
    → Does meaning deeds answer old mid → Later meaning old mid → OnOk r (Follows meaning (line mid.units.items (env_in meaning mid new.heap.texts f) (answer new.heap.texts)) mid new)
    → OnOk r (Follows meaning (deeds new.heap.texts (line old.units.items (env_in meaning old new.heap.texts f))) old new)
does_line meaning deeds answer f line old mid new r d l h =
    let t = new.heap.texts in
    d.by (line old.units.items (env_in meaning old t f)) new r (line_later meaning t f (λ us e. line us e (answer t)) old mid new r l h)

-- a value was had at once where the frame is run, and written, and what is left comes next
module _ {S : Type 0} (meaning : S → Meaning) (f : Frame) (e : NodeId) (v : Numbered) (target : Table → Slot) where
  pub had_and_written : (all : Table → Act) (rest : Table → Env → Act) (left : Table → Act) (old mid new : Config S)
      → Does meaning (λ t go. Eval (AtExpr e.0) (env_in meaning old t f) go) (λ t. Gives (value_in t v)) old mid → Later meaning old mid
      → Does meaning (λ t go. Do (Write f.world (target t) (Some (value_in t v))) go) (λ t. nothing) mid new → Later meaning mid new
      → ((t : Table) → Grows old.heap.texts t → Eval (AtExpr e.0) (env_in meaning old t f) (then_value (λ x. Do (Write f.world (target t) (Some x)) (λ done. rest t (env_in meaning old t f)))) ≡ all t)
      → ((t : Table) → rest t (env_in meaning new t f) ≡ left t) → Proceeds meaning all left old new
  had_and_written all rest left old mid new had l wrote k is is_left = record {
    by = λ later r h.
        let t = later.heap.texts in
        let env = env_in meaning old t f in
        let F : Act → Type 0 = λ act. OnOk r (Follows meaning act new later) in
        let same = env_later meaning mid new t f k ∙ env_later meaning old mid t f l in
        let next : F (rest t env) = subst (λ (x : Env). F (rest t x)) same (subst F (sym (is_left t)) h) in
        let go : Value → Act = λ x. Do (Write f.world (target t) (Some x)) (λ done. rest t env) in
        follows_as meaning (Eval (AtExpr e.0) env (then_value go)) (all t) old later r (is t) (had.by (then_value go) later r (wrote.by (λ done. rest t env) later r next));
  }
