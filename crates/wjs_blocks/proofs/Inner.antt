-- A part that is entered above a frame that waits.
use Rattle.std.proofs.Common.{◌≡◌, ℕ, ◌+◌, List, refl, sym, ap, ◌∙◌, subst, arith}
use Rattle.std.specs.Prelude.{Result, Ok, Err, OnOk}
use Rattle.wjs_base.specs.declared.ids.OutOfMemory.{OutOfMemory}
use Rattle.wjs_base.specs.Text.{Table}
use Rattle.wjs_base.specs.declared.ids.ObjId.{ObjId}
use Rattle.wjs_store.specs.Meaning.{Meaning}
use Rattle.wjs_meaning.specs.Deeds.{St, Env, Goal, Completion, Act, Ret, Eval, Sub, Outcome, Ends, Spent, interp, then_do}
use Rattle.wjs_meaning.specs.Programs.{Ending, Done, run_next, eval}
use Rattle.wjs_model.specs.declared.config.Config.{Config}
use Rattle.wjs_model.specs.declared.frame.Activation.{Activation as NumberedFrame}
use Rattle.wjs_model.specs.Contents.{Frame, Run}
use Rattle.wjs_model.specs.Rest.{under}
use Rattle.wjs_model.specs.Configurations.{seen, tells, run_in, state_in, frames_in}
use Rattle.wjs_frames.specs.Keeping.{rest_with, Keeps}
use Rattle.wjs_frames.specs.Following.{Follows}
use Rattle.wjs_frames.specs.Nesting.{Nests}
use Rattle.wjs_frames.specs.Parts.{env_in}
use Rattle.wjs_model.specs.declared.frame.Held.{Held}

then_ends : (o : Outcome) → then_do o (λ c st n. Ends c st n) ≡ o
then_ends (Ends c st n) = refl
then_ends (Spent st) = refl

-- a goal in deeds of its own is the goal
inner_same : (run : Run) (goal : Goal) (env : Env) (go : Completion → Act) (fs : List Frame) (st : St) (n : ℕ) → rest_with run (Sub (Eval goal env Ret) go) fs st n ≡ rest_with run (Eval goal env go) fs st n
inner_same run goal env go fs st n = ap (λ o. run_next (then_do (then_do o (λ c st' n'. interp eval (go c) st' n')) (under run fs Ends)) (λ st' n'. (Done, st'))) (then_ends (eval goal env st n))

module _ {S : Type 0} (meaning : S → Meaning) where
  -- the middle one differs by its frames alone
  inner_keeps : (t : Table) (goal : Goal) (env : Env) (go : Completion → Act) (old new : Config S) (frames : List NumberedFrame) → Keeps meaning t 1 (Sub (Eval goal env Ret) go) old new → Keeps meaning t 1 (Eval goal env Ret) (record old { frames = frames }) new → Keeps meaning t 1 (Eval goal env go) old new
  inner_keeps t goal env go old new frames outer inner = record {
    stays = outer.stays;
    cost = outer.cost;
    left = outer.left;
    alive = outer.alive;
    kept = λ v a h n. ap (seen (tells meaning old)) (sym (inner_same (run_in meaning t old) goal env go (frames_in meaning t old) (state_in meaning t v old) (outer.cost + n))) ∙ outer.kept v a h n;
    paid = λ v a h m l. ap (λ (r : Ending × St). r.0) (sym (inner_same (run_in meaning t old) goal env go (frames_in meaning t old) (state_in meaning t v old) m)) ∙ outer.paid v a h m l;
    knows = outer.knows;
    falls = λ none v a h.
        let one : old.left ≡ outer.cost + new.left = outer.left in
        let two : old.left ≡ inner.cost + new.left = inner.left in
        inner.falls (omega (arith, one, two, none)) v a h;
  }

  pub inner_follows : (goal : Goal) (env : Env) (go : Table → Completion → Act) (old new : Config S) (frames : List NumberedFrame) (r : Result (Unit {0}) OutOfMemory) → Nests meaning go old (record old { frames = frames }) → OnOk r (Follows meaning (Eval goal env Ret) (record old { frames = frames }) new) → OnOk r (Follows meaning (Eval goal env (go new.heap.texts)) old new)
  inner_follows goal env go old new frames (Ok x) nests f =
      let outer = nests.by (Eval goal env Ret) new (Ok x) f in
      record { keeps = inner_keeps new.heap.texts goal env (go new.heap.texts) old new frames outer.keeps f.keeps; sound = f.sound }
  inner_follows goal env go old new frames (Err e) nests f = tt

  -- where it is run in another scope
  pub scoped_follows : (goal : Goal) (go : Table → Completion → Act) (old mid new : Config S) (frame inner : NumberedFrame) (scope : ObjId) (held : List Held) (r : Result (Unit {0}) OutOfMemory) → mid ≡ record old { frames = mid.frames } → inner ≡ record frame { scope = scope; held = held } → Nests meaning go old mid → OnOk r (Follows meaning (Eval goal (env_in meaning mid new.heap.texts inner) Ret) mid new) → OnOk r (Follows meaning (Eval goal (record (env_in meaning old new.heap.texts frame) { scope = scope }) (go new.heap.texts)) old new)
  scoped_follows goal go old mid new frame inner scope held r same is nests f =
      let t = new.heap.texts in
      let other = record old { frames = mid.frames } in
      let N : Config S → Type 0 = λ m. Nests meaning go old m in
      let F : Config S → Type 0 = λ m. OnOk r (Follows meaning (Eval goal (env_in meaning m t inner) Ret) m new) in
      let G : NumberedFrame → Type 0 = λ i. OnOk r (Follows meaning (Eval goal (env_in meaning old t i) Ret) other new) in
      inner_follows goal (record (env_in meaning old t frame) { scope = scope }) go old new mid.frames r (subst N same nests) (subst G is (subst F same f))
