-- The step of a goal that is entered at once.
use Rattle.std.proofs.Common.{◌≡◌, ℕ, zero, suc, ◌+◌, ◌<◌, refl, sym, ap, ◌∙◌, List}
use Rattle.std.proofs.lemmas.Result.{on_ok_weaker}
use Rattle.wjs_store.specs.Meaning.{Meaning}
use Rattle.wjs_meaning.specs.Deeds.{St, Env, Goal, Completion, Act, Eval, Sub, Ends, interp, then_do}
use Rattle.wjs_meaning.specs.Programs.{Done, StepsSpent, eval, entry, run_next}
use Rattle.wjs_model.specs.declared.config.Config.{Config}
use Rattle.wjs_model.specs.Contents.{Frame, Run}
use Rattle.wjs_model.specs.Rest.{under}
use Rattle.wjs_model.specs.Outside.{Outside, Admits, Knows}
use Rattle.wjs_model.specs.Configurations.{seen, tells, run_in, state_in, frames_in}
use Rattle.wjs_frames.specs.Keeping.{rest_with}
use Rattle.wjs_frames.specs.Following.{Follows}
use Rattle.wjs_frames.specs.Paying.{StepPaid}
use Rattle.wjs_frames.proofs.OperandLines.{entered_same}
use Rattle.wjs_frames.proofs.Taking.{one_more, under_more, stays_after}

not_none : (k : ℕ) → suc k ≡ 0 → ⊥
not_none k e = cc

-- the step of an entry is taken first
spent_first : (run : Run) (goal : Goal) (env : Env) (go : Completion → Act) (fs : List Frame) (st : St) → (rest_with run (Eval goal env go) fs st 0).0 ≡ StepsSpent
spent_first run goal env go fs st = refl

module _ {S : Type 0} (meaning : S → Meaning) where
  paid : (goal : Goal) (env : Env) (go : Completion → Act) (act : Act) (old new : Config S) (left : ℕ) → old.left ≡ suc left → ((st : St) (n : ℕ) → interp eval (Sub (entry goal env) go) st n ≡ interp eval act st n) → Follows meaning act (record old { left = left }) new → Follows meaning (Eval goal env go) old new
  paid goal env go act old new left el same f =
      let t = new.heap.texts in
      let run = run_in meaning t old in
      let fs = frames_in meaning t old in
      let k = f.keeps in
      record {
        keeps = record {
          stays = stays_after meaning old new old.frames left k.stays;
          cost = suc k.cost;
          left = el ∙ ap suc k.left ∙ sym (one_more k.cost new.left);
          alive = k.alive;
          kept = λ v a h n.
              let st = state_in meaning t v old in
              ap (seen (tells meaning old)) (
              ap (rest_with run (Eval goal env go) fs st) (one_more k.cost n)
              ∙ ap (λ o. run_next (then_do o (under run fs Ends)) (λ st' n'. (Done, st'))) (entered_same goal env go act same st (suc (k.cost + n))))
              ∙ k.kept v a h n;
          paid = spent;
          knows = k.knows;
          falls = λ none v a h. absurd (not_none k.cost none);
        };
        sound = f.sound;
      }
    where
      spent : (v : Outside) → Admits meaning new v → Knows meaning (record old { left = left }) v → (m : ℕ) → m < suc f.keeps.cost
          → (rest_with (run_in meaning new.heap.texts old) (Eval goal env go) (frames_in meaning new.heap.texts old) (state_in meaning new.heap.texts v old) m).0 ≡ StepsSpent
      spent v a h zero l = spent_first (run_in meaning new.heap.texts old) goal env go (frames_in meaning new.heap.texts old) (state_in meaning new.heap.texts v old)
      spent v a h (suc m) l =
          let run = run_in meaning new.heap.texts old in
          let fs = frames_in meaning new.heap.texts old in
          ap (λ o. (run_next (then_do o (under run fs Ends)) (λ st' n'. (Done, st'))).0) (entered_same goal env go act same (state_in meaning new.heap.texts v old) (suc m))
          ∙ f.keeps.paid v a h m (under_more m f.keeps.cost l)

  pub step_paid : StepPaid meaning
  step_paid goal env go act old new left r el same h = on_ok_weaker r (paid goal env go act old new left el same) h
