-- A goal that is entered by its step, in the place of a frame.
use Rattle.std.proofs.Common.{◌≡◌, ℕ, ◌≤◌, refl, ◌∙◌, arith}
use Rattle.std.specs.Prelude.{Result, OnOk}
use Rattle.wjs_base.specs.declared.ids.OutOfMemory.{OutOfMemory}
use Rattle.wjs_store.specs.Meaning.{Meaning}
use Rattle.wjs_meaning.specs.Deeds.{Env, Goal, Ret, Tick, Eval, Outcome, Ends, Spent, then_do}
use Rattle.wjs_meaning.specs.Programs.{eval, entry}
use Rattle.wjs_meaning.proofs.Steps.{entries_lem}
use Rattle.wjs_model.specs.declared.config.Config.{Config}
use Rattle.wjs_frames.specs.Following.{Follows}
use Rattle.wjs_frames.specs.Shortening.{Shortens}
use Rattle.wjs_frames.proofs.Shorter.{follows_shorter}

then_ret : (o : Outcome) → then_do o (λ c st n. Ends c st n) ≡ o
then_ret (Ends c st n) = refl
then_ret (Spent st) = refl

none_more : (k : ℕ) → 0 ≤ k
none_more k = omega arith

-- the step and what follows it
shortens : (goal : Goal) (env : Env) → Shortens (Eval goal env Ret) (Tick (entry goal env))
shortens goal env = record { same = λ st n. then_ret (eval goal env st n) ∙ entries_lem goal env st n; fewer = λ st k. none_more 0 }

pub entered : {S : Type 0} (meaning : S → Meaning) (goal : Goal) (env : Env) (old new : Config S) (r : Result (Unit {0}) OutOfMemory) → OnOk r (Follows meaning (Tick (entry goal env)) old new) → OnOk r (Follows meaning (Eval goal env Ret) old new)
entered meaning goal env old new r h = follows_shorter meaning (Eval goal env Ret) (Tick (entry goal env)) old new r (shortens goal env) h
