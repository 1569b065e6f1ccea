-- Lists of actions.
use Rattle.std.specs.Prelude.{◌≡◌, not, cond, List, [], ◌∷◌, ◌++◌, map as each, Bool, IsTrue}
use Rattle.std.specs.Option.{option_map}
use Rattle.wjs_base.specs.declared.values.Slot.{Slot}
use Rattle.wjs_store.specs.declared.action.Action.{Action}
use Rattle.wjs_store.specs.declared.action.Action.TheVariants.{Read, Write, List as ListOf, Sprout, Commit}
use Rattle.wjs_store.specs.declared.action.Answer.{Answer}
use Rattle.wjs_store.specs.declared.action.Answer.TheVariants.{Found, Wrote, Listed, Sprouted, Committed, NoWorld}
use Rattle.wjs_store.specs.State.{read, write, list, sprout, commit, found, wrote, listed, sprouted, committed, world_of, has_world, answer_to, after}
use Rattle.wjs_store.specs.Shown.{content_of, shown_content, shown_verdict}
use Rattle.wjs_store.specs.Meaning.{Meaning, Worlds, View, PlainAct, PlainReply}

-- the machine's action
abbrev pub act_of : Action → PlainAct
act_of (Read w s) = read w s
act_of (Write w s c) = write w s (content_of c)
act_of (ListOf w o) = list w o
act_of (Sprout w owner strict) = sprout w owner strict
act_of (Commit w) = commit w

-- the machine's answer, as a program has it
abbrev pub answer_of : PlainReply → Answer
answer_of (found c) = Found (shown_content c)
answer_of wrote = Wrote
answer_of (listed ss) = Listed (each (λ (s : Slot). s.name) ss)
answer_of (sprouted w) = Sprouted w
answer_of (committed v) = Committed (shown_verdict v)

-- whether the action's world is there
abbrev pub is_done : Worlds → Action → Bool
is_done F a = has_world F (world_of (act_of a))

-- the answer to an action, NoWorld exactly where its world is not there
abbrev pub answer_in : Worlds → Action → Answer
answer_in F a = cond (is_done F a) (answer_of (answer_to F (act_of a))) NoWorld

-- an action on a world that is not there does nothing
abbrev pub after_in : Worlds → Action → Worlds
after_in F a = cond (is_done F a) (after F (act_of a)) F

abbrev pub after_all : Worlds → List Action → Worlds
after_all F [] = F
after_all F (a ∷ acts) = after_all (after_in F a) acts

-- the answers to actions, one after another
abbrev pub answers_in : Worlds → List Action → List Answer
answers_in F [] = []
answers_in F (a ∷ acts) = answer_in F a ∷ answers_in (after_in F a) acts

-- the actions whose world is there, each with the machine's answer
abbrev pub done_in : Worlds → List Action → List (PlainAct × PlainReply)
done_in F [] = []
done_in F (a ∷ acts) = cond (is_done F a) ((act_of a, answer_to F (act_of a)) ∷ []) [] ++ done_in (after_in F a) acts

-- the actions were done in order: under each view that is admitted afterwards
pub record Runs (old : Meaning) (acts : List Action) (rs : List Answer) (new : Meaning) : Type 0 where
  pub narrows : (v : View) → IsTrue (new.admits v) → IsTrue (old.admits v)
  pub answers : (v : View) → IsTrue (new.admits v) → rs ≡ answers_in (old.full v) acts
  pub worlds : (v : View) → IsTrue (new.admits v) → new.full v ≡ after_all (old.full v) acts
  pub told : (v : View) → IsTrue (new.admits v) → new.told ≡ option_map (λ done. done ++ done_in (old.full v) acts) old.told
  -- under the store's own view, which is admitted afterwards
  pub shown : rs ≡ answers_in (old.full old.own) acts
  pub admits_own : IsTrue (new.admits new.own)
  pub own : new.own ≡ old.own
  pub around : new.around ≡ old.around
  pub spent : new.spent ≡ old.spent
  pub works : IsTrue (not old.spent)
