-- Deeds that were done, and what they leave of the state.
use Rattle.std.proofs.Common.{◌≡◌, ℕ, suc, ◌+◌, ◌≤◌, List, [], ◌++◌, false, Option, None, Some, refl, sym, ap, ◌∙◌, subst, append-nil}
use Rattle.std.specs.Prelude.{is_some, unwrap_or}
use Rattle.std.proofs.lemmas.Result.{on_ok_weaker}
use Rattle.wjs_base.specs.Text.{Table, Grows}
use Rattle.wjs_store.specs.Meaning.{Meaning, PlainAct, PlainReply}
use Rattle.wjs_by_content.specs.Plans.{Told}
use Rattle.wjs_by_content.specs.Worlds.{told_by}
use Rattle.wjs_by_content.specs.Carried.{tell}
use Rattle.wjs_meaning.specs.Deeds.{Act, Ends, interp, then_do}
use Rattle.wjs_meaning.specs.Programs.{Ending, Done, run_next, eval}
use Rattle.wjs_meaning.specs.Deeds.{St}
use Rattle.wjs_model.specs.declared.config.Config.{Config}
use Rattle.wjs_model.specs.Rest.{Count, under, turns_act, turns_under, turns_over}
use Rattle.wjs_model.specs.Outside.{Outside, Admits, Knows}
use Rattle.wjs_model.specs.Configurations.{seen, tells, run_in, state_in, frames_in, turns, Stays}
use Rattle.wjs_frames.specs.Keeping.{rest_with, Keeps}
use Rattle.wjs_frames.specs.Following.{Follows}
use Rattle.wjs_frames.specs.Doing.{Does}
use Rattle.wjs_frames.proofs.Reaching.{stays_on}
use Rattle.wjs_heap_steps.proofs.Earlier.{rest_blind, turns_blind}

-- the actions that a store tells are those that were done
done_told : (t : Table) (old new : Option (List (PlainAct × PlainReply))) (acts : List Told) (F : List Told → Ending × St) → ((d e : List Told) → seen false (F d) ≡ seen false (F e)) → told_by t new ≡ tell acts (told_by t old)
    → seen (is_some old) (F (unwrap_or (told_by t old) [] ++ acts)) ≡ seen (is_some new) (F (unwrap_or (told_by t new) []))
done_told t None None acts F h e = h _ _
done_told t None (Some b) acts F h e = absurd (cc)
done_told t (Some a) None acts F h e = absurd (cc)
done_told t (Some a) (Some b) acts F h e = ap (λ o. F (unwrap_or o [])) (sym e)

-- no action more was told
pub told_same : (t : Table) (old : Option (List (PlainAct × PlainReply))) → told_by t old ≡ tell [] (told_by t old)
told_same t None = refl
told_same t (Some xs) = ap (λ l. Some l) (sym (append-nil _))

module _ {S : Type 0} (meaning : S → Meaning) where
  -- under a table and what stands outside: the deeds run to their answer and the middle configuration's state, with these actions told more
  pub record Runs {A : Type 0} (deeds : (A → Act) → Act) (answer : A) (t : Table) (v : Outside) (old mid : Config S) : Type 0 where
    pub acts : List Told
    pub knows : Knows meaning mid v
    pub told : told_by v.texts (meaning mid.heap.store).told ≡ tell acts (told_by v.texts (meaning old.heap.store).told)
    pub runs : (go : A → Act) (n : ℕ) → interp eval (deeds go) (state_in meaning t v old) n ≡ interp eval (go answer) (record (state_in meaning t v mid) { done = (state_in meaning t v old).done ++ acts }) n
    pub counts : (go : A → Act) (k : Count) → turns_act (deeds go) (state_in meaning t v old) k ≡ turns_act (go answer) (record (state_in meaning t v mid) { done = (state_in meaning t v old).done ++ acts }) k

  -- where all but the heap and the output stays
  pub record Ran {A : Type 0} (deeds : Table → (A → Act) → Act) (answer : Table → A) (old mid : Config S) : Type 0 where
    pub same : mid ≡ record old { heap = mid.heap; pending = mid.pending }
    pub stays : Stays meaning old mid
    pub by : (t : Table) → Grows mid.heap.texts t → (v : Outside) → Grows t v.texts → Admits meaning mid v → Knows meaning old v → Runs (deeds t) (answer t) t v old mid

  module _ {A : Type 0} (deeds : Table → (A → Act) → Act) (answer : Table → A) (old mid : Config S) (ran : Ran deeds answer old mid) where
    kept_ran : (go : A → Act) (later : Config S) → Keeps meaning later.heap.texts 1 (go (answer later.heap.texts)) mid later → Keeps meaning later.heap.texts 1 (deeds later.heap.texts go) old later
    kept_ran go later k =
        let t = later.heap.texts in
        let run = run_in meaning t old in
        let fs = frames_in meaning t old in
        let runs : (v : Outside) → Admits meaning later v → Knows meaning old v → Runs (deeds t) (answer t) t v old mid = λ v a h. ran.by t k.stays.texts v a.texts (k.stays.narrows v a) h in
        record {
          stays = stays_on meaning old mid later ran.stays k.stays;
          cost = k.cost;
          left = ap (λ (c : Config S). c.left) (sym ran.same) ∙ k.left;
          alive = k.alive;
          kept = λ v a h n.
              let e = runs v a h in
              let n' = k.cost + n in
              ap (λ o. seen (tells meaning old) (run_next (then_do o (under run fs Ends)) (λ st' m. (Done, st')))) (e.runs go n')
              ∙ done_told v.texts (meaning old.heap.store).told (meaning mid.heap.store).told e.acts (λ d. rest_with run (go (answer t)) fs (record (state_in meaning t v mid) { done = d }) n') (λ d d'. rest_blind run (go (answer t)) fs (state_in meaning t v mid) d d' n') e.told
              ∙ ap (λ (c : Config S). seen (tells meaning mid) (rest_with (run_in meaning t c) (go (answer t)) (frames_in meaning t c) (state_in meaning t v mid) n')) (sym ran.same)
              ∙ k.kept v a e.knows n;
          paid = λ v a h m l.
              let e = runs v a h in
              let st = state_in meaning t v mid in
              ap (λ o. (run_next (then_do o (under run fs Ends)) (λ st' n. (Done, st'))).0) (e.runs go m)
              ∙ ap (λ (r : Ending × St). r.0) (rest_blind run (go (answer t)) fs st ((state_in meaning t v old).done ++ e.acts) st.done m)
              ∙ ap (λ (c : Config S). (rest_with (run_in meaning t c) (go (answer t)) (frames_in meaning t c) st m).0) (sym ran.same)
              ∙ k.paid v a e.knows m l;
          knows = λ v a h. k.knows v a (runs v a h).knows;
          falls = λ none v a h.
              let e = runs v a h in
              let count : turns_over run (deeds t go) fs (state_in meaning t v old) ≡ turns_over (run_in meaning t mid) (go (answer t)) (frames_in meaning t mid) (state_in meaning t v mid) =
              e.counts go (turns_under run fs (λ c st'. 0))
              ∙ turns_blind run (go (answer t)) fs (state_in meaning t v mid) ((state_in meaning t v old).done ++ e.acts) (state_in meaning t v mid).done
              ∙ ap (λ (c : Config S). turns_over (run_in meaning t c) (go (answer t)) (frames_in meaning t c) (state_in meaning t v mid)) (sym ran.same) in
              subst (λ m. turns meaning t v later + 1 ≤ suc m) (sym count) (k.falls none v a e.knows);
        }

    pub does_ran : Does meaning deeds answer old mid
    does_ran = record { by = λ go later r h. on_ok_weaker r (λ (f : Follows meaning (go (answer later.heap.texts)) mid later). record { keeps = kept_ran go later f.keeps; sound = f.sound }) h }
