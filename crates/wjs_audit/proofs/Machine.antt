-- Entries one after another, and the machine's answers to them.
use Rattle.std.proofs.Common.{◌≡◌, ℕ, ◌+◌, take, drop, slice_get, not, List, [], ◌∷◌, ◌++◌, refl, ap, sym, ◌∙◌, IsTrue, Some}
use Rattle.std.proofs.lemmas.List.{map_push, take-append-drop, drop_more}
use Rattle.std.proofs.lemmas.Option.{slice_get_within, get_or_from_slice_get}
use Rattle.wjs_store.specs.declared.action.Action.{Action}
use Rattle.wjs_store.specs.declared.action.Answer.{Answer}
use Rattle.wjs_store.specs.Meaning as store
use Rattle.wjs_store.specs.Meaning.{Meaning, Worlds}
use Rattle.wjs_store.specs.Run.{answer_in, after_in, after_all, answers_in, Runs}
use Rattle.wjs_store.specs.Fixed.{fresh}
use Rattle.wjs_store.proofs.RunLaws.{after_more, answers_more}
use Rattle.wjs_audit.specs.declared.deed.Entry.{Entry}
use Rattle.wjs_audit.specs.Deeds.{action_of, answer_of_deed, actions_of}
use Rattle.wjs_audit.specs.Right.{AreRight, WrongAt}

abbrev action_at : Entry → Action
action_at e = action_of e.deed

abbrev answer_at : Entry → Answer
answer_at e = answer_of_deed e.deed

-- the worlds after one entry more
pub after_entry : (front : List Entry) (e : Entry) → after_all fresh (actions_of (front ++ e ∷ [])) ≡ after_in (after_all fresh (actions_of front)) (action_of e.deed)
after_entry front e = ap (after_all fresh) (map_push action_at front e) ∙ after_more (actions_of front) (action_of e.deed) fresh

-- an entry whose answer is the machine's
pub right_more : (front : List Entry) (e : Entry) → AreRight front → answer_in (after_all fresh (actions_of front)) (action_of e.deed) ≡ answer_of_deed e.deed → AreRight (front ++ e ∷ [])
right_more front e right same =
    ap (answers_in fresh) (map_push action_at front e)
    ∙ answers_more (actions_of front) (action_of e.deed) fresh
    ∙ (λ i. right i ++ same i ∷ [])
    ∙ sym (map_push answer_at front e)

-- the store has the worlds that the entries leave, and their answers are the machine's
pub record Audited (m : Meaning) (front : List Entry) : Type 0 where
  pub worlds : store.worlds m ≡ after_all fresh (actions_of front)
  pub works : IsTrue (not m.spent)
  pub right : AreRight front

pub audited_fresh : (m : Meaning) → store.worlds m ≡ fresh → IsTrue (not m.spent) → Audited m []
audited_fresh m e works = record { worlds = e; works = works; right = refl }

head_of : (r s : Answer) → ◌≡◌ {A = List Answer} (r ∷ []) (s ∷ []) → r ≡ s
head_of r s e = cc

-- the machine's answer to the next action, as the store gave it
pub answered : (m new : Meaning) (front : List Entry) (a : Action) (r : Answer) → Audited m front → Runs m (a ∷ []) (r ∷ []) new → answer_in (after_all fresh (actions_of front)) a ≡ r
answered m new front a r h runs = ap (λ (F : Worlds). answer_in F a) (sym h.worlds) ∙ sym (head_of r (answer_in (store.worlds m) a) runs.shown)

pub audited_more : (m new : Meaning) (front : List Entry) (e : Entry) → Audited m front → Runs m (action_of e.deed ∷ []) (answer_of_deed e.deed ∷ []) new → Audited new (front ++ e ∷ [])
audited_more m new front e h runs = record {
  worlds =
      runs.worlds new.own runs.admits_own
      ∙ ap (λ v. after_in (m.full v) (action_of e.deed)) runs.own
      ∙ ap (λ (F : Worlds). after_in F (action_of e.deed)) h.worlds
      ∙ sym (after_entry front e);
  works = ap not runs.spent ∙ h.works;
  right = right_more front e h.right (answered m new front (action_of e.deed) (answer_of_deed e.deed) h runs);
}

-- the store's entries are right, and the next one is not
pub wrong_at : (m : Meaning) (entries : List Entry) (i : ℕ) (e : Entry) (n : ℕ) → slice_get entries i ≡ Some e → Audited m (take i entries) → n ≡ e.line → ¬ (answer_in (store.worlds m) (action_of e.deed) ≡ answer_of_deed e.deed) → WrongAt entries n
wrong_at m entries i e n at h line wrong =
    let rest : drop i entries ≡ e ∷ drop (i + 1) entries =
    drop_more entries i e (slice_get_within entries i e at) ∙ ap (λ (x : Entry). x ∷ drop (i + 1) entries) (get_or_from_slice_get entries i e e at) in
    record {
      front = take i entries;
      entry = e;
      back = drop (i + 1) entries;
      whole = sym (take-append-drop i entries) ∙ ap (λ (es : List Entry). take i entries ++ es) rest;
      right = h.right;
      line = line;
      wrong = λ same. wrong (ap (λ (F : Worlds). answer_in F (action_of e.deed)) h.worlds ∙ same);
    }
