-- Actions that were done earlier stand in front of those that are done, and change nothing else.
use Rattle.std.proofs.Common.{◌≡◌, ℕ, zero, suc, false, List, [], ◌∷◌, ◌++◌, Option, None, Some, refl, sym, ap, ◌∙◌, append_assoc, append-nil}
use Rattle.wjs_store.specs.State.{Act as Action, read, write, list, sprout, commit, after}
use Rattle.wjs_by_content.specs.Names.{Slot}
use Rattle.wjs_by_content.specs.Values.{Value}
use Rattle.wjs_by_content.specs.Plans.{Told, told_of}
use Rattle.wjs_meaning.specs.Deeds.{St, Env, Goal, Completion, Gives, Refers, Normal, Breaks, Continues, Returns, Throws, Deed, Read, Write, Listing, Sprout, Commit, HasWorld, Look, Create, Emit, answer_of, acted, state_after, Act, Ret, Tick, Eval, Sub, Do, Outcome, Ends, Spent, Next, interp, then_do}
use Rattle.wjs_meaning.specs.Programs.{Done, run_next, entry, eval_to, eval}
use Rattle.wjs_model.specs.Contents.{Frame, Run}
use Rattle.wjs_model.specs.Frames.{last, front}
use Rattle.wjs_model.specs.Rest.{Go, Count, act_of, act_after, under, rest_over, rest_top, rest_of, turns_act, turns_under, turns_over}
use Rattle.wjs_model.specs.Configurations.{seen, after_done}
use Rattle.wjs_frames.specs.Keeping.{rest_with}

-- a state before whose actions these were done
abbrev pub earlier : List Told → St → St
earlier d st = record st { done = d ++ st.done }

abbrev earlier_in : List Told → Outcome → Outcome
earlier_in d (Ends c st n) = Ends c (earlier d st) n
earlier_in d (Spent st) = Spent (earlier d st)

-- ---- a deed

-- it answers the same
answers : (d : List Told) (deed : Deed) (st : St) → answer_of deed (earlier d st) ≡ answer_of deed st
answers d (Read w s) st = refl
answers d (Write w s c) st = refl
answers d (Listing w o) st = refl
answers d (Sprout w owner strict) st = refl
answers d (Commit w) st = refl
answers d (HasWorld w) st = refl
answers d Look st = refl
answers d (Create owner internals) st = refl
answers d (Emit bytes) st = refl

joined : (d : List Told) (a : Action Slot Value) (st : St) → acted a (earlier d st) ≡ earlier d (acted a st)
joined d a st = ap (λ done. record st { full = after st.full a; done = done }) (append_assoc d st.done (told_of st.full a ∷ []))

-- and leaves the same
leaves : (d : List Told) (deed : Deed) (st : St) → state_after deed (earlier d st) ≡ earlier d (state_after deed st)
leaves d (Read w s) st = joined d (read w s) st
leaves d (Write w s c) st = joined d (write w s c) st
leaves d (Listing w o) st = joined d (list w o) st
leaves d (Sprout w owner strict) st = joined d (sprout w owner strict) st
leaves d (Commit w) st = joined d (commit w) st
leaves d (HasWorld w) st = refl
leaves d Look st = refl
leaves d (Create owner internals) st = refl
leaves d (Emit bytes) st = refl

-- ---- what is left to do

-- a way to go on that does the same behind them
record Alike (d : List Told) (go : Go) : Type 0 where
  at : (c : Completion) (st : St) (n : ℕ) → go c (earlier d st) n ≡ earlier_in d (go c st n)

then_earlier : (d : List Told) (o : Outcome) (go : Go) → Alike d go → then_do (earlier_in d o) go ≡ earlier_in d (then_do o go)
then_earlier d (Ends c st n) go h = h.at c st n
then_earlier d (Spent st) go h = refl

-- what goals do is the same behind them
record Steady (d : List Told) (next : Next) : Type 0 where
  at : (goal : Goal) (env : Env) (st : St) (n : ℕ) → next goal env (earlier d st) n ≡ earlier_in d (next goal env st n)

interp_earlier : (d : List Told) (next : Next) → Steady d next → (a : Act) (st : St) (n : ℕ) → interp next a (earlier d st) n ≡ earlier_in d (interp next a st n)
interp_earlier d next h (Ret c) st n = refl
interp_earlier d next h (Tick a) st zero = refl
interp_earlier d next h (Tick a) st (suc n) = interp_earlier d next h a st n
interp_earlier d next h (Eval goal env go) st n =
    ap (λ o. then_do o (λ c st' n'. interp next (go c) st' n')) (h.at goal env st n)
    ∙ then_earlier d (next goal env st n) (λ c st' n'. interp next (go c) st' n') (record { at = λ c st' n'. interp_earlier d next h (go c) st' n' })
interp_earlier d next h (Sub a go) st n =
    ap (λ o. then_do o (λ c st' n'. interp next (go c) st' n')) (interp_earlier d next h a st n)
    ∙ then_earlier d (interp next a st n) (λ c st' n'. interp next (go c) st' n') (record { at = λ c st' n'. interp_earlier d next h (go c) st' n' })
interp_earlier d next h (Do deed go) st n =
    (λ i. interp next (go (answers d deed st i)) (leaves d deed st i) n)
    ∙ interp_earlier d next h (go (answer_of deed st)) (state_after deed st) n

eval_to_earlier : (d : List Told) (depth : ℕ) (goal : Goal) (env : Env) (st : St) (n : ℕ) → eval_to depth goal env (earlier d st) n ≡ earlier_in d (eval_to depth goal env st n)
eval_to_earlier d zero goal env st n = refl
eval_to_earlier d (suc depth) goal env st n = interp_earlier d (eval_to depth) (record { at = eval_to_earlier d depth }) (Tick (entry goal env)) st n

eval_earlier : (d : List Told) → Steady d eval
eval_earlier d = record { at = λ goal env st n. eval_to_earlier d n goal env st n }

under_earlier : (d : List Told) (run : Run) (fs : List Frame) (go : Go) → Alike d go → Alike d (under run fs go)
under_earlier d run [] go h = h
under_earlier d run (f ∷ fs) go h = under_earlier d run fs _ (record {
  at = λ c st n.
      ap (λ o. then_do o go) (interp_earlier d eval (eval_earlier d) (act_after run f c) st n)
      ∙ then_earlier d (interp eval (act_after run f c) st n) go h;
})

over_earlier : (d : List Told) (run : Run) (act : Act) (fs : List Frame) (st : St) (n : ℕ) → rest_over run act fs (earlier d st) n ≡ earlier_in d (rest_over run act fs st n)
over_earlier d run act fs st n =
    ap (λ o. then_do o (under run fs Ends)) (interp_earlier d eval (eval_earlier d) act st n)
    ∙ then_earlier d (interp eval act st n) (under run fs Ends) (under_earlier d run fs Ends (record { at = λ c st' n'. refl }))

top_earlier : (d : List Told) (run : Run) (fs : List Frame) (top : Option Frame) (st : St) (n : ℕ) → rest_top run fs top (earlier d st) n ≡ earlier_in d (rest_top run fs top st n)
top_earlier d run fs None st n = refl
top_earlier d run fs (Some f) st n = over_earlier d run (act_of run f) fs st n

run_earlier : (d : List Told) (o : Outcome) → run_next (earlier_in d o) (λ st' n'. (Done, st')) ≡ after_done d (run_next o (λ st' n'. (Done, st')))
run_earlier d (Ends (Gives v) st n) = refl
run_earlier d (Ends (Refers r) st n) = refl
run_earlier d (Ends Normal st n) = refl
run_earlier d (Ends (Breaks label) st n) = refl
run_earlier d (Ends (Continues label) st n) = refl
run_earlier d (Ends (Returns v) st n) = refl
run_earlier d (Ends (Throws v) st n) = refl
run_earlier d (Spent st) = refl

pub rest_earlier : (d : List Told) (run : Run) (fs : List Frame) (st : St) (n : ℕ) → rest_of run fs (earlier d st) n ≡ after_done d (rest_of run fs st n)
rest_earlier d run fs st n = ap (λ o. run_next o (λ st' n'. (Done, st'))) (top_earlier d run (front fs) (last fs) st n) ∙ run_earlier d (rest_top run (front fs) (last fs) st n)

-- where actions aren't told, what is left does not depend on those that were done
pub rest_blind : (run : Run) (act : Act) (fs : List Frame) (st : St) (d e : List Told) (n : ℕ) → seen false (rest_with run act fs (record st { done = d }) n) ≡ seen false (rest_with run act fs (record st { done = e }) n)
rest_blind run act fs st d e n = untold d ∙ sym (untold e)
  where
    untold : (f : List Told) → seen false (rest_with run act fs (record st { done = f }) n) ≡ seen false (rest_with run act fs (record st { done = [] }) n)
    untold f =
        let bare = record st { done = [] } in
        ap (λ done. seen false (rest_with run act fs (record st { done = done }) n)) (sym (append-nil f))
        ∙ ap (λ o. seen false (run_next o (λ st' n'. (Done, st')))) (over_earlier f run act fs bare n)
        ∙ ap (seen false) (run_earlier f (rest_over run act fs bare n))

-- ---- turns

record Counts (d : List Told) (k : Count) : Type 0 where
  at : (c : Completion) (st : St) → k c (earlier d st) ≡ k c st

act_turns : (d : List Told) (a : Act) (st : St) (k : Count) → Counts d k → turns_act a (earlier d st) k ≡ turns_act a st k
act_turns d (Ret c) st k h = ap suc (h.at c st)
act_turns d (Tick a) st k h = refl
act_turns d (Eval goal env go) st k h = refl
act_turns d (Sub a go) st k h = ap suc (act_turns d a st (λ c st'. turns_act (go c) st' k) (record { at = λ c st'. act_turns d (go c) st' k h }))
act_turns d (Do deed go) st k h = (λ i. turns_act (go (answers d deed st i)) (leaves d deed st i) k) ∙ act_turns d (go (answer_of deed st)) (state_after deed st) k h

under_turns : (d : List Told) (run : Run) (fs : List Frame) (k : Count) → Counts d k → Counts d (turns_under run fs k)
under_turns d run [] k h = h
under_turns d run (f ∷ fs) k h = under_turns d run fs _ (record { at = λ c st. act_turns d (act_after run f c) st k h })

pub turns_blind : (run : Run) (act : Act) (fs : List Frame) (st : St) (d e : List Told) → turns_over run act fs (record st { done = d }) ≡ turns_over run act fs (record st { done = e })
turns_blind run act fs st d e = untold d ∙ sym (untold e)
  where
    untold : (f : List Told) → turns_over run act fs (record st { done = f }) ≡ turns_over run act fs (record st { done = [] })
    untold f =
        ap (λ done. turns_over run act fs (record st { done = done })) (sym (append-nil f))
        ∙ act_turns f act (record st { done = [] }) _ (under_turns f run fs (λ c st'. 0) (record { at = λ c st'. refl }))
