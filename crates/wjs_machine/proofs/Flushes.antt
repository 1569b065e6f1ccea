-- Output that went out before stands before the output of what follows.
use Rattle.std.proofs.Common.{◌≡◌, ℕ, zero, suc, Bool, true, false, List, [], ◌∷◌, ◌++◌, Option, None, Some, refl, sym, ap, ◌∙◌, append_assoc}
use Rattle.std.proofs.lemmas.List.{append-nil}
use Rattle.wjs_base.specs.Text.{Table}
use Rattle.wjs_store.specs.Meaning.{Meaning}
use Rattle.wjs_meaning.specs.Deeds.{St, Env, Goal, Completion, Gives, Refers, Normal, Breaks, Continues, Returns, Throws, Read, Write, Listing, Sprout, Commit, HasWorld, Look, Create, Emit, Act, Ret, Tick, Eval, Sub, Do, Outcome, Ends, Spent, Next, interp, then_do}
use Rattle.wjs_meaning.specs.Programs.{entry, eval_to, eval, Ending, Done, run_next}
use Rattle.wjs_model.specs.declared.config.Config.{Config}
use Rattle.wjs_model.specs.declared.config.State.{State}
use Rattle.wjs_model.specs.declared.config.State.TheVariants as states
use Rattle.wjs_model.specs.Contents.{Frame, Moment, Due, Ready, Waiting, Given, Entering, Run}
use Rattle.wjs_model.specs.Frames.{last, front}
use Rattle.wjs_model.specs.Rest.{Go, under, act_of, act_at, act_after, rest_over, rest_top, rest_of, Count, turns_act, turns_under, turns_over, turns_at, turns_top}
use Rattle.wjs_model.specs.Outside.{Outside}
use Rattle.wjs_model.specs.Configurations.{rest_by, turns_by, seen, run_in, state_in, frames_in, tells, rest, turns}
use Rattle.wjs_machine.specs.Flushing.{after_output, GoesOut, OutputGoesOut, OutputTakesNoTurn}

-- a state before whose output these bytes went out
abbrev put : List ℕ → St → St
put p st = record st { out = p ++ st.out }

abbrev put_in : List ℕ → Outcome → Outcome
put_in p (Ends c st n) = Ends c (put p st) n
put_in p (Spent st) = Spent (put p st)

-- a way to go on that does the same after them
record Alike (p : List ℕ) (go : Go) : Type 0 where
  at : (c : Completion) (st : St) (n : ℕ) → go c (put p st) n ≡ put_in p (go c st n)

then_put : (p : List ℕ) (o : Outcome) (go : Go) → Alike p go → then_do (put_in p o) go ≡ put_in p (then_do o go)
then_put p (Ends c st n) go h = h.at c st n
then_put p (Spent st) go h = refl

-- what goals do is the same after them
record Steady (p : List ℕ) (next : Next) : Type 0 where
  at : (goal : Goal) (env : Env) (st : St) (n : ℕ) → next goal env (put p st) n ≡ put_in p (next goal env st n)

interp_put : (p : List ℕ) (next : Next) → Steady p next → (a : Act) (st : St) (n : ℕ) → interp next a (put p st) n ≡ put_in p (interp next a st n)
interp_put p next h (Ret c) st n = refl
interp_put p next h (Tick a) st zero = refl
interp_put p next h (Tick a) st (suc n) = interp_put p next h a st n
interp_put p next h (Eval goal env go) st n =
    ap (λ o. then_do o (λ c st' n'. interp next (go c) st' n')) (h.at goal env st n)
    ∙ then_put p (next goal env st n) (λ c st' n'. interp next (go c) st' n') (record { at = λ c st' n'. interp_put p next h (go c) st' n' })
interp_put p next h (Sub a go) st n =
    ap (λ o. then_do o (λ c st' n'. interp next (go c) st' n')) (interp_put p next h a st n)
    ∙ then_put p (interp next a st n) (λ c st' n'. interp next (go c) st' n') (record { at = λ c st' n'. interp_put p next h (go c) st' n' })
interp_put p next h (Do (Read w s) go) st n = interp_put p next h (go _) _ n
interp_put p next h (Do (Write w s c) go) st n = interp_put p next h (go _) _ n
interp_put p next h (Do (Listing w o) go) st n = interp_put p next h (go _) _ n
interp_put p next h (Do (Sprout w owner strict) go) st n = interp_put p next h (go _) _ n
interp_put p next h (Do (Commit w) go) st n = interp_put p next h (go _) _ n
interp_put p next h (Do (HasWorld w) go) st n = interp_put p next h (go _) st n
interp_put p next h (Do Look go) st n = interp_put p next h (go _) st n
interp_put p next h (Do (Create owner internals) go) st n = interp_put p next h (go _) _ n
interp_put p next h (Do (Emit bytes) go) st n =
    ap (λ out. interp next (go tt) (record st { out = out }) n) (append_assoc p st.out bytes)
    ∙ interp_put p next h (go tt) (record st { out = st.out ++ bytes }) n

eval_to_put : (p : List ℕ) (depth : ℕ) (goal : Goal) (env : Env) (st : St) (n : ℕ) → eval_to depth goal env (put p st) n ≡ put_in p (eval_to depth goal env st n)
eval_to_put p zero goal env st n = refl
eval_to_put p (suc depth) goal env st n = interp_put p (eval_to depth) (record { at = eval_to_put p depth }) (Tick (entry goal env)) st n

eval_put : (p : List ℕ) → Steady p eval
eval_put p = record { at = λ goal env st n. eval_to_put p n goal env st n }

-- ---- frames

ends_alike : (p : List ℕ) → Alike p (λ c st n. Ends c st n)
ends_alike p = record { at = λ c st n. refl }

under_put : (p : List ℕ) (run : Run) (fs : List Frame) (go : Go) → Alike p go → Alike p (under run fs go)
under_put p run [] go h = h
under_put p run (f ∷ fs) go h = under_put p run fs _ (record {
  at = λ c st n.
      ap (λ o. then_do o go) (interp_put p eval (eval_put p) (act_after run f c) st n)
      ∙ then_put p (interp eval (act_after run f c) st n) go h;
})

over_put : (p : List ℕ) (run : Run) (act : Act) (fs : List Frame) (st : St) (n : ℕ) → rest_over run act fs (put p st) n ≡ put_in p (rest_over run act fs st n)
over_put p run act fs st n =
    ap (λ o. then_do o (under run fs Ends)) (interp_put p eval (eval_put p) act st n)
    ∙ then_put p (interp eval act st n) (under run fs Ends) (under_put p run fs Ends (ends_alike p))

top_put : (p : List ℕ) (run : Run) (fs : List Frame) (top : Option Frame) (st : St) (n : ℕ) → rest_top run fs top (put p st) n ≡ put_in p (rest_top run fs top st n)
top_put p run fs None st n = refl
top_put p run fs (Some f) st n = over_put p run (act_of run f) fs st n

run_put : (p : List ℕ) (o : Outcome) → run_next (put_in p o) (λ st' n'. (Done, st')) ≡ after_output p (run_next o (λ st' n'. (Done, st')))
run_put p (Spent st) = refl
run_put p (Ends (Gives v) st n) = refl
run_put p (Ends (Refers r) st n) = refl
run_put p (Ends Normal st n) = refl
run_put p (Ends (Breaks label) st n) = refl
run_put p (Ends (Continues label) st n) = refl
run_put p (Ends (Returns v) st n) = refl
run_put p (Ends (Throws v) st n) = refl

rest_put : (p : List ℕ) (run : Run) (fs : List Frame) (st : St) (n : ℕ) → rest_of run fs (put p st) n ≡ after_output p (rest_of run fs st n)
rest_put p run fs st n = ap (λ o. run_next o (λ st' n'. (Done, st'))) (top_put p run (front fs) (last fs) st n) ∙ run_put p (rest_top run (front fs) (last fs) st n)

by_put : (p : List ℕ) (t : Table) (state : State) (run : Run) (fs : List Frame) (st : St) (n : ℕ) → rest_by t state run fs (put p st) n ≡ after_output p (rest_by t state run fs st n)
by_put p t states.Running run fs st n = rest_put p run fs st n
by_put p t states.Done run fs st n = refl
by_put p t (states.Threw v) run fs st n = refl
by_put p t states.StepsSpent run fs st n = refl

seen_put : (p : List ℕ) (tells : Bool) (r : Ending × St) → seen tells (after_output p r) ≡ after_output p (seen tells r)
seen_put p true r = refl
seen_put p false r = refl

-- ---- turns

record Counts (p : List ℕ) (go : Count) : Type 0 where
  at : (c : Completion) (st : St) → go c (put p st) ≡ go c st

act_turns : (p : List ℕ) (a : Act) (st : St) (go : Count) → Counts p go → turns_act a (put p st) go ≡ turns_act a st go
act_turns p (Ret c) st go h = ap suc (h.at c st)
act_turns p (Tick a) st go h = refl
act_turns p (Eval goal env k) st go h = refl
act_turns p (Sub a k) st go h = ap suc (act_turns p a st (λ c st'. turns_act (k c) st' go) (record { at = λ c st'. act_turns p (k c) st' go h }))
act_turns p (Do (Read w s) k) st go h = act_turns p (k _) _ go h
act_turns p (Do (Write w s c) k) st go h = act_turns p (k _) _ go h
act_turns p (Do (Listing w o) k) st go h = act_turns p (k _) _ go h
act_turns p (Do (Sprout w owner strict) k) st go h = act_turns p (k _) _ go h
act_turns p (Do (Commit w) k) st go h = act_turns p (k _) _ go h
act_turns p (Do (HasWorld w) k) st go h = act_turns p (k _) st go h
act_turns p (Do Look k) st go h = act_turns p (k _) st go h
act_turns p (Do (Create owner internals) k) st go h = act_turns p (k _) _ go h
act_turns p (Do (Emit bytes) k) st go h =
    ap (λ out. turns_act (k tt) (record st { out = out }) go) (append_assoc p st.out bytes)
    ∙ act_turns p (k tt) (record st { out = st.out ++ bytes }) go h

under_turns : (p : List ℕ) (run : Run) (fs : List Frame) (go : Count) → Counts p go → Counts p (turns_under run fs go)
under_turns p run [] go h = h
under_turns p run (f ∷ fs) go h = under_turns p run fs _ (record { at = λ c st. act_turns p (act_after run f c) st go h })

over_turns : (p : List ℕ) (run : Run) (act : Act) (fs : List Frame) (st : St) → turns_over run act fs (put p st) ≡ turns_over run act fs st
over_turns p run act fs st = act_turns p act st _ (under_turns p run fs (λ c st'. 0) (record { at = λ c st'. refl }))

at_turns : (p : List ℕ) (run : Run) (fs : List Frame) (f : Frame) (m : Moment) (st : St) → turns_at run fs f m (put p st) ≡ turns_at run fs f m st
at_turns p run fs f (Due start) st = refl
at_turns p run fs f (Entering point o) st = refl
at_turns p run fs f (Ready start) st = ap suc (over_turns p run (act_at run f (Ready start)) fs st)
at_turns p run fs f (Waiting point) st = ap suc (over_turns p run (act_at run f (Waiting point)) fs st)
at_turns p run fs f (Given point c) st = ap suc (over_turns p run (act_at run f (Given point c)) fs st)

top_turns : (p : List ℕ) (run : Run) (fs : List Frame) (top : Option Frame) (st : St) → turns_top run fs top (put p st) ≡ turns_top run fs top st
top_turns p run fs None st = refl
top_turns p run fs (Some f) st = at_turns p run fs f f.moment st

by_turns : (p : List ℕ) (state : State) (run : Run) (fs : List Frame) (st : St) → turns_by state run fs (put p st) ≡ turns_by state run fs st
by_turns p states.Running run fs st = top_turns p run (front fs) (last fs) st
by_turns p states.Done run fs st = refl
by_turns p (states.Threw v) run fs st = refl
by_turns p states.StepsSpent run fs st = refl

-- ---- the laws

module _ {S : Type 0} (meaning : S → Meaning) where
  -- the state of a configuration before whose output these bytes went out
  state_put : (gone : List ℕ) (old new : Config S) (t : Table) (v : Outside) → GoesOut gone old new → state_in meaning t v old ≡ put gone (state_in meaning t v new)
  state_put gone old new t v h =
      ap (λ out. record (state_in meaning t v old) { out = out }) h.pending
      ∙ sym (ap (λ c. put gone (state_in meaning t v c)) h.same)

  rest_same : (gone : List ℕ) (old new : Config S) (t : Table) (v : Outside) (n : ℕ) → GoesOut gone old new → rest meaning t v old n ≡ after_output gone (rest meaning t v new n)
  rest_same gone old new t v n h =
      ap (λ st. seen (tells meaning old) (rest_by t old.state (run_in meaning t old) (frames_in meaning t old) st n)) (state_put gone old new t v h)
      ∙ ap (seen (tells meaning old)) (by_put gone t old.state (run_in meaning t old) (frames_in meaning t old) (state_in meaning t v new) n)
      ∙ seen_put gone (tells meaning old) (rest_by t old.state (run_in meaning t old) (frames_in meaning t old) (state_in meaning t v new) n)
      ∙ sym (ap (λ (c : Config S). after_output gone (seen (tells meaning c) (rest_by t c.state (run_in meaning t c) (frames_in meaning t c) (state_in meaning t v new) n))) h.same)

  turns_same : (gone : List ℕ) (old new : Config S) (t : Table) (v : Outside) → GoesOut gone old new → turns meaning t v old ≡ turns meaning t v new
  turns_same gone old new t v h =
      ap (λ st. turns_by old.state (run_in meaning t old) (frames_in meaning t old) st) (state_put gone old new t v h)
      ∙ by_turns gone old.state (run_in meaning t old) (frames_in meaning t old) (state_in meaning t v new)
      ∙ sym (ap (λ (c : Config S). turns_by c.state (run_in meaning t c) (frames_in meaning t c) (state_in meaning t v new)) h.same)

  -- what is pending is a front of all output
  pub output_first : (c : Config S) (t : Table) (v : Outside) (n : ℕ) → (later : List ℕ) × ((rest meaning t v c n).1.out ≡ c.pending.items ++ later)
  output_first c t v n =
      let bare = record (state_in meaning t v c) { out = [] } in
      let without = seen (tells meaning c) (rest_by t c.state (run_in meaning t c) (frames_in meaning t c) bare n) in (
        (without.1).out,
        ap (λ (r : Ending × St). (r.1).out) (
            ap (λ out. seen (tells meaning c) (rest_by t c.state (run_in meaning t c) (frames_in meaning t c) (record (state_in meaning t v c) { out = out }) n)) (sym (append-nil c.pending.items))
            ∙ ap (seen (tells meaning c)) (by_put c.pending.items t c.state (run_in meaning t c) (frames_in meaning t c) bare n)
            ∙ seen_put c.pending.items (tells meaning c) (rest_by t c.state (run_in meaning t c) (frames_in meaning t c) bare n)),
      )

  pub output_lem : OutputGoesOut meaning
  output_lem gone old new h t v n = rest_same gone old new t v n h

  pub turns_lem : OutputTakesNoTurn meaning
  turns_lem gone old new h t v = turns_same gone old new t v h
