-- Frames that stopped, and the deeds that they have still to do.
use Rattle.std.proofs.Common.{◌≡◌, ℕ, suc, ◌+◌, ◌≤◌, List, [], ◌∷◌, ◌++◌, refl, sym, ap, ◌∙◌, subst, arith}
use Rattle.std.specs.Prelude.{Some}
use Rattle.wjs_meaning.specs.Deeds.{St, Env, Goal, Completion, Act, Ret, Tick, Eval, Sub, Do, AtExpr, AtTarget, AtStmt, Again, Outcome, Ends, Spent, interp, then_do, answer_of, state_after}
use Rattle.wjs_meaning.specs.Programs.{Done, run_next, eval, entry}
use Rattle.wjs_meaning.proofs.Steps.{entries_lem}
use Rattle.wjs_model.specs.declared.point.Start.{Start}
use Rattle.wjs_model.specs.declared.point.Start.TheVariants as starts
use Rattle.wjs_model.specs.Frames.{last, front}
use Rattle.wjs_model.specs.Contents.{Frame, Moment, Due, Ready, Waiting, Given, Entering, Run, env_of}
use Rattle.wjs_model.specs.Rest.{Go, Count, act_at, act_of, act_after, under, rest_over, rest_top, rest_of, turns_act, turns_under, turns_over, turns_at, turns_top, turns_of}
use Rattle.std.specs.Prelude.{map as each}
use Rattle.wjs_base.specs.Text.{Table}
use Rattle.wjs_store.specs.Meaning.{Meaning}
use Rattle.wjs_model.specs.declared.config.Config.{Config}
use Rattle.wjs_model.specs.declared.config.State.TheVariants as states
use Rattle.wjs_model.specs.declared.frame.Activation.{Activation as NumberedFrame}
use Rattle.wjs_model.specs.Contents.{frame_in}
use Rattle.wjs_model.specs.Configurations.{run_in, frames_in}
use Rattle.wjs_frames.specs.Keeping.{Keeps, rest_with}
use Rattle.wjs_frames.proofs.Keeping.{keeps_framed}
use Rattle.wjs_stopping.specs.Stopping.{top_then, stopped_then}

then_do_assoc : (o : Outcome) (one two : Go) → then_do (then_do o one) two ≡ then_do o (λ c st n. then_do (one c st n) two)
then_do_assoc (Ends c st n) one two = refl
then_do_assoc (Spent st) one two = refl

-- ---- what they do

part_over : (goal : Goal) (env : Env) (go : Completion → Act) (k : Go) (st : St) (n : ℕ)
    → then_do (interp eval (Eval goal env go) st n) k ≡ then_do (interp eval (Tick (entry goal env)) st n) (λ c st n. then_do (interp eval (go c) st n) k)
part_over goal env go k st n =
    then_do_assoc (eval goal env st n) _ k ∙ ap (λ o. then_do o (λ c st n. then_do (interp eval (go c) st n) k)) (entries_lem goal env st n)

sub_over : (act : Act) (go : Completion → Act) (k : Go) (st : St) (n : ℕ)
    → then_do (interp eval (Sub act go) st n) k ≡ then_do (interp eval act st n) (λ c st n. then_do (interp eval (go c) st n) k)
sub_over act go k st n = then_do_assoc (interp eval act st n) _ k

due_over : (run : Run) (f : Frame) (start : Start) (go : Completion → Act) (k : Go) (st : St) (n : ℕ)
    → then_do (interp eval (top_then run f (Due start) go) st n) k ≡ then_do (interp eval (act_at run f (Due start)) st n) (λ c st n. then_do (interp eval (go c) st n) k)
due_over run f starts.Expr go k st n = part_over (AtExpr f.node) (env_of run f) go k st n
due_over run f starts.Target go k st n = part_over (AtTarget f.node) (env_of run f) go k st n
due_over run f starts.Stmt go k st n = part_over (AtStmt f.node) (env_of run f) go k st n
due_over run f starts.Again go k st n = part_over (Again f.node) (env_of run f) go k st n
due_over run f (starts.Operation op) go k st n = sub_over (act_at run f (Due (starts.Operation op))) go k st n
due_over run f starts.Variables go k st n = sub_over (act_at run f (Due starts.Variables)) go k st n
due_over run f starts.Program go k st n = sub_over (act_at run f (Due starts.Program)) go k st n
due_over run f (starts.Body o) go k st n = sub_over (act_at run f (Due (starts.Body o))) go k st n
due_over run f (starts.Convert to) go k st n = sub_over (act_at run f (Due (starts.Convert to))) go k st n
due_over run f starts.Call go k st n = sub_over (act_at run f (Due starts.Call)) go k st n
due_over run f (starts.Native native new) go k st n = sub_over (act_at run f (Due (starts.Native native new))) go k st n
due_over run f (starts.ApplyElement i) go k st n = sub_over (act_at run f (Due (starts.ApplyElement i))) go k st n
due_over run f (starts.GlueElement i) go k st n = sub_over (act_at run f (Due (starts.GlueElement i))) go k st n

top_over : (run : Run) (f : Frame) (moment : Moment) (go : Completion → Act) (k : Go) (st : St) (n : ℕ)
    → then_do (interp eval (top_then run f moment go) st n) k ≡ then_do (interp eval (act_at run f moment) st n) (λ c st n. then_do (interp eval (go c) st n) k)
top_over run f (Due start) go k st n = due_over run f start go k st n
top_over run f (Ready start) go k st n = sub_over (act_at run f (Ready start)) go k st n
top_over run f (Waiting point) go k st n = sub_over (act_at run f (Waiting point)) go k st n
top_over run f (Given point c) go k st n = sub_over (act_at run f (Given point c)) go k st n
top_over run f (Entering point o) go k st n = sub_over (act_at run f (Entering point o)) go k st n

then_same : (o : Outcome) (one two : Go) → ((c : Completion) (st : St) (n : ℕ) → one c st n ≡ two c st n) → then_do o one ≡ then_do o two
then_same (Ends c st n) one two h = h c st n
then_same (Spent st) one two h = refl

under_same : (run : Run) (fs : List Frame) (one two : Go) → ((c : Completion) (st : St) (n : ℕ) → one c st n ≡ two c st n)
    → (c : Completion) (st : St) (n : ℕ) → under run fs one c st n ≡ under run fs two c st n
under_same run [] one two h c st n = h c st n
under_same run (f ∷ fs) one two h c st n = under_same run fs _ _ (λ c st n. then_same (interp eval (act_after run f c) st n) one two h) c st n

-- with whatever comes after them
pub stopped_over : (run : Run) (waits : List Frame) (top : Frame) (go : Completion → Act) (k : Go) (st : St) (n : ℕ)
    → then_do (interp eval (stopped_then run waits top go) st n) k ≡ then_do (interp eval (act_of run top) st n) (under run waits (λ c st n. then_do (interp eval (go c) st n) k))
stopped_over run [] top go k st n = top_over run top top.moment go k st n
stopped_over run (f ∷ fs) top go k st n =
    stopped_over run fs top (λ c. Sub (act_after run f c) go) k st n
    ∙ then_same (interp eval (act_of run top) st n) _ _ (under_same run fs _ _ (λ c st n. sub_over (act_after run f c) go k st n))

under_both : (run : Run) (below waits : List Frame) (k : Go) → under run (below ++ waits) k ≡ under run waits (under run below k)
under_both run [] waits k = refl
under_both run (f ∷ below) waits k = under_both run below waits _

front_of : (fs : List Frame) (f : Frame) → front (fs ++ f ∷ []) ≡ fs
front_of [] f = refl
front_of (g ∷ []) f = refl
front_of (g ∷ h ∷ fs) f = ap (λ l. g ∷ l) (front_of (h ∷ fs) f)

last_of : (fs : List Frame) (f : Frame) → last (fs ++ f ∷ []) ≡ Some f
last_of [] f = refl
last_of (g ∷ []) f = refl
last_of (g ∷ h ∷ fs) f = last_of (h ∷ fs) f

pub does_what_stopped : (run : Run) (below waits : List Frame) (top : Frame) (st : St) (n : ℕ)
    → rest_of run ((below ++ waits) ++ top ∷ []) st n ≡ run_next (rest_over run (stopped_then run waits top Ret) below st n) (λ st' n'. (Done, st'))
does_what_stopped run below waits top st n =
    ap (λ fs. run_next (rest_top run fs (last ((below ++ waits) ++ top ∷ [])) st n) (λ st' n'. (Done, st'))) (front_of (below ++ waits) top)
    ∙ ap (λ l. run_next (rest_top run (below ++ waits) l st n) (λ st' n'. (Done, st'))) (last_of (below ++ waits) top)
    ∙ ap (λ k. run_next (then_do (interp eval (act_of run top) st n) k) (λ st' n'. (Done, st'))) (under_both run below waits Ends)
    ∙ ap (λ o. run_next o (λ st' n'. (Done, st'))) (sym (stopped_over run waits top Ret (under run below Ends) st n))

-- ---- in how many turns

same_below : (x : ℕ) → x ≤ x
same_below x = omega arith

next_below : (x y : ℕ) → x ≤ y → suc x ≤ suc y
next_below x y h = omega (arith, h)

within_next : (x y : ℕ) → x ≤ y → x ≤ suc y
within_next x y h = omega (arith, h)

below_below : (x y z : ℕ) → x ≤ y → y ≤ z → x ≤ z
below_below x y z h k = omega (arith, h, k)

abbrev no_more : (k k' : Count) → Type 0
no_more k k' = (c : Completion) (st : St) → k c st ≤ k' c st

act_fewer : (a : Act) (st : St) (k k' : Count) → no_more k k' → turns_act a st k ≤ turns_act a st k'
act_fewer (Ret c) st k k' h = next_below _ _ (h c st)
act_fewer (Tick a) st k k' h = same_below 0
act_fewer (Eval goal env go) st k k' h = same_below 0
act_fewer (Sub a go) st k k' h = next_below _ _ (act_fewer a st _ _ (λ c st'. act_fewer (go c) st' k k' h))
act_fewer (Do deed go) st k k' h = act_fewer (go (answer_of deed st)) (state_after deed st) k k' h

under_fewer : (run : Run) (fs : List Frame) (k k' : Count) → no_more k k' → no_more (turns_under run fs k) (turns_under run fs k')
under_fewer run [] k k' h = h
under_fewer run (f ∷ fs) k k' h = under_fewer run fs _ _ (λ c st. act_fewer (act_after run f c) st k k' h)

-- deeds on top, and so many turns before them
stopped_fewer : (run : Run) (waits : List Frame) (top : Frame) (act : Act) (st : St) (go : Completion → Act) (k : Count)
    → ((go' : Completion → Act) → suc (turns_act act st (λ c st'. turns_act (go' c) st' k)) ≤ turns_act (top_then run top top.moment go') st k)
    → suc (turns_act act st (turns_under run waits (λ c st'. turns_act (go c) st' k))) ≤ turns_act (stopped_then run waits top go) st k
stopped_fewer run [] top act st go k h = h go
stopped_fewer run (f ∷ fs) top act st go k h =
    below_below _ _ _
    (next_below _ _ (act_fewer act st _ _ (under_fewer run fs _ _ (λ c st'. within_next _ _ (same_below (turns_act (act_after run f c) st' (λ c' st''. turns_act (go c') st'' k)))))))
    (stopped_fewer run fs top act st (λ c. Sub (act_after run f c) go) k h)

turns_both : (run : Run) (below waits : List Frame) (k : Count) → turns_under run (below ++ waits) k ≡ turns_under run waits (turns_under run below k)
turns_both run [] waits k = refl
turns_both run (f ∷ below) waits k = turns_both run below waits _

none_more : (y : ℕ) → 0 + 1 ≤ suc y
none_more y = omega arith

one_more : (x z : ℕ) → suc x ≤ z → suc x + 1 ≤ suc z
one_more x z h = omega (arith, h)

-- those of a frame that isn't due
waits_fewer : (run : Run) (below waits : List Frame) (top : Frame) (act : Act) (st : St)
    → ((go' : Completion → Act) → suc (turns_act act st (λ c st'. turns_act (go' c) st' (turns_under run below (λ c st'. 0)))) ≤ turns_act (top_then run top top.moment go') st (turns_under run below (λ c st'. 0)))
    → suc (turns_over run act (below ++ waits) st) + 1 ≤ suc (turns_over run (stopped_then run waits top Ret) below st)
waits_fewer run below waits top act st h =
    one_more _ _ (below_below _ _ _
    (subst (λ k. suc (turns_act act st k) ≤ suc (turns_act act st (turns_under run waits (λ c st'. turns_act (Ret c) st' (turns_under run below (λ c st'. 0))))))
    (sym (turns_both run below waits (λ c st'. 0)))
    (next_below _ _ (act_fewer act st _ _ (under_fewer run waits _ _ (λ c st'. within_next _ _ (same_below (turns_under run below (λ c st'. 0) c st')))))))
    (stopped_fewer run waits top act st Ret (turns_under run below (λ c st'. 0)) h))

sub_fewer : (run : Run) (top : Frame) (act : Act) (st : St) (go : Completion → Act) (k : Count) (m : Moment) → top_then run top m go ≡ Sub act go
    → suc (turns_act act st (λ c st'. turns_act (go c) st' k)) ≤ turns_act (top_then run top m go) st k
sub_fewer run top act st go k m e = subst (λ a. suc (turns_act act st (λ c st'. turns_act (go c) st' k)) ≤ turns_act a st k) (sym e) (same_below (suc (turns_act act st (λ c st'. turns_act (go c) st' k))))

moment_fewer : (run : Run) (below waits : List Frame) (top : Frame) (st : St) (moment : Moment) → top.moment ≡ moment
    → turns_at run (below ++ waits) top moment st + 1 ≤ suc (turns_over run (stopped_then run waits top Ret) below st)
moment_fewer run below waits top st (Due start) e = none_more _
moment_fewer run below waits top st (Entering point o) e = none_more _
moment_fewer run below waits top st (Ready start) e =
    waits_fewer run below waits top (act_at run top (Ready start)) st (λ go'. sub_fewer run top (act_at run top (Ready start)) st go' (turns_under run below (λ c' st'. 0)) top.moment (ap (λ m. top_then run top m go') e))
moment_fewer run below waits top st (Waiting point) e =
    waits_fewer run below waits top (act_at run top (Waiting point)) st (λ go'. sub_fewer run top (act_at run top (Waiting point)) st go' (turns_under run below (λ c' st'. 0)) top.moment (ap (λ m. top_then run top m go') e))
moment_fewer run below waits top st (Given point c) e =
    waits_fewer run below waits top (act_at run top (Given point c)) st (λ go'. sub_fewer run top (act_at run top (Given point c)) st go' (turns_under run below (λ c' st'. 0)) top.moment (ap (λ m. top_then run top m go') e))

pub takes_no_more_turns : (run : Run) (below waits : List Frame) (top : Frame) (st : St)
    → turns_of run ((below ++ waits) ++ top ∷ []) st + 1 ≤ suc (turns_over run (stopped_then run waits top Ret) below st)
takes_no_more_turns run below waits top st =
    subst (λ fs. turns_top run fs (last ((below ++ waits) ++ top ∷ [])) st + 1 ≤ suc (turns_over run (stopped_then run waits top Ret) below st)) (sym (front_of (below ++ waits) top))
    (subst (λ l. turns_top run (below ++ waits) l st + 1 ≤ suc (turns_over run (stopped_then run waits top Ret) below st)) (sym (last_of (below ++ waits) top))
    (moment_fewer run below waits top st top.moment refl))

-- ---- put on the others

each_both : {A B : Type 0} (f : A → B) (xs ys : List A) → each f (xs ++ ys) ≡ each f xs ++ each f ys
each_both f [] ys = refl
each_both f (x ∷ xs) ys = ap (λ l. f x ∷ l) (each_both f xs ys)

rest_stopped : (run : Run) (below waits : List Frame) (top : Frame) (st : St) (n : ℕ)
    → rest_with run (stopped_then run waits top Ret) below st n ≡ rest_with run (act_of run top) (below ++ waits) st n
rest_stopped run below waits top st n =
    ap (λ o. run_next o (λ st' n'. (Done, st'))) (stopped_over run waits top Ret (under run below Ends) st n)
    ∙ ap (λ k. run_next (then_do (interp eval (act_of run top) st n) k) (λ st' n'. (Done, st'))) (sym (under_both run below waits Ends))

module _ {S : Type 0} (meaning : S → Meaning) where
  pub keeps_stopped : (t : Table) (old : Config S) (waits : List NumberedFrame) (top : NumberedFrame) (frames : List NumberedFrame) → old.state ≡ states.Running
      → frames ≡ (old.frames ++ waits) ++ top ∷ [] → Keeps meaning t 1 (stopped_then (run_in meaning t old) (each (frame_in t) waits) (frame_in t top) Ret) old (record old { frames = frames })
  keeps_stopped t old waits top frames er ef =
      let run = run_in meaning t old in
      let below = frames_in meaning t old in
      let ws = each (frame_in t) waits in
      let f = frame_in t top in
      let act = stopped_then run ws f Ret in
      let eb = each_both (frame_in t) old.frames waits in
      keeps_framed meaning t 1 act (act_of run f) old frames (old.frames ++ waits) top er ef refl
      (λ st n. rest_stopped run below ws f st n ∙ sym (ap (λ l. rest_with run (act_of run f) l st n) eb))
      (λ st. subst (λ l. turns_at run l f f.moment st + 1 ≤ suc (turns_over run act below st)) (sym eb) (moment_fewer run below ws f st f.moment refl))
