-- The end of a node.
use Rattle.std.proofs.Common.{◌≡◌, ℕ, suc, ◌+◌, ◌≤◌, List, [], ◌∷◌, ◌++◌, refl, sym, ap, ◌∙◌, subst, arith}
use Rattle.std.specs.Prelude.{map as each}
use Rattle.wjs_base.specs.Text.{Table}
use Rattle.wjs_store.specs.Meaning.{Meaning}
use Rattle.wjs_meaning.specs.Deeds.{St, Ret, Ends}
use Rattle.wjs_meaning.specs.Programs.{Done, run_next}
use Rattle.wjs_model.specs.declared.config.Config.{Config}
use Rattle.wjs_model.specs.declared.config.State.{State}
use Rattle.wjs_model.specs.declared.config.State.TheVariants as states
use Rattle.wjs_model.specs.declared.frame.Completion.{Completion}
use Rattle.wjs_model.specs.declared.frame.Completion.TheVariants as completions
use Rattle.wjs_model.specs.declared.frame.Phase.{Phase}
use Rattle.wjs_model.specs.declared.frame.Phase.TheVariants as phases
use Rattle.wjs_model.specs.declared.frame.Activation.{Activation as NumberedFrame}
use Rattle.wjs_model.specs.Begun.{resumed as given_to}
use Rattle.wjs_model.specs.Contents.{Frame, Moment, Due, Ready, Waiting, Given, Entering, Run, frame_in, moment_in, completion_in}
use Rattle.wjs_model.specs.Rest.{act_at, act_of, resumed, act_after, turns_at, turns_over}
use Rattle.wjs_model.proofs.Starts.{act_alike}
use Rattle.wjs_model.specs.Configurations.{seen, tells, run_in, state_in, frames_in, rest_by, turns_by}
use Rattle.wjs_frames.specs.Parts.{ended}
use Rattle.wjs_frames.specs.Keeping.{rest_with, Keeps}
use Rattle.wjs_frames.proofs.Frames.{each_snoc, under_snoc, turns_under_snoc}
use Rattle.wjs_frames.proofs.Keeping.{none_taken, none_under, keeps_framed, stays_framed}

alive_ended : (c : Completion) → ended c ≡ states.StepsSpent → ⊥
alive_ended (completions.Gives v) e = cc
alive_ended (completions.Refers r) e = cc
alive_ended completions.Normal e = cc
alive_ended (completions.Breaks label) e = cc
alive_ended (completions.Continues label) e = cc
alive_ended (completions.Returns v) e = cc
alive_ended (completions.Throws v) e = cc

rest_ended : (t : Table) (c : Completion) (run : Run) (frames : List Frame) (st : St) (n : ℕ)
    → run_next (Ends (completion_in t c) st n) (λ st' n'. (Done, st')) ≡ rest_by t (ended c) run frames st n
rest_ended t (completions.Gives v) run frames st n = refl
rest_ended t (completions.Refers r) run frames st n = refl
rest_ended t completions.Normal run frames st n = refl
rest_ended t (completions.Breaks label) run frames st n = refl
rest_ended t (completions.Continues label) run frames st n = refl
rest_ended t (completions.Returns v) run frames st n = refl
rest_ended t (completions.Throws v) run frames st n = refl

turns_ended : (c : Completion) (run : Run) (frames : List Frame) (st : St) → turns_by (ended c) run frames st ≡ 0
turns_ended (completions.Gives v) run frames st = refl
turns_ended (completions.Refers r) run frames st = refl
turns_ended completions.Normal run frames st = refl
turns_ended (completions.Breaks label) run frames st = refl
turns_ended (completions.Continues label) run frames st = refl
turns_ended (completions.Returns v) run frames st = refl
turns_ended (completions.Throws v) run frames st = refl

fewer_ended : (m k : ℕ) → m ≡ 0 → m + 1 ≤ suc k
fewer_ended m k e = omega (arith, e)

fewer_given : (x y k : ℕ) → x ≤ suc y → k ≡ suc y → x + 1 ≤ suc k
fewer_given x y k h e = omega (arith, h, e)

-- a completion is given to a frame by content as to the numbered one
resumed_in : (t : Table) (p : Phase) (c : Completion) → moment_in t (given_to p c) ≡ resumed (moment_in t p) (completion_in t c)
resumed_in t (phases.Due start) c = refl
resumed_in t (phases.Ready start) c = refl
resumed_in t (phases.Waiting point) c = refl
resumed_in t (phases.Given point d) c = refl
resumed_in t (phases.Entering point o) c = refl

none_more : (k : ℕ) → 0 ≤ suc k
none_more k = omega arith

at_most : (k : ℕ) → k ≤ k
at_most k = omega arith

-- a frame takes at most its own turn and those of what it does next
turns_most : (run : Run) (fs : List Frame) (f : Frame) (m : Moment) (st : St) → turns_at run fs f m st ≤ suc (turns_over run (act_at run f m) fs st)
turns_most run fs f (Due start) st = none_more (turns_over run (act_at run f (Due start)) fs st)
turns_most run fs f (Ready start) st = at_most (turns_at run fs f (Ready start) st)
turns_most run fs f (Waiting point) st = at_most (turns_at run fs f (Waiting point) st)
turns_most run fs f (Given point c) st = at_most (turns_at run fs f (Given point c) st)
turns_most run fs f (Entering point o) st = none_more (turns_over run (act_at run f (Entering point o)) fs st)

-- what a frame does next once it was given a completion
act_given : (t : Table) (run : Run) (f : NumberedFrame) (c : Completion)
    → act_of run (frame_in t (record f { phase = given_to f.phase c })) ≡ act_after run (frame_in t f) (completion_in t c)
act_given t run f c =
    let next = moment_in t (given_to f.phase c) in
    act_alike run (frame_in t f) next next ∙ ap (act_at run (frame_in t f)) (resumed_in t f.phase c)

module _ {S : Type 0} (meaning : S → Meaning) where
  -- the frame below is given the completion
  pub keeps_given : (t : Table) (c : Completion) (old : Config S) (frames fs : List NumberedFrame) (f : NumberedFrame) → old.state ≡ states.Running
      → old.frames ≡ fs ++ f ∷ [] → frames ≡ fs ++ record f { phase = given_to f.phase c } ∷ []
      → Keeps meaning t 1 (Ret (completion_in t c)) old (record old { frames = frames })
  keeps_given t c old frames fs f er eo ef =
      let run = run_in meaning t old in
      let gs = each (frame_in t) fs in
      let g = frame_in t f in
      let next = frame_in t (record f { phase = given_to f.phase c }) in
      let d = completion_in t c in
      let eg : frames_in meaning t old ≡ gs ++ g ∷ [] = ap (each (frame_in t)) eo ∙ each_snoc (frame_in t) fs f in
      keeps_framed meaning t 1 (Ret d) (act_after run g d) old frames fs (record f { phase = given_to f.phase c }) er ef (act_given t run f c)
      (λ st n. ap (λ l. rest_with run (Ret d) l st n) eg ∙ ap (λ o. run_next o (λ st' n'. (Done, st'))) (under_snoc run gs g Ends d st n))
      (λ st. fewer_given (turns_at run gs next next.moment st) (turns_over run (act_after run g d) gs st) (turns_over run (Ret d) (frames_in meaning t old) st)
      (subst (λ a. turns_at run gs next next.moment st ≤ suc (turns_over run a gs st)) (act_given t run f c) (turns_most run gs next next.moment st))
      (ap (λ l. turns_over run (Ret d) l st) eg ∙ ap (λ go. suc (go d st)) (turns_under_snoc run gs g (λ c' st'. 0))))

  -- no frame is left
  pub keeps_ended : (t : Table) (c : Completion) (old : Config S) (frames : List NumberedFrame) (state : State) → old.frames ≡ [] → state ≡ ended c
      → Keeps meaning t 1 (Ret (completion_in t c)) old (record old { frames = frames; state = state })
  keeps_ended t c old frames state eo es =
      let run = run_in meaning t old in
      let gs = each (frame_in t) frames in
      record {
        stays = stays_framed meaning old frames state;
        cost = 0;
        left = sym (none_taken old.left);
        alive = λ e. alive_ended c (sym es ∙ e);
        kept = λ v a k n.
            let st = state_in meaning t v old in
            ap (seen (tells meaning old)) (
            ap (rest_with run (Ret (completion_in t c)) (frames_in meaning t old) st) (none_taken n)
            ∙ ap (λ l. rest_with run (Ret (completion_in t c)) (each (frame_in t) l) st n) eo
            ∙ rest_ended t c run gs st n
            ∙ ap (λ s. rest_by t s run gs st n) (sym es));
        paid = λ v a k m l. absurd (none_under m l);
        knows = λ v a k. k;
        falls = λ none v a k.
            let st = state_in meaning t v old in
            fewer_ended (turns_by state run gs st) _ (ap (λ s. turns_by s run gs st) es ∙ turns_ended c run gs st);
      }
