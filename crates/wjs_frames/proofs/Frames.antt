-- What is left to do of frames with one on top.
use Rattle.std.proofs.Common.{◌≡◌, ℕ, List, [], ◌∷◌, ◌++◌, refl, ap, ◌∙◌}
use Rattle.std.specs.Prelude.{map as each}
use Rattle.wjs_meaning.specs.Deeds.{St, Completion, interp, then_do}
use Rattle.wjs_meaning.specs.Programs.{eval, Done, run_next}
use Rattle.wjs_model.specs.Frames.{last}
use Rattle.wjs_model.proofs.Tops.{last-snoc, front-snoc}
use Rattle.wjs_model.specs.Contents.{Frame, Run}
use Rattle.wjs_model.specs.Rest.{Go, Count, under, turns_under, turns_act, act_after, act_of, rest_top, rest_of, turns_at, turns_top, turns_of}
use Rattle.wjs_frames.specs.Keeping.{rest_with}

pub each_snoc : {A B : Type 0} (f : A → B) (xs : List A) (x : A) → each f (xs ++ x ∷ []) ≡ each f xs ++ f x ∷ []
each_snoc f [] x = refl
each_snoc f (y ∷ ys) x = ap (λ l. f y ∷ l) (each_snoc f ys x)

-- the frame on top is asked first
pub under_snoc : (run : Run) (fs : List Frame) (f : Frame) (go : Go) (c : Completion) (st : St) (n : ℕ)
    → under run (fs ++ f ∷ []) go c st n ≡ then_do (interp eval (act_after run f c) st n) (under run fs go)
under_snoc run [] f go c st n = refl
under_snoc run (g ∷ fs) f go c st n = under_snoc run fs f _ c st n

pub turns_under_snoc : (run : Run) (fs : List Frame) (f : Frame) (go : Count)
    → turns_under run (fs ++ f ∷ []) go ≡ (λ c st. turns_act (act_after run f c) st (turns_under run fs go))
turns_under_snoc run [] f go = refl
turns_under_snoc run (g ∷ fs) f go = turns_under_snoc run fs f _

pub rest_of_snoc : (run : Run) (fs : List Frame) (f : Frame) (st : St) (n : ℕ) → rest_of run (fs ++ f ∷ []) st n ≡ rest_with run (act_of run f) fs st n
rest_of_snoc run fs f st n =
    ap (λ l. run_next (rest_top run l (last (fs ++ f ∷ [])) st n) (λ st' n'. (Done, st'))) (front-snoc fs f)
    ∙ ap (λ o. run_next (rest_top run fs o st n) (λ st' n'. (Done, st'))) (last-snoc fs f)

pub turns_of_snoc : (run : Run) (fs : List Frame) (f : Frame) (st : St) → turns_of run (fs ++ f ∷ []) st ≡ turns_at run fs f f.moment st
turns_of_snoc run fs f st = ap (λ l. turns_top run l (last (fs ++ f ∷ [])) st) (front-snoc fs f) ∙ ap (λ o. turns_top run fs o st) (last-snoc fs f)

-- what was put on top, by what it is
pub put_on : {A : Type 0} (all xs : List A) (made x : A) → all ≡ xs ++ made ∷ [] → made ≡ x → all ≡ xs ++ x ∷ []
put_on all xs made x e f = e ∙ ap (λ y. xs ++ y ∷ []) f
