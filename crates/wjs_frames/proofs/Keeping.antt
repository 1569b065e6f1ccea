-- Moves that change the frames alone.
use Rattle.std.proofs.Common.{◌≡◌, ℕ, suc, ◌+◌, ◌<◌, ◌≤◌, List, [], ◌∷◌, ◌++◌, None, Some, refl, sym, ap, ◌∙◌, subst, arith}
use Rattle.std.specs.Prelude.{map as each}
use Rattle.std.specs.FinMap as map
use Rattle.wjs_base.specs.declared.ids.ObjId.{ObjId}
use Rattle.wjs_base.specs.Text.{Table, Grows}
use Rattle.wjs_store.specs.Meaning.{Meaning}
use Rattle.wjs_arena.specs.Entries.{Entry}
use Rattle.wjs_meaning.specs.Deeds.{St, Act}
use Rattle.wjs_model.specs.declared.config.Config.{Config}
use Rattle.wjs_model.specs.declared.config.State.{State}
use Rattle.wjs_model.specs.declared.config.State.TheVariants as states
use Rattle.wjs_model.specs.declared.frame.Activation.{Activation as NumberedFrame}
use Rattle.wjs_model.specs.Contents.{frame_in}
use Rattle.wjs_model.specs.Rest.{act_of, turns_at, turns_over, rest_of, turns_of}
use Rattle.wjs_model.specs.Configurations.{seen, tells, run_in, state_in, frames_in, rest_by, turns_by, Stays}
use Rattle.wjs_frames.specs.Keeping.{rest_with, Keeps}
use Rattle.wjs_frames.proofs.Frames.{each_snoc, rest_of_snoc, turns_of_snoc}

append_nil : {A : Type 0} (xs : List A) → xs ≡ xs ++ []
append_nil [] = refl
append_nil (x ∷ xs) = ap (λ l. x ∷ l) (append_nil xs)

pub grows_same : (t : Table) → Grows t t
grows_same t = ([], append_nil t)

-- no step is taken
pub none_taken : (n : ℕ) → 0 + n ≡ n
none_taken n = omega arith

pub none_under : (m : ℕ) → m < 0 → ⊥
none_under m l = omega (arith, l)

not_spent : (s : State) → s ≡ states.Running → s ≡ states.StepsSpent → ⊥
not_spent s r e = cc

module _ {S : Type 0} (meaning : S → Meaning) where
  -- an object isn't both there and not
  not_both : (old : Config S) (o : ObjId) (e : Entry) → map.get old.heap.arena o ≡ None → map.get old.heap.arena o ≡ Some e → ⊥
  not_both old o e h k = cc

  pub stays_framed : (old : Config S) (frames : List NumberedFrame) (state : State) → Stays meaning old (record old { frames = frames; state = state })
  stays_framed old frames state = record {
    units = refl;
    global = refl;
    world = refl;
    owner = refl;
    apart = refl;
    texts = grows_same old.heap.texts;
    objects = λ o e h. h;
    made = λ o e h k. absurd (not_both old o e h k);
    own = refl;
    around = refl;
    narrows = λ v a. a;
  }

  -- deeds are kept where the frames, with one on top, do the same
  pub keeps_framed : (t : Table) (by : ℕ) (act now : Act) (old : Config S) (frames fs : List NumberedFrame) (f : NumberedFrame) → old.state ≡ states.Running → frames ≡ fs ++ f ∷ [] → act_of (run_in meaning t old) (frame_in t f) ≡ now
      → ((st : St) (n : ℕ) → rest_with (run_in meaning t old) act (frames_in meaning t old) st n ≡ rest_with (run_in meaning t old) now (each (frame_in t) fs) st n)
      → ((st : St) → turns_at (run_in meaning t old) (each (frame_in t) fs) (frame_in t f) (frame_in t f).moment st + by ≤ suc (turns_over (run_in meaning t old) act (frames_in meaning t old) st))
      → Keeps meaning t by act old (record old { frames = frames })
  keeps_framed t by act now old frames fs f er ef ea same fewer =
      let run = run_in meaning t old in
      let gs = each (frame_in t) fs in
      let g = frame_in t f in
      let eg : each (frame_in t) frames ≡ gs ++ g ∷ [] = ap (each (frame_in t)) ef ∙ each_snoc (frame_in t) fs f in
      record {
        stays = stays_framed old frames old.state;
        cost = 0;
        left = sym (none_taken old.left);
        alive = not_spent old.state er;
        kept = λ v a k n.
            let st = state_in meaning t v old in
            ap (seen (tells meaning old)) (
            ap (rest_with run act (frames_in meaning t old) st) (none_taken n)
            ∙ same st n
            ∙ sym (ap (λ act'. rest_with run act' gs st n) ea)
            ∙ sym (rest_of_snoc run gs g st n)
            ∙ sym (ap (λ l. rest_of run l st n) eg)
            ∙ sym (ap (λ s. rest_by t s run (each (frame_in t) frames) st n) er));
        paid = λ v a k m l. absurd (none_under m l);
        knows = λ v a k. k;
        falls = λ none v a k.
            let st = state_in meaning t v old in
            let e : turns_by old.state run (each (frame_in t) frames) st ≡ turns_at run gs g g.moment st =
            ap (λ s. turns_by s run (each (frame_in t) frames) st) er
            ∙ ap (λ l. turns_of run l st) eg
            ∙ turns_of_snoc run gs g st in
            subst (λ m. m + by ≤ suc (turns_over run act (frames_in meaning t old) st)) (sym e) (fewer st);
      }
