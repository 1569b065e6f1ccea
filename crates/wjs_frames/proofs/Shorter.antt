-- Deeds that come to the same in fewer turns are followed by what those are followed by.
use Rattle.std.proofs.Common.{◌≡◌, ℕ, suc, ◌+◌, ◌≤◌, refl, sym, ap, ◌∙◌, subst, arith}
use Rattle.std.specs.Prelude.{Result, OnOk}
use Rattle.std.proofs.lemmas.Result.{on_ok_weaker}
use Rattle.wjs_base.specs.declared.ids.OutOfMemory.{OutOfMemory}
use Rattle.wjs_base.specs.declared.ids.WorldId.{WorldId}
use Rattle.wjs_store.specs.Meaning.{Meaning}
use Rattle.wjs_by_content.specs.Plans.{Plan, Gives, Reads, Writes, Lists}
use Rattle.wjs_by_content.specs.Objects.{Arena}
use Rattle.wjs_meaning.specs.Deeds.{Completion, Act, Ret, Sub, Do, Look, Deed, Answer, Ends, interp, then_do, answer_of, state_after, carry_out}
use Rattle.wjs_meaning.specs.Programs.{eval, Done, run_next}
use Rattle.wjs_model.specs.declared.config.Config.{Config}
use Rattle.wjs_model.specs.Rest.{under, turns_act, turns_under, turns_over}
use Rattle.wjs_model.specs.Outside.{Outside, Admits, Sees}
use Rattle.wjs_model.specs.Configurations.{seen, tells, run_in, state_in, frames_in, turns}
use Rattle.wjs_frames.specs.Keeping.{rest_with}
use Rattle.wjs_frames.specs.Following.{Follows}
use Rattle.wjs_frames.specs.Shortening.{Shortens}

least : (x : ℕ) → x ≤ x
least x = omega arith

below : (x y z : ℕ) → x ≤ y → y ≤ z → x ≤ z
below x y z h k = omega (arith, h, k)

above_next : (x : ℕ) → x ≤ suc (suc x)
above_next x = omega arith

next_below : (x y : ℕ) → x ≤ y → suc x ≤ suc y
next_below x y h = omega (arith, h)

less_below : (x y z : ℕ) → x + 1 ≤ suc y → y ≤ z → x + 1 ≤ suc z
less_below x y z h k = omega (arith, h, k)

pub shorten_same : (a : Act) → Shortens a a
shorten_same a = record { same = λ st n. refl; fewer = λ st k. least _ }

pub shorten_trans : (a b c : Act) → Shortens a b → Shortens b c → Shortens a c
shorten_trans a b c h k = record { same = λ st n. h.same st n ∙ k.same st n; fewer = λ st go. below _ _ _ (k.fewer st go) (h.fewer st go) }

-- nested deeds that are at their end
pub shorten_ret : (c : Completion) (go : Completion → Act) → Shortens (Sub (Ret c) go) (go c)
shorten_ret c go = record { same = λ st n. refl; fewer = λ st k. above_next _ }

-- within nested deeds
pub shorten_sub : (a b : Act) (go : Completion → Act) → Shortens a b → Shortens (Sub a go) (Sub b go)
shorten_sub a b go h = record {
  same = λ st n. ap (λ o. then_do o (λ c st' n'. interp eval (go c) st' n')) (h.same st n);
  fewer = λ st k. next_below _ _ (h.fewer st (λ c st'. turns_act (go c) st' k));
}

-- nested deeds that are at their end after others
pub shorten_ended : (a : Act) (c : Completion) (go : Completion → Act) → Shortens a (Ret c) → Shortens (Sub a go) (go c)
shorten_ended a c go h = shorten_trans _ _ _ (shorten_sub a (Ret c) go h) (shorten_ret c go)

-- behind a deed, whatever it answers
pub shorten_do : (deed : Deed) (go to : Answer deed → Act) → ((x : Answer deed) → Shortens (go x) (to x)) → Shortens (Do deed go) (Do deed to)
shorten_do deed go to h = record { same = λ st n. (h (answer_of deed st)).same (state_after deed st) n; fewer = λ st k. (h (answer_of deed st)).fewer (state_after deed st) k }

-- a deed within nested deeds
pub shorten_deed : (deed : Deed) (go : Answer deed → Act) (to : Completion → Act) → Shortens (Sub (Do deed go) to) (Do deed (λ x. Sub (go x) to))
shorten_deed deed go to = record { same = λ st n. refl; fewer = λ st k. least _ }

-- a plan within nested deeds
pub shorten_plan : {A : Type 0} (p : Plan A) (w : WorldId) (go : A → Act) (to : Completion → Act) → Shortens (Sub (carry_out p w go) to) (carry_out p w (λ x. Sub (go x) to))
shorten_plan (Gives x) w go to = shorten_same _
shorten_plan (Reads s next) w go to = shorten_trans _ _ _ (shorten_deed _ _ to) (shorten_do _ _ _ (λ found. shorten_plan (next found) w go to))
shorten_plan (Writes s c next) w go to = shorten_trans _ _ _ (shorten_deed _ _ to) (shorten_do _ _ _ (λ done. shorten_plan next w go to))
shorten_plan (Lists o next) w go to = shorten_trans _ _ _ (shorten_deed _ _ to) (shorten_do _ _ _ (λ names. shorten_plan (next names) w go to))

module _ {S : Type 0} (meaning : S → Meaning) where
  shorter_follows : (long short : Act) (old new : Config S) → Shortens long short → Follows meaning short old new → Follows meaning long old new
  shorter_follows long short old new h f =
      let t = new.heap.texts in
      let run = run_in meaning t old in
      let fs = frames_in meaning t old in
      record {
        keeps = record {
          stays = f.keeps.stays;
          cost = f.keeps.cost;
          left = f.keeps.left;
          alive = f.keeps.alive;
          kept = λ v a k n. ap (λ o. seen (tells meaning old) (run_next (then_do o (under run fs Ends)) (λ st' n'. (Done, st')))) (h.same (state_in meaning t v old) (f.keeps.cost + n)) ∙ f.keeps.kept v a k n;
          paid = λ v a k m l. ap (λ o. (run_next (then_do o (under run fs Ends)) (λ st' n'. (Done, st'))).0) (h.same (state_in meaning t v old) m) ∙ f.keeps.paid v a k m l;
          knows = f.keeps.knows;
          falls = λ none v a k. less_below _ _ _ (f.keeps.falls none v a k) (h.fewer (state_in meaning t v old) (turns_under run fs (λ c st'. 0)));
        };
        sound = f.sound;
      }

  -- what is followed of shorter deeds is followed of the long ones
  pub follows_shorter : (long short : Act) (old new : Config S) (r : Result (Unit {0}) OutOfMemory) → Shortens long short → OnOk r (Follows meaning short old new) → OnOk r (Follows meaning long old new)
  follows_shorter long short old new r h k = on_ok_weaker r (shorter_follows long short old new h) k

  -- nested deeds that are at their end
  pub follows_ret : (c : Completion) (go : Completion → Act) (old new : Config S) (r : Result (Unit {0}) OutOfMemory) → OnOk r (Follows meaning (go c) old new) → OnOk r (Follows meaning (Sub (Ret c) go) old new)
  follows_ret c go old new r k = follows_shorter (Sub (Ret c) go) (go c) old new r (shorten_ret c go) k

  look_follows : (old new : Config S) (go : Arena → Act) (act : Act) → ((arena : Arena) → Sees meaning old new.heap.texts arena → go arena ≡ act) → Follows meaning act old new → Follows meaning (Do Look go) old new
  look_follows old new go act h f =
      let t = new.heap.texts in
      let run = run_in meaning t old in
      let fs = frames_in meaning t old in
      let seen_as : (v : Outside) → Admits meaning new v → go (state_in meaning t v old).arena ≡ act = λ v a. h (state_in meaning t v old).arena (record { more = v.more; further = (f.keeps.stays.narrows v a).further; is = refl }) in
      record {
        keeps = record {
          stays = f.keeps.stays;
          cost = f.keeps.cost;
          left = f.keeps.left;
          alive = f.keeps.alive;
          kept = λ v a k n. ap (λ q. seen (tells meaning old) (rest_with run q fs (state_in meaning t v old) (f.keeps.cost + n))) (seen_as v a) ∙ f.keeps.kept v a k n;
          paid = λ v a k m l. ap (λ q. (rest_with run q fs (state_in meaning t v old) m).0) (seen_as v a) ∙ f.keeps.paid v a k m l;
          knows = f.keeps.knows;
          falls = λ none v a k. subst (λ q. turns meaning t v new + 1 ≤ suc (turns_over run q fs (state_in meaning t v old))) (sym (seen_as v a)) (f.keeps.falls none v a k);
        };
        sound = f.sound;
      }

  -- a look at the objects
  pub follows_look : (go : Arena → Act) (act : Act) (old new : Config S) (r : Result (Unit {0}) OutOfMemory) → ((arena : Arena) → Sees meaning old new.heap.texts arena → go arena ≡ act) → OnOk r (Follows meaning act old new) → OnOk r (Follows meaning (Do Look go) old new)
  follows_look go act old new r h k = on_ok_weaker r (look_follows old new go act h) k
