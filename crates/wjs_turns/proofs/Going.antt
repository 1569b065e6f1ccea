-- Turns one after another until none can be taken.
use Rattle.std.proofs.Common.{◌≡◌, ℕ, ◌+◌, ◌-◌, inr, refl, sym, ap, ◌∙◌, subst, arith, not, IsTrue}
use Rattle.wjs_base.specs.Text.{Grows}
use Rattle.wjs_base.proofs.TextLaws.{Grows-trans}
use Rattle.wjs_store.specs.Meaning.{Meaning, IsSound}
use Rattle.wjs_model.specs.declared.config.Config.{Config}
use Rattle.wjs_model.specs.declared.config.State.TheVariants as states
use Rattle.wjs_model.specs.Configurations.{rest, Turned, quietly, by_step, stopped, Quiet, Stepped, Stopped}
use Rattle.wjs_model.specs.Soundness.{Sound}
use Rattle.wjs_frames.specs.Reaching.{Falls}
use Rattle.wjs_frames.specs.Taking.{Turns}
use Rattle.wjs_frames.proofs.Growing.{left_alike}
use Rattle.wjs_frames.proofs.Keeping.{none_taken}
use Rattle.wjs_frames.proofs.Reaching.{stays_on, turn_reaches}
use Rattle.wjs_heap_steps.proofs.Steps.{stays_same}
use Rattle.wjs_machine.proofs.Running.{own_admitted}
use Rattle.wjs_machine.proofs.Stepping.{Left, left_falls}
use Rattle.wjs_turns.specs.Going.{Goes, Way, goes, stops, Went, WentToStep}

plus_assoc : (a b n : ℕ) → (a + b) + n ≡ a + (b + n)
plus_assoc a b n = omega arith

sum_left : (a b x y z : ℕ) → x ≡ a + y → y ≡ b + z → x ≡ (a + b) + z
sum_left a b x y z h k = omega (arith, h, k)

module _ {S : Type 0} (meaning : S → Meaning) where
  goes_none : (c : Config S) → Sound meaning c → Goes meaning 0 c c
  goes_none c sound = record {
    stays = stays_same meaning c;
    sound = sound;
    left = sym (none_taken c.left);
    kept = λ v a k n. ap (rest meaning c.heap.texts v c) (none_taken n);
    knows = λ v a k. k;
  }

  -- some steps, and then some more
  goes_on : (a b : ℕ) (old mid new : Config S) → Sound meaning old → Goes meaning a old mid → Goes meaning b mid new → Goes meaning (a + b) old new
  goes_on a b old mid new so f s =
      let t = new.heap.texts in
      let all : Grows old.heap.texts t = Grows-trans old.heap.texts mid.heap.texts t f.stays.texts s.stays.texts in
      record {
        stays = stays_on meaning old mid new f.stays s.stays;
        sound = s.sound;
        left = sum_left a b old.left mid.left new.left f.left s.left;
        kept = λ v ad k n.
            let before = s.stays.narrows v ad in
            ap (rest meaning t v old) (plus_assoc a b n)
            ∙ (left_alike meaning t v old so all).rest (a + (b + n))
            ∙ sym ((left_alike meaning mid.heap.texts v old so f.stays.texts).rest (a + (b + n)))
            ∙ f.kept v before k (b + n)
            ∙ sym ((left_alike meaning t v mid f.sound s.stays.texts).rest (b + n))
            ∙ s.kept v ad (f.knows v before k) n;
        knows = λ v ad k. s.knows v ad (f.knows v (s.stays.narrows v ad) k);
      }

  -- ---- one turn

  quiet_goes : (old new : Config S) → Sound meaning new → Quiet meaning old new → Goes meaning 0 old new
  quiet_goes old new sound q = record {
    stays = q.stays;
    sound = sound;
    left = sym q.left ∙ sym (none_taken new.left);
    kept = λ v a k n. ap (rest meaning new.heap.texts v old) (none_taken n) ∙ q.kept v a k n;
    knows = q.knows;
  }

  step_goes : (old new : Config S) → Sound meaning new → (q : Stepped meaning old new) → Goes meaning q.steps old new
  step_goes old new sound q = record { stays = q.stays; sound = sound; left = q.left; kept = q.kept; knows = q.knows }

  turn_went : (old new : Config S) → old.state ≡ states.Running → Sound meaning old → Sound meaning new → Turned meaning old new → Went meaning old new
  turn_went old new run so sn (quietly q) = record { taken = 0; way = goes (quiet_goes old new sn q) q.alive }
  turn_went old new run so sn (by_step q) = record { taken = q.steps; way = goes (step_goes old new sn q) q.alive }
  turn_went old new run so sn (stopped q) = record { taken = 0; way = stops old (goes_none old so) run q sn }

  -- ---- one after another

  running_lives : (c : Config S) → c.state ≡ states.Running → ¬ (c.state ≡ states.StepsSpent)
  running_lives c r e = cc

  spent_is : (last c : Config S) → Stopped meaning last c → c.state ≡ states.StepsSpent
  spent_is last c q = ap (λ (x : Config S). x.state) q.same

  pub went_none : (c : Config S) → c.state ≡ states.Running → Sound meaning c → Went meaning c c
  went_none c run sound = record { taken = 0; way = goes (goes_none c sound) (running_lives c run) }

  way_then : (a b : ℕ) (first mid new : Config S) → Sound meaning first → mid.state ≡ states.Running → Way meaning a first mid → Way meaning b mid new → Way meaning (a + b) first new
  way_then a b first mid new so run (stops last g r q s) w = absurd (running_lives mid run (spent_is last mid q))
  way_then a b first mid new so run (goes g alive) (goes h lives) = goes (goes_on a b first mid new so g h) lives
  way_then a b first mid new so run (goes g alive) (stops last h r q s) = stops last (goes_on a b first mid last so g h) r q s

  went_then : (first mid new : Config S) → Sound meaning first → mid.state ≡ states.Running → Went meaning first mid → Went meaning mid new → Went meaning first new
  went_then first mid new so run a b = record { taken = a.taken + b.taken; way = way_then a.taken b.taken first mid new so run a.way b.way }

  way_sound : (taken : ℕ) (first c : Config S) → Way meaning taken first c → Sound meaning c
  way_sound taken first c (goes g alive) = g.sound
  way_sound taken first c (stops last g r q s) = s

  pub went_sound : (first c : Config S) → Went meaning first c → Sound meaning c
  went_sound first c w = way_sound w.taken first c w.way

  pub way_left : (taken : ℕ) (first c : Config S) → Way meaning taken first c → first.left ≡ taken + c.left
  way_left taken first c (goes g alive) = g.left
  way_left taken first c (stops last g r q s) = g.left ∙ ap (λ (x : Config S). taken + x.left) (sym q.same)

  -- the steps that were taken, by those that are left
  pub way_out : (first c : Config S) → Went meaning first c → Way meaning (first.left - c.left) first c
  way_out first c w = subst (λ n. Way meaning n first c) (same w.taken c.left first.left (way_left w.taken first c w.way)) w.way
    where
      same : (a x y : ℕ) → y ≡ a + x → a ≡ y - x
      same a x y h = omega (arith, h)

  -- ---- up to a step

  pub record Under (first c : Config S) : Type 0 where
    pub went : Went meaning first c
    pub left : Left meaning first c

  pub under_none : (c : Config S) → c.state ≡ states.Running → Sound meaning c → Under c c
  under_none c run sound = record { went = went_none c run sound; left = inr refl }

  pub went_more : (first mid new : Config S) → Sound meaning first → mid.state ≡ states.Running → Went meaning first mid → WentToStep meaning mid new → Went meaning first new
  went_more first mid new so run a b = went_then first mid new so run a b.went

  module _ (works : (s : S) → IsTrue (not (meaning s).spent) → IsSound (meaning s)) where
    pub turn_falls : (old new : Config S) → Sound meaning old → Turns meaning old new → Falls meaning old new
    turn_falls old new sound turns = (turn_reaches meaning old new sound (own_admitted meaning works new turns.sound) turns.turned).1

    pub under_on : (first old new : Config S) → first.state ≡ states.Running → Sound meaning first → old.state ≡ states.Running → old.left ≡ first.left → Under first old → Turns meaning old new → Under first new
    under_on first old new run so now same u turns =
        let sound = went_sound first old u.went in
        record {
          went = went_then first old new so now u.went (turn_went old new now sound turns.sound turns.turned);
          left = left_falls meaning first old new run same (turn_falls old new sound turns);
        }
