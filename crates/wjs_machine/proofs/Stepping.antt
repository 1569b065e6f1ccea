-- Turns up to the next step.
use Rattle.std.proofs.Common.{◌≡◌, ℕ, zero, suc, Bool, true, false, ◌<◌, ◌≤◌, ◌⊎◌, List, [], ◌++◌, Option, inl, inr, refl, sym, ap, ◌∙◌, subst, arith, append_assoc}
use Rattle.wjs_store.specs.Meaning.{Meaning}
use Rattle.wjs_io.specs.Streams.{Stream, stream, GotPrefix, Stops}
use Rattle.wjs_io.specs.Faults.{Rises}
use Rattle.wjs_io.proofs.Written.{Appends-nil, Appends-then}
use Rattle.wjs_model.specs.declared.config.Config.{Config}
use Rattle.wjs_model.specs.declared.config.State.{State}
use Rattle.wjs_model.specs.declared.config.State.TheVariants as states
use Rattle.wjs_model.specs.Soundness.{Sound}
use Rattle.wjs_frames.specs.Reaching.{Falls, turns_now}
use Rattle.wjs_frames.proofs.Reaching.{stays_on}
use Rattle.wjs_machine.specs.Flushing.{after_output}
use Rattle.wjs_machine.specs.Runs.{run_of, output_of, Advances, Halts, HaltsAfter, Reaches, ReachesStep, weight, weight_by}
use Rattle.wjs_model.specs.declared.halt.Halt.{Halt}
use Rattle.wjs_model.specs.declared.halt.Halt.TheVariants as halts
use Rattle.wjs_machine.proofs.Pending.{stays_out}
use Rattle.wjs_machine.proofs.Running.{after_both}

-- the turns that are left before a step is taken or the run has ended, where the steps were so many at first
abbrev pub turns_if : State → Bool → ℕ → ℕ
turns_if states.Running true n = suc n
turns_if _ _ n = 0

abbrev pub same_number : ℕ → ℕ → Bool
same_number zero zero = true
same_number (suc m) (suc n) = same_number m n
same_number _ _ = false

same_number_refl : (n : ℕ) → same_number n n ≡ true
same_number_refl zero = refl
same_number_refl (suc n) = same_number_refl n

same_number_less : (m n : ℕ) → m < n → same_number m n ≡ false
same_number_less zero zero h = absurd (omega (arith, h))
same_number_less zero (suc n) h = refl
same_number_less (suc m) zero h = absurd (omega (arith, h))
same_number_less (suc m) (suc n) h = same_number_less m n (omega (arith, h))

-- a count that rose later rose
later_cause : (f0 f1 f2 : ℕ) → f0 ≤ f1 → Rises f1 f2 → Rises f0 f2
later_cause f0 f1 f2 le h = omega (arith, le, h)

module _ {S : Type 0} (meaning : S → Meaning) where
  abbrev pub turns_to_step : Config S → Config S → ℕ
  turns_to_step first c = turns_if c.state (same_number c.left first.left) (turns_now meaning c)

  -- a step was taken, or the run has ended, or the steps are as many as at first
  abbrev pub Left : Config S → Config S → Type 0
  Left first c = (weight c < weight first) ⊎ (c.left ≡ first.left)

  pub record Under (s : Stream) (first c : Config S) : Type 0 where
    pub reaches : Reaches meaning s first c
    pub left : Left first c

  -- at first nothing has gone out
  reach_none : (one : Option (List ℕ)) (faults : ℕ) (c : Config S) → Sound meaning c → Reaches meaning (stream one one faults faults) c c
  reach_none one faults c sound = record { gone = []; got = Appends-nil one; run = refl; stays = stays_out meaning c c refl; sound = sound }

  pub under_none : (one : Option (List ℕ)) (faults : ℕ) (c : Config S) → Sound meaning c → Under (stream one one faults faults) c c
  under_none one faults c sound = record { reaches = reach_none one faults c sound; left = inr refl }

  -- what went out, and what goes out next
  pub reach_on : (before middle after : Option (List ℕ)) (f0 f1 f2 f3 : ℕ) (old mid new : Config S) → Reaches meaning (stream before middle f0 f1) old mid → Reaches meaning (stream middle after f2 f3) mid new → Reaches meaning (stream before after f0 f3) old new
  reach_on before middle after f0 f1 f2 f3 old mid new a b = record {
    gone = a.gone ++ b.gone;
    got = Appends-then before middle after a.gone b.gone a.got b.got;
    run = a.run ∙ ap (after_output a.gone) b.run ∙ after_both a.gone b.gone (run_of meaning new);
    stays = stays_on meaning old mid new a.stays b.stays;
    sound = b.sound;
  }

  -- the output of what is left stands behind what went out
  output_on : (s : Stream) (old mid : Config S) → (a : Reaches meaning s old mid) → output_of meaning old ≡ a.gone ++ output_of meaning mid
  output_on s old mid a = ap (λ r. (r.1).out) a.run

  -- the sink failed later
  pub stops_on : (before middle after : Option (List ℕ)) (f0 f1 f2 : ℕ) (old mid : Config S) → f0 ≤ f1 → Reaches meaning (stream before middle f0 f1) old mid → Stops (stream middle after f1 f2) (output_of meaning mid) → Stops (stream before after f0 f2) (output_of meaning old)
  stops_on before middle after f0 f1 f2 old mid le a h = record {
    cause = later_cause f0 f1 f2 le h.cause;
    wrote = record {
      prefix = record {
        front = a.gone ++ h.wrote.prefix.front;
        rest = h.wrote.prefix.rest;
        whole = output_on _ old mid a ∙ ap (λ l. a.gone ++ l) h.wrote.prefix.whole ∙ sym (append_assoc a.gone h.wrote.prefix.front h.wrote.prefix.rest);
        got = Appends-then before middle after a.gone h.wrote.prefix.front a.got h.wrote.prefix.got;
      };
      shorter = h.wrote.shorter;
    };
  }

  pub prefix_on : (before middle after : Option (List ℕ)) (f0 f1 f2 f3 : ℕ) (old mid : Config S) → Reaches meaning (stream before middle f0 f1) old mid → GotPrefix (stream middle after f2 f3) (output_of meaning mid) → GotPrefix (stream before after f0 f3) (output_of meaning old)
  prefix_on before middle after f0 f1 f2 f3 old mid a h = record {
    front = a.gone ++ h.front;
    rest = h.rest;
    whole = output_on _ old mid a ∙ ap (λ l. a.gone ++ l) h.whole ∙ sym (append_assoc a.gone h.front h.rest);
    got = Appends-then before middle after a.gone h.front a.got h.got;
  }

  pub halts_on : (before middle after : Option (List ℕ)) (f0 f1 f2 : ℕ) (old mid : Config S) (e : Halt) → f0 ≤ f1 → Reaches meaning (stream before middle f0 f1) old mid → HaltsAfter meaning (stream middle after f1 f2) mid e → HaltsAfter meaning (stream before after f0 f2) old e
  halts_on before middle after f0 f1 f2 old mid halts.SinkFailed le a h = stops_on before middle after f0 f1 f2 old mid le a h
  halts_on before middle after f0 f1 f2 old mid halts.OutOfMemory le a h = prefix_on before middle after f0 f1 f1 f2 old mid a h

  -- a turn that stops stops the turns
  turn_halts : (s : Stream) (c : Config S) (e : Halt) → Halts meaning s c e → HaltsAfter meaning s c e
  turn_halts s c halts.SinkFailed h = h
  turn_halts s c halts.OutOfMemory h = record { front = []; rest = output_of meaning c; whole = refl; got = h }

  pub turn_halts_on : (before middle after : Option (List ℕ)) (f0 f1 f2 : ℕ) (old mid : Config S) (e : Halt) → f0 ≤ f1 → Reaches meaning (stream before middle f0 f1) old mid → Halts meaning (stream middle after f1 f2) mid e → HaltsAfter meaning (stream before after f0 f2) old e
  turn_halts_on before middle after f0 f1 f2 old mid e le a h = halts_on before middle after f0 f1 f2 old mid e le a (turn_halts (stream middle after f1 f2) mid e h)

  advance_reaches : (s : Stream) (old new : Config S) → Advances meaning s old new → Reaches meaning s old new
  advance_reaches s old new a = record { gone = a.gone; got = a.got; run = a.run; stays = a.stays; sound = a.sound }

  -- ---- how far

  ended_weight : (state : State) (n : ℕ) → ¬ (state ≡ states.Running) → weight_by state n ≡ 0
  ended_weight states.Running n h = absurd (h refl)
  ended_weight states.Done n h = refl
  ended_weight (states.Threw v) n h = refl
  ended_weight states.StepsSpent n h = refl

  weight_most : (state : State) (n : ℕ) → weight_by state n ≤ suc n
  weight_most states.Running n = omega arith
  weight_most states.Done n = omega arith
  weight_most (states.Threw v) n = omega arith
  weight_most states.StepsSpent n = omega arith

  running_weight : (c : Config S) → c.state ≡ states.Running → weight c ≡ suc c.left
  running_weight c e = ap (λ state. weight_by state c.left) e

  pub left_falls : (first old new : Config S) → first.state ≡ states.Running → old.left ≡ first.left → Falls meaning old new → Left first new
  left_falls first old new run same (inl less) = inl (fewer (weight new) new.left old.left first.left (weight first) (weight_most new.state new.left) less same (running_weight first run))
    where
      fewer : (w n m k v : ℕ) → w ≤ suc n → n < m → m ≡ k → v ≡ suc k → w < v
      fewer w n m k v h1 h2 h3 h4 = omega (arith, h1, h2, h3, h4)
  left_falls first old new run same (inr (inl less)) = inr (less.0 ∙ same)
  left_falls first old new run same (inr (inr ended)) = inl (none (weight new) (weight first) first.left (ended_weight new.state new.left ended) (running_weight first run))
    where
      none : (w v k : ℕ) → w ≡ 0 → v ≡ suc k → w < v
      none w v k h1 h2 = omega (arith, h1, h2)

  pub under_on : (before middle after : Option (List ℕ)) (f0 f1 f2 f3 : ℕ) (first old new : Config S) → first.state ≡ states.Running → old.left ≡ first.left → Under (stream before middle f0 f1) first old → Advances meaning (stream middle after f2 f3) old new → Under (stream before after f0 f3) first new
  under_on before middle after f0 f1 f2 f3 first old new run same u a = record {
    reaches = reach_on before middle after f0 f1 f2 f3 first old new u.reaches (advance_reaches (stream middle after f2 f3) old new a);
    left = left_falls first old new run same a.falls;
  }

  -- the measure falls
  measure_now : (first c : Config S) → c.state ≡ states.Running → c.left ≡ first.left → turns_to_step first c ≡ suc (turns_now meaning c)
  measure_now first c run same = ap (λ state. turns_if state (same_number c.left first.left) (turns_now meaning c)) run ∙ ap (λ b. turns_if states.Running b (turns_now meaning c)) (ap (λ n. same_number n first.left) same ∙ same_number_refl first.left)

  measure_most : (state : State) (b : Bool) (n : ℕ) → turns_if state b n ≤ suc n
  measure_most states.Running true n = omega arith
  measure_most states.Running false n = omega arith
  measure_most states.Done b n = omega arith
  measure_most (states.Threw v) b n = omega arith
  measure_most states.StepsSpent b n = omega arith

  measure_other : (state : State) (n : ℕ) → turns_if state false n ≡ 0
  measure_other states.Running n = refl
  measure_other states.Done n = refl
  measure_other (states.Threw v) n = refl
  measure_other states.StepsSpent n = refl

  measure_ended : (state : State) (b : Bool) (n : ℕ) → ¬ (state ≡ states.Running) → turns_if state b n ≡ 0
  measure_ended states.Running b n h = absurd (h refl)
  measure_ended states.Done b n h = refl
  measure_ended (states.Threw v) b n h = refl
  measure_ended states.StepsSpent b n h = refl

  pub measure_falls : (first old new : Config S) → old.state ≡ states.Running → old.left ≡ first.left → Falls meaning old new → turns_to_step first new < turns_to_step first old
  measure_falls first old new run same f = by f
    where
      past : (m n k : ℕ) → m ≡ suc n → k ≡ 0 → k < m
      past m n k e h = omega (arith, e, h)

      fewer : (m n k l : ℕ) → m ≡ suc n → k ≤ suc l → l < n → k < m
      fewer m n k l e h less = omega (arith, e, h, less)

      by : Falls meaning old new → turns_to_step first new < turns_to_step first old
      by (inl less) = past _ _ _ (measure_now first old run same) (ap (λ b. turns_if new.state b (turns_now meaning new)) (same_number_less new.left first.left (subst (λ n. new.left < n) same less)) ∙ measure_other new.state (turns_now meaning new))
      by (inr (inl less)) = fewer _ _ _ _ (measure_now first old run same) (measure_most new.state (same_number new.left first.left) (turns_now meaning new)) less.1
      by (inr (inr ended)) = past _ _ _ (measure_now first old run same) (measure_ended new.state (same_number new.left first.left) (turns_now meaning new) ended)

  -- the turns are over: a step was taken, or the run has ended
  pub less_over : (first c : Config S) → first.state ≡ states.Running → Left first c → (¬ (c.state ≡ states.Running)) ⊎ (¬ (c.left ≡ first.left)) → weight c < weight first
  less_over first c run left (inl ended) = ended_less (weight c) (weight first) first.left (ended_weight c.state c.left ended) (running_weight first run)
    where
      ended_less : (w v k : ℕ) → w ≡ 0 → v ≡ suc k → w < v
      ended_less w v k h1 h2 = omega (arith, h1, h2)
  less_over first c run (inl less) (inr other) = less
  less_over first c run (inr same) (inr other) = absurd (other same)

  pub over : (s : Stream) (first c : Config S) → first.state ≡ states.Running → Under s first c → (¬ (c.state ≡ states.Running)) ⊎ (¬ (c.left ≡ first.left)) → ReachesStep meaning s first c
  over s first c run u done = record { reaches = u.reaches; less = less_over first c run u.left done }
