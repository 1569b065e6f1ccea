-- A walk whose steps are held back, and given back at its end.
use Rattle.std.proofs.Common.{◌≡◌, ℕ, ◌+◌, ◌-◌, ◌<◌, ◌≤◌, Bool, true, false, refl, sym, ap, ◌∙◌, subst, arith}
use Rattle.std.specs.Prelude.{min, nat_lt}
use Rattle.std.proofs.lemmas.Bool.{ltb-true, ltb-false}
use Rattle.wjs_store.specs.Meaning.{Meaning}
use Rattle.wjs_model.specs.declared.config.Config.{Config}
use Rattle.wjs_model.specs.declared.config.State.{State}
use Rattle.wjs_model.specs.declared.config.State.TheVariants as states
use Rattle.wjs_model.specs.Configurations.{Stays, RestIs}
use Rattle.wjs_model.specs.Soundness.{HasThrown, Sound}
use Rattle.wjs_frames.proofs.Sounding.{base_framed}
use Rattle.wjs_turns.specs.Going.{Goes, Way, goes, stops, again}
use Rattle.wjs_parts.specs.Walking.{IsDue, ended, paused, spent, Walks}

-- a run that hasn't ended for want of steps stays as it is
again_same : (s : State) → ¬ (s ≡ states.StepsSpent) → again s ≡ s
again_same states.Running h = refl
again_same states.Done h = refl
again_same (states.Threw v) h = refl
again_same states.StepsSpent h = absurd (h refl)

module _ {S : Type 0} (meaning : S → Meaning) where
  thrown_left : (c : Config S) (left : ℕ) (s : State) → HasThrown c s → HasThrown (record c { left = left }) s
  thrown_left c left (states.Threw v) h = h
  thrown_left c left states.Running h = tt
  thrown_left c left states.Done h = tt
  thrown_left c left states.StepsSpent h = tt

  -- soundness doesn't look at the steps that are left
  pub sound_left : (c : Config S) (left : ℕ) → Sound meaning c → Sound meaning (record c { left = left })
  sound_left c left s = record { base = base_framed meaning c c.frames left c.state s.base s.base.frames; thrown = thrown_left c left c.state s.thrown; running = s.running }

  -- nor does what is kept look at them, nor at the state
  stays_left : (old last : Config S) (m l : ℕ) (s : State) → Stays meaning (record old { left = m }) last → Stays meaning old (record last { left = l; state = s })
  stays_left old last m l s h = record { units = h.units; global = h.global; world = h.world; owner = h.owner; apart = h.apart; texts = h.texts; objects = h.objects; made = h.made; own = h.own; around = h.around; narrows = h.narrows }

  module _ (old : Config S) (m steps taken : ℕ) (most : m ≤ steps) where
    -- a run that ended by itself
    ended_walk : (last : Config S) (l : ℕ) (s : State) → Goes meaning taken (record old { left = m }) last → ¬ (last.state ≡ states.Running) → ¬ (last.state ≡ states.StepsSpent) → s ≡ last.state → old.left ≡ taken + l → Walks meaning steps taken old (record last { left = l; state = s })
    ended_walk last l s g done alive e h =
        subst (λ (q : State). Walks meaning steps taken old (record last { left = l; state = q })) (sym e) (record {
          stays = stays_left old last m l last.state g.stays;
          sound = sound_left last l g.sound;
          left = h;
          most = within;
          knows = λ v a k. g.knows v a k;
          stops = ended done alive (λ v a k n. g.kept v a k n);
        })
      where
        within : taken ≤ steps
        within = let e : m ≡ taken + last.left = g.left in omega (arith, e, most)

    -- the run at the step that was due
    module _ (last : Config S) (l : ℕ) (g : Goes meaning taken (record old { left = m }) last) (run : last.state ≡ states.Running) (h : old.left ≡ taken + l) where
      back : record last { left = l; state = states.Running } ≡ record last { left = l }
      back = ap (λ (q : State). record last { left = l; state = q }) (sym run)

      same_rest : RestIs meaning old (record last { left = l; state = states.Running }) (λ n. taken + n)
      same_rest = subst (λ c. RestIs meaning old c (λ n. taken + n)) (sym back) (λ v a k n. g.kept v a k n)

      due_there : IsDue meaning last → IsDue meaning (record last { left = l; state = states.Running })
      due_there d = subst (IsDue meaning) (sym back) (λ v. d v)

      sound_there : Sound meaning (record last { left = l; state = states.Running })
      sound_there = subst (Sound meaning) (sym back) (sound_left last l g.sound)

      taken_within : taken ≤ steps
      taken_within = let e : m ≡ taken + last.left = g.left in omega (arith, e, most)

      paused_walk : IsDue meaning last → taken ≡ steps → 0 < l → Walks meaning steps taken old (record last { left = l; state = states.Running })
      paused_walk d all some = record {
        stays = stays_left old last m l states.Running g.stays;
        sound = sound_there;
        left = h;
        most = taken_within;
        knows = λ v a k. g.knows v a k;
        stops = paused refl all some (due_there d) same_rest;
      }

      spent_walk : IsDue meaning last → l ≡ 0 → Sound meaning (record last { state = states.StepsSpent }) → Walks meaning steps taken old (record last { left = l; state = states.StepsSpent })
      spent_walk d none sound = record {
        stays = stays_left old last m l states.StepsSpent g.stays;
        sound = sound_left (record last { state = states.StepsSpent }) l sound;
        left = h;
        most = taken_within;
        knows = λ v a k. g.knows v a k;
        stops = spent refl none (due_there d) same_rest;
      }

  -- ---- both

  module _ (old : Config S) (steps taken m : ℕ) (held : m ≡ min old.left steps) where
    most_held : m ≤ steps
    most_held = omega (arith, held)

    all_held : steps < old.left → m ≡ steps
    all_held lt = omega (arith, held, lt)

    none_held : old.left ≤ steps → m ≡ old.left
    none_held le = omega (arith, held, le)

    sum_of : (x : ℕ) → m ≡ taken + x → old.left ≡ taken + (old.left - taken)
    sum_of x e = omega (arith, held, e)

    by_way : (last : Config S) (s : State) → Way meaning taken (record old { left = m }) last → ¬ (last.state ≡ states.Running) → (b : Bool) → nat_lt steps old.left ≡ b → (steps < old.left → s ≡ again last.state) → (old.left ≤ steps → s ≡ last.state) → Walks meaning steps taken old (record last { left = old.left - taken; state = s })
    by_way last s (goes g alive) done true q some none = ended_walk old m steps taken most_held last (old.left - taken) s g done alive (some (ltb-true steps old.left q) ∙ again_same last.state alive) (sum_of last.left g.left)
    by_way last s (goes g alive) done false q some none = ended_walk old m steps taken most_held last (old.left - taken) s g done alive (none (ltb-false steps old.left q)) (sum_of last.left g.left)
    by_way last s (stops x g run stop sound) done true q some none =
        let lt = ltb-true steps old.left q in
        let e : m ≡ taken + x.left = g.left in
        let none_left : x.left ≡ 0 = stop.left in
        let all : m ≡ steps = all_held lt in
        let took : taken ≡ steps = omega (arith, e, none_left, all) in
        let more : 0 < old.left - taken = omega (arith, took, lt) in
        let on : s ≡ states.Running = some lt ∙ ap (λ (c : Config S). again c.state) stop.same in
        subst (λ (c : Config S). Walks meaning steps taken old (record c { left = old.left - taken; state = s })) (sym stop.same)
        (subst (λ (r : State). Walks meaning steps taken old (record x { left = old.left - taken; state = r })) (sym on)
        (paused_walk old m steps taken most_held x (old.left - taken) g run (sum_of x.left g.left) stop.due took more))
    by_way last s (stops x g run stop sound) done false q some none =
        let le = ltb-false steps old.left q in
        let e : m ≡ taken + x.left = g.left in
        let none_left : x.left ≡ 0 = stop.left in
        let all : m ≡ old.left = none_held le in
        let spends : old.left - taken ≡ 0 = omega (arith, e, none_left, all) in
        let on : s ≡ states.StepsSpent = none le ∙ ap (λ (c : Config S). c.state) stop.same in
        subst (λ (c : Config S). Walks meaning steps taken old (record c { left = old.left - taken; state = s })) (sym stop.same)
        (subst (λ (r : State). Walks meaning steps taken old (record x { left = old.left - taken; state = r })) (sym on)
        (spent_walk old m steps taken most_held x (old.left - taken) g run (sum_of x.left g.left) stop.due spends (subst (Sound meaning) stop.same sound)))

    pub walks : (last : Config S) (s : State) → Way meaning taken (record old { left = m }) last → ¬ (last.state ≡ states.Running) → (steps < old.left → s ≡ again last.state) → (old.left ≤ steps → s ≡ last.state) → Walks meaning steps taken old (record last { left = old.left - taken; state = s })
    walks last s way done some none = by_way last s way done (nat_lt steps old.left) refl some none
