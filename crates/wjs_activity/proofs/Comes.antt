-- What one turn of the activity at a place makes of a play.
use Rattle.std.proofs.Common.{◌≡◌, ℕ, zero, suc, ◌+◌, ◌*◌, ◌-◌, ◌≤◌, ◌<◌, ◌⊎◌, inl, inr, Bool, true, false, List, [], ◌∷◌, ◌++◌, length, set, Option, None}
use Rattle.std.proofs.Common.{Some, refl, sym, ap, ◌∙◌, subst, arith, length-set, IsTrue}
use Rattle.std.proofs.lemmas.Bool.{false≢true}
use Rattle.std.proofs.lemmas.List.{length-map}
use Rattle.std.specs.Prelude.{IfSome, max, slice_get, map as each}
use Rattle.std.specs.List.{sum, sum_by}
use Rattle.std.proofs.lemmas.List.Sums.{sum-map, sum_by-set}
use Rattle.std.proofs.lemmas.Option.{slice_get_within, get_or_from_slice_get, same_Some}
use Rattle.wjs_arena.specs.Entries.{Objects, IsArena, others_of, joined}
use Rattle.wjs_by_content.specs.Objects.{Arena}
use Rattle.wjs_meaning.specs.Trees.{Tree}
use Rattle.wjs_model.specs.declared.config.Config.{Config}
use Rattle.wjs_model.specs.Apart.{is_apart}
use Rattle.wjs_model.specs.Soundness.{Sound}
use Rattle.wjs_model.specs.Units.{unit_in}
use Rattle.wjs_store.specs.Meaning.{Meaning}
use Rattle.wjs_session.specs.declared.session.Session.{Session}
use Rattle.wjs_session.specs.Session.{first_copy}
use Rattle.wjs_session.specs.Stores.{worlds_in}
use Rattle.wjs_session.specs.Resumed.{Rests}
use Rattle.wjs_alone.specs.Alone.{Copy}
use Rattle.wjs_alone.specs.Opening.{trees_of, tree_number}
use Rattle.wjs_alone.specs.Serial.{End}
use Rattle.wjs_alone.specs.Playing as defined
use Rattle.wjs_alone.specs.Playing.{try_of}
use Rattle.wjs_tries.specs.declared.common.Common.{Common}
use Rattle.wjs_tries.specs.declared.common.Rested.{Rested}
use Rattle.wjs_activity.specs.declared.ends.Ended.{Ended}
use Rattle.wjs_activity.specs.declared.activities.Activity.{Activity}
use Rattle.wjs_activity.specs.declared.activities.Play.{Play}
use Rattle.wjs_activity.specs.declared.activities.Rules.{Rules}
use Rattle.wjs_tries.specs.declared.turns.Came.{Came}
use Rattle.wjs_tries.specs.declared.turns.Came.TheVariants as came
use Rattle.wjs_tries.specs.Hiding.{no_owner, IsHidden, MayList}
use Rattle.wjs_activity.specs.Listing.{entry_of, KeepsApart}
use Rattle.wjs_tries.specs.Meant.{itself, session_meaning, Listed, resting}
use Rattle.wjs_activity.specs.Noting.{Notes, NotesAt, Takes}
use Rattle.wjs_tries.specs.Views.{KnowsView}
use Rattle.wjs_tries.specs.Exact.{IsExact}
use Rattle.wjs_activity.specs.Exactly.{IsActivity, IsExactly, TurnIs}
use Rattle.wjs_tries.specs.Resting.{Owns, IsResting}
use Rattle.wjs_activity.specs.SoFar.{GoesOn, StandsBy, IsPlay, times_owned}
use Rattle.wjs_tries.specs.Turning.{IsLive, IsTurned, HiddenIn, TurnsApart, IsRest, HasLess, Begun, GoesOnAs}
use Rattle.wjs_activity.specs.Rounds.{first_number, steps_left, fuel_by, fuel_of, fuel, left_of, turns_left, Sooner, MadeExactly, After, MayTurn, IsGoing}
use Rattle.wjs_activity.specs.Rounds.{TurnMade}
use Rattle.wjs_activity.proofs.Apart.{Emptied, Ran, rests_at, sound_resumed, may_list, apart_after}
use Rattle.wjs_tries.proofs.Hidings.{hidden_same}
use Rattle.wjs_activity.proofs.Places.{set_other, set_there, set_twice}
use Rattle.wjs_tries.proofs.Runs.{view_grows}
use Rattle.wjs_activity.proofs.Founds.{stands_at}
use Rattle.wjs_activity.proofs.Steps.{stays_made, rests_step, drops_step, ends_made}
use Rattle.wjs_activity.proofs.Taking.{Taken, passes_all, came_to, taken_begun, taken_resumed}
use Rattle.wjs_activity.proofs.TurnsExactly.{SameTry, try_new, try_on, more_of, turn_is}

-- ---- fuel

sum_less : (s t f g : ℕ) → s + f ≡ t + g → g < f → s < t
sum_less s t f g e h = omega (arith, e, h)

fuel_set : (budget : ℕ) (xs : List Activity) (i : ℕ) (x y : Activity) → slice_get xs i ≡ Some x → fuel_of budget y < fuel_of budget x
    → sum (each (fuel_of budget) (set xs i y)) < sum (each (fuel_of budget) xs)
fuel_set budget xs i x y at less =
    let f = fuel_of budget in
    let change = sum_by-set f xs i y x (slice_get_within xs i x at) ∙ refl in
    let was = ap f (get_or_from_slice_get xs i x x at) in
    let whole : sum_by f (set xs i y) + f x ≡ sum_by f xs + f y = ap (λ k. sum_by f (set xs i y) + k) (sym was) ∙ change in
    subst (λ k. k < sum (each f xs)) (sym (sum-map f (set xs i y)))
    (subst (λ k. sum_by f (set xs i y) < k) (sym (sum-map f xs)) (sum_less (sum_by f (set xs i y)) (sum_by f xs) (f x) (f y) whole less))

rests_less : (x r l s : ℕ) → r < l → l ≤ s → x + r + 1 < x + s + 1
rests_less x r l s h k = omega (arith, h, k)

drops_less : (d b s : ℕ) → d < 3 → (3 - (d + 1)) * (b + 2) + (b + 1) + 1 < (3 - d) * (b + 2) + s + 1
drops_less zero b s h = omega arith
drops_less (suc zero) b s h = omega arith
drops_less (suc (suc zero)) b s h = omega arith
drops_less (suc (suc (suc d))) b s h = absurd (omega (arith, h))

less_then : (x r l m : ℕ) → r < l → l ≡ m → x + r < x + m
less_then x r l m h e = omega (arith, h, e)

-- a try fewer
fewer_left : (d b l : ℕ) → d + 1 < 3 → 0 < l → (2 - (d + 1)) * b + b < (2 - d) * b + l
fewer_left zero b l h some = omega (arith, some)
fewer_left (suc zero) b l h some = omega (arith, some)
fewer_left (suc (suc d)) b l h some = absurd (omega (arith, h))

three_or_less : (d : ℕ) → d < 3 → (d + 1 < 3) ⊎ (d + 1 ≡ 3)
three_or_less zero h = inl (omega arith)
three_or_less (suc zero) h = inl (omega arith)
three_or_less (suc (suc zero)) h = inr refl
three_or_less (suc (suc (suc d))) h = absurd (omega (arith, h))

-- ---- numbers

number_is : (library : Option Tree) (first place : ℕ) → first ≡ first_number library → first + place ≡ tree_number library (place + 1)
number_is None first place h = omega (arith, h)
number_is (Some tree) first place h = omega (arith, h)

-- ---- one turn

module _ (rules : Rules) (p : Play) (place : ℕ) (a : Activity) (at : slice_get p.activities.items place ≡ Some a) (alive : a.ended ≡ false)
    (c : Config Session) (begun : a.running ≡ None → Begun session_meaning (p.drawn + 1) (rules.first + place) rules.budget p.common c)
    (goes_on : (r : Rested) → a.running ≡ Some r → GoesOnAs session_meaning p.common r c)
    (sound : Sound session_meaning c) (few_drawn : a.running ≡ None → p.drawn + 1 < no_owner)
    (list : (r : Rested) → a.running ≡ Some r → c.apart.items ≡ set p.common.apart.items place no_owner)
    (next : Common) (now : Activity) (ends' : List Ended) (output : List ℕ)
    (after : Play) (common_is : after.common ≡ next) (drawn_is : after.drawn ≡ max p.drawn c.owner) (ends_is : after.ends ≡ ends')
    (items_is : after.activities.items ≡ set p.activities.items place now) where
  abbrev emptied : Activity
  emptied = record a { running = None }

  long : length after.activities.items ≡ length p.activities.items
  long = ap length items_is ∙ length-set p.activities.items place now

  others : (i : ℕ) → ¬ (i ≡ place) → slice_get after.activities.items i ≡ slice_get p.activities.items i
  others i away = ap (λ l. slice_get l i) items_is ∙ set_other p.activities.items place i now away

  at_now : slice_get after.activities.items place ≡ Some now
  at_now = ap (λ l. slice_get l place) items_is ∙ set_there p.activities.items place a now at

  -- ---- by a play's invariant

  module _ (library : Option Tree) (parts : List Tree) (copy : Copy) (arena : Arena) (ends : List End) (first : rules.first ≡ first_number library)
      (is : IsPlay library parts rules.budget copy arena p ends) where
    abbrev trees : List Tree
    trees = trees_of library parts

    abbrev tree : ℕ
    tree = tree_number library (place + 1)

    -- by whom the turn is, and how many owners are drawn then
    record Took (q drawn : ℕ) : Type 0 where
      pub more : p.drawn ≤ drawn
      pub drawn_now : after.drawn ≡ drawn
      pub taken : Taken trees tree rules.budget q drawn p.common c
      pub own : (r : Rested) → a.running ≡ Some r → r.owner ≡ q
      pub new : a.running ≡ None → p.drawn < q
      pub few : drawn < no_owner
      -- the list has no entry for the turn's try, and of the others' nothing is named
      pub emptied : Emptied place p.common.apart.items c.apart.items
      pub hides : (u : ℕ) → IsTrue (is_apart c.apart.items u) → IsHidden p.common u → HiddenIn c u

    was_on : GoesOn library parts rules.budget copy arena p ends (place + 1) a
    was_on = subst (λ b. StandsBy library parts rules.budget copy arena b p ends (place + 1) a) alive (is.activities place a at)

    inside : place < length parts
    inside = let lt = slice_get_within p.activities.items place a at in let count = is.count in omega (arith, lt, count)

    took_new : a.running ≡ None → Took (p.drawn + 1) (p.drawn + 1)
    took_new none =
        let b = begun none in
        let owner : c.owner ≡ p.drawn + 1 = b.owner_is in
        record {
          more = omega arith;
          drawn_now = drawn_is ∙ (let top : max p.drawn c.owner ≡ p.drawn + 1 = omega (arith, owner) in top);
          taken = taken_begun trees tree rules.budget (p.drawn + 1) (rules.first + place) p.drawn p.common c b
              (number_is library rules.first place first) is.common is.trees_are;
          own = λ r e. let h : None ≡ Some r = sym none ∙ e in absurd (cc);
          new = λ e. omega arith;
          few = few_drawn none;
          emptied = record {
            here = ap (λ v. slice_get v.items place) b.apart ∙ is.apart.lists place a at ∙ ap (λ o. Some (entry_of o)) none;
            other = λ i away. ap (λ v. slice_get v.items i) b.apart;
            long = ap (λ v. length v.items) b.apart;
          };
          hides = λ u h. b.hides u (subst (λ v. IsTrue (is_apart v.items u)) b.apart h);
        }

    took_on : (r : Rested) → a.running ≡ Some r → IsResting trees tree rules.budget p.drawn p.common r → Took r.owner p.drawn
    took_on r running resting =
        let t = taken_resumed trees tree rules.budget p.drawn p.common r c (goes_on r running) resting is.common sound in
        let l = list r running in
        let owner : c.owner ≡ r.owner = t.owner in
        let within : r.owner ≤ p.drawn = resting.owner in
        record {
          more = omega arith;
          drawn_now = drawn_is ∙ (let top : max p.drawn c.owner ≡ p.drawn = omega (arith, owner, within) in top);
          taken = t;
          own = λ s e. ap (λ (x : Rested). x.owner) (same_Some s r (sym e ∙ running));
          new = λ e. let h : None ≡ Some r = sym e ∙ running in absurd (cc);
          few = is.apart.few;
          emptied = record {
            here = ap (λ xs. slice_get xs place) l ∙ set_there p.common.apart.items place (entry_of a.running) no_owner (is.apart.lists place a at);
            other = λ i away. ap (λ xs. slice_get xs i) l ∙ set_other p.common.apart.items place i no_owner away;
            long = ap length l ∙ length-set p.common.apart.items place no_owner;
          };
          hides = λ u h k. hidden_same p.common.arena (others_of c.heap.arena c.owner) (first_copy (worlds_in p.common.shared))
              (first_copy (worlds_in c.heap.store.shared)) u t.others t.holds k;
        }

    -- tries that rest are kept apart behind it
    kept_after : (q drawn : ℕ) (t : Took q drawn) (k : Came) → IsTurned session_meaning trees tree rules.budget drawn c next k → TurnsApart place c next k
        → Ran k now.running → ((r : Rested) → now.running ≡ Some r → r.owner ≡ q) → KeepsApart after
    kept_after q drawn t k turned apart ran mine =
        apart_after library parts rules.budget copy arena p ends is place a at alive q next drawn t.more
        (passes_all library parts rules.budget copy arena p ends is
        (place + 1) q drawn c next k t.taken turned) turned.is_common turned.works t.own t.new after common_is t.drawn_now long others now at_now
        c t.taken.owner t.taken.holds t.emptied t.hides t.few k apart ran mine

    none_runs : (q : ℕ) → now.running ≡ None → (r : Rested) → now.running ≡ Some r → r.owner ≡ q
    none_runs q none r running = let h : None ≡ Some r = sym none ∙ running in absurd (cc)

    -- it is the definition's
    exactly : (steps q drawn : ℕ) (t : Took q drawn) (k : Came) → IsTurned session_meaning trees tree rules.budget drawn c next k
        → (KnowsView c.heap.texts (session_meaning c.heap.store).own → IsExact session_meaning trees tree rules.budget t.taken.live.taken steps c next k)
        → Notes (place + 1) c.owner k emptied p.ends now ends' output
        → (s : defined.Play) → IsExactly rules.budget p ends s
        → TurnIs library parts rules.budget steps place s after (ends ++ more_of library parts rules.budget p place a q next k) output
    exactly steps q drawn t k turned exact notes s ex =
        let f = stands_at rules.budget p ends s ex place a at alive in
        let r : IsActivity rules.budget p.common (place + 1) a f.is = (f.by).0 in
        let try = same_try f.is r in
        turn_is library parts rules.budget copy arena p ends is place a at alive q drawn t.more c next k t.taken turned t.own t.new after common_is
        t.drawn_now (drawn_is ∙ ap (max p.drawn) t.taken.owner) now items_is
        steps (exact (view_grows p.common.texts c.heap.texts
        (session_meaning c.heap.store).own t.taken.start.texts try.known)) s ex f.is f.there r try ends' output notes
      where
        same_try : (b : defined.Activity) → IsActivity rules.budget p.common (place + 1) a b → SameTry p.common t.taken.live.taken c s (try_of b s)
        same_try b r = by a.running refl
          where
            by : (o : Option Rested) → a.running ≡ o → SameTry p.common t.taken.live.taken c s (try_of b s)
            by None e = try_new library parts rules.budget copy arena p ends is s ex (place + 1) a b r c t.taken.live.taken t.taken.live.trying.budget_is
                (rules.first + place) e (begun e)
            by (Some rest) e = try_on library parts rules.budget copy arena p ends is s ex
                (place + 1) a b r c t.taken.live.taken t.taken.live.trying.budget_is rest e (goes_on rest e)

    -- what it came to
    finish : (steps q drawn : ℕ) (t : Took q drawn) (k : Came) → IsTurned session_meaning trees tree rules.budget drawn c next k
        → (KnowsView c.heap.texts (session_meaning c.heap.store).own → IsExact session_meaning trees tree rules.budget t.taken.live.taken steps c next k)
        → TurnsApart place c next k → Notes (place + 1) c.owner k emptied p.ends now ends' output → (k ≡ came.Drops → a.dropped < 3)
        → MadeExactly library parts rules.budget copy arena place steps p ends after output
    finish steps q drawn t (came.Rests rest) turned exact apart notes few =
        let to = came_to library parts rules.budget copy arena p ends is (place + 1) q drawn c next (came.Rests rest) t.taken turned in
        let runs : now.running ≡ Some rest = ap (λ (x : Activity). x.running) notes.0 in
        record {
          made = stays_made library parts rules.budget copy arena ends after output notes.2
              (rests_step library parts rules.budget copy arena p ends is place a at alive q drawn t.more c next
              (came.Rests rest) t.taken turned t.own t.new after common_is t.drawn_now long others now at_now
              (kept_after q drawn t (came.Rests rest) turned apart runs
              (λ r running. ap (λ (x : Rested). x.owner) (same_Some r rest (sym running ∙ runs)) ∙ to.0))
              rest notes.0 (ends_is ∙ notes.1) to.0 to.1 to.2);
          exact = exactly steps q drawn t (came.Rests rest) turned exact notes;
        }
    finish steps q drawn t came.Drops turned exact apart notes few =
        let to = came_to library parts rules.budget copy arena p ends is (place + 1) q drawn c next came.Drops t.taken turned in
        let none : now.running ≡ None = ap (λ (x : Activity). x.running) notes.0 in
        record {
          made = stays_made library parts rules.budget copy arena ends after output notes.2
              (drops_step library parts rules.budget copy arena p ends is place a at alive q drawn t.more c next came.Drops t.taken turned t.own t.new after
              common_is t.drawn_now long others now at_now
              (kept_after q drawn t came.Drops turned apart none (none_runs q none)) notes.0 (ends_is ∙ notes.1) (few refl) to);
          exact = exactly steps q drawn t came.Drops turned exact notes;
        }
    finish steps q drawn t (came.Ends outcome out) turned exact apart notes few =
        let to = came_to library parts rules.budget copy arena p ends is (place + 1) q drawn c next (came.Ends outcome out) t.taken turned in
        let owner = t.taken.owner in
        let none : now.running ≡ None = ap (λ (x : Activity). x.running) notes.0 in
        let told = ap (λ k. p.ends ++ record { activity = place + 1; owner = k; outcome = outcome; tries = a.dropped + 1 } ∷ []) owner in
        record {
          made = ends_made library parts rules.budget copy arena p ends is place a at alive q drawn t.more c next
              (came.Ends outcome out) t.taken turned t.own t.new after common_is t.drawn_now long others now at_now
              outcome out.items to (subst (λ k. 1 ≤ k) owner t.taken.live.some) (subst (λ k. k ≤ drawn) owner t.taken.live.owner) inside was_on.few
              (kept_after q drawn t (came.Ends outcome out) turned apart none (none_runs q none)) notes.0 (ends_is ∙ notes.1 ∙ told) output notes.2;
          exact = exactly steps q drawn t (came.Ends outcome out) turned exact notes;
        }

    made_by : (steps : ℕ) (k : Came) → ((ts : List Tree) (n b d : ℕ) → IsLive session_meaning ts n b d c → IsTurned session_meaning ts n b d c next k)
        → ((ts : List Tree) (n b d : ℕ) → (l : IsLive session_meaning ts n b d c) → KnowsView c.heap.texts (session_meaning c.heap.store).own
        → IsExact session_meaning ts n b l.taken steps c next k)
        → ((ts : List Tree) (n b d : ℕ) → IsLive session_meaning ts n b d c → TurnsApart place c next k)
        → Notes (place + 1) c.owner k emptied p.ends now ends' output → (k ≡ came.Drops → a.dropped < 3)
        → MadeExactly library parts rules.budget copy arena place steps p ends after output
    made_by steps k turned exact apart notes few = by a.running refl was_on.rests
      where
        by : (o : Option Rested) → a.running ≡ o → IfSome o (λ r. IsResting trees tree rules.budget p.drawn p.common r × (times_owned r.owner ends ≡ 0))
            → MadeExactly library parts rules.budget copy arena place steps p ends after output
        by None e h = let t = took_new e in finish steps (p.drawn + 1) (p.drawn + 1) t k (turned trees tree rules.budget (p.drawn + 1) t.taken.live)
            (exact trees tree rules.budget (p.drawn + 1) t.taken.live) (apart trees tree rules.budget (p.drawn + 1) t.taken.live) notes few
        by (Some r) e h = let t = took_on r e h.0 in finish steps r.owner p.drawn t k (turned trees tree rules.budget p.drawn t.taken.live)
            (exact trees tree rules.budget p.drawn t.taken.live) (apart trees tree rules.budget p.drawn t.taken.live) notes few

  -- ---- steps and tries

  -- there were no more steps left than before
  left_most : c.left ≤ steps_left rules.budget a.running
  left_most = by a.running refl
    where
      by : (o : Option Rested) → a.running ≡ o → c.left ≤ steps_left rules.budget o
      by None e = let left : c.left ≡ rules.budget = (begun e).left in omega (arith, left)
      by (Some r) e = let left : c.left ≡ r.left = ap (λ (d : Config Meaning). d.left) (goes_on r e).same in omega (arith, left)

  left_is : c.left ≡ left_of rules.budget a.running
  left_is = by a.running refl
    where
      by : (o : Option Rested) → a.running ≡ o → c.left ≡ left_of rules.budget o
      by None e = (begun e).left
      by (Some r) e = ap (λ (d : Config Meaning). d.left) (goes_on r e).same

  sooner_by : (k : Came) → Notes (place + 1) c.owner k emptied p.ends now ends' output → HasLess c.left k → 0 < left_of rules.budget a.running
      → Sooner rules.budget a now
  sooner_by (came.Rests rest) notes less some = λ on few. (
    alive,
    subst (λ (x : Activity). turns_left rules.budget x < turns_left rules.budget a) (sym notes.0)
        (less_then ((2 - a.dropped) * rules.budget) rest.left c.left (left_of rules.budget a.running) less left_is),
  )
  sooner_by came.Drops notes less some = λ on few. (
    alive,
    subst (λ (x : Activity). turns_left rules.budget x < turns_left rules.budget a) (sym notes.0)
        (fewer_left a.dropped rules.budget (left_of rules.budget a.running) (subst (λ (x : Activity). x.dropped < 3) notes.0 few) some),
  )
  sooner_by (came.Ends outcome out) notes less some = λ on few. absurd (false≢true (sym on ∙ ap (λ (x : Activity). x.ended) notes.0))

  fuel_was : fuel_of rules.budget a ≡ (3 - a.dropped) * (rules.budget + 2) + steps_left rules.budget a.running + 1
  fuel_was = ap (fuel_by rules.budget a.dropped a.running) alive

  fuel_now : (k : Came) → Notes (place + 1) c.owner k emptied p.ends now ends' output → HasLess c.left k → (k ≡ came.Drops → a.dropped < 3)
      → fuel_of rules.budget now < fuel_of rules.budget a
  fuel_now (came.Rests rest) notes less few =
      let spent = ap (fuel_of rules.budget) notes.0 ∙ ap (fuel_by rules.budget a.dropped (Some rest)) alive in
      subst (λ n. n < fuel_of rules.budget a) (sym spent) (subst (λ n. (3 - a.dropped) * (rules.budget + 2) + rest.left + 1 < n) (sym fuel_was)
      (rests_less ((3 - a.dropped) * (rules.budget + 2)) rest.left c.left (steps_left rules.budget a.running) less left_most))
  fuel_now came.Drops notes less few =
      let spent = ap (fuel_of rules.budget) notes.0 ∙ ap (fuel_by rules.budget (a.dropped + 1) None) alive in
      subst (λ n. n < fuel_of rules.budget a) (sym spent) (subst (λ n. (3 - (a.dropped + 1)) * (rules.budget + 2) + (rules.budget + 1) + 1 < n) (sym fuel_was)
      (drops_less a.dropped rules.budget (steps_left rules.budget a.running) (few refl)))
  fuel_now (came.Ends outcome out) notes less few =
      let spent = ap (fuel_of rules.budget) notes.0 in
      subst (λ n. n < fuel_of rules.budget a) (sym spent) (subst (λ n. 0 < n) (sym fuel_was) (omega arith))

  after_by : (k : Came) → Notes (place + 1) c.owner k emptied p.ends now ends' output → (¬ (a.dropped < 3) → ¬ (IsRest k)) → (k ≡ came.Drops → a.dropped < 3)
      → (a.dropped < 3) ⊎ (¬ (a.dropped < 3)) → After a now
  after_by (came.Rests rest) notes whole few (inl lt) = inr (
    ap (λ (x : Activity). x.ended) notes.0
        ∙ alive,
    lt,
    inl (subst (λ (x : Activity). x.dropped < 3) (sym notes.0) lt),
  )
  after_by (came.Rests rest) notes whole few (inr ge) = absurd (whole ge tt)
  after_by came.Drops notes whole few which = by (three_or_less a.dropped (few refl))
    where
      by : (a.dropped + 1 < 3) ⊎ (a.dropped + 1 ≡ 3) → After a now
      by (inl lt) = inr (ap (λ (x : Activity). x.ended) notes.0 ∙ alive, few refl, inl (subst (λ (x : Activity). x.dropped < 3) (sym notes.0) lt))
      by (inr three) = inr (
        ap (λ (x : Activity). x.ended) notes.0
            ∙ alive,
        few refl,
        inr (ap (λ (x : Activity). x.dropped) notes.0 ∙ three, ap (λ (x : Activity). x.running) notes.0),
      )
  after_by (came.Ends outcome out) notes whole few which = inl (ap (λ (x : Activity). x.ended) notes.0)

  below_three : (a.dropped < 3) ⊎ (¬ (a.dropped < 3))
  below_three = by a.dropped refl
    where
      by : (n : ℕ) → a.dropped ≡ n → (a.dropped < 3) ⊎ (¬ (a.dropped < 3))
      by zero e = inl (omega (arith, e))
      by (suc zero) e = inl (omega (arith, e))
      by (suc (suc zero)) e = inl (omega (arith, e))
      by (suc (suc (suc n))) e = inr (λ h. absurd (omega (arith, e, h)))

  module _ (steps : ℕ) (may : (a.dropped < 3) ⊎ ((a.running ≡ None) × (rules.budget ≤ steps))) (some : 1 ≤ steps) (k : Came)
      (turned : (ts : List Tree) (n b d : ℕ) → IsLive session_meaning ts n b d c → IsTurned session_meaning ts n b d c next k)
      (exact : (ts : List Tree) (n b d : ℕ) → (l : IsLive session_meaning ts n b d c) → KnowsView c.heap.texts (session_meaning c.heap.store).own
      → IsExact session_meaning ts n b l.taken steps c next k) (whole : c.left ≤ steps → ¬ (IsRest k)) (less : 1 ≤ steps → HasLess c.left k)
      (certain : (session_meaning c.heap.store).own ≡ first_copy (worlds_in c.heap.store.shared) → ¬ (k ≡ came.Drops))
      (apart : (ts : List Tree) (n b d : ℕ) → IsLive session_meaning ts n b d c → TurnsApart place c next k)
      (notes : Notes (place + 1) c.owner k emptied p.ends now ends' output) where
    -- the fourth try isn't dropped
    few_dropped : k ≡ came.Drops → a.dropped < 3
    few_dropped e = by may
      where
        by : (a.dropped < 3) ⊎ ((a.running ≡ None) × (rules.budget ≤ steps)) → a.dropped < 3
        by (inl lt) = lt
        by (inr h) = absurd (certain (begun h.0).own e)

    -- and doesn't rest
    no_rest : ¬ (a.dropped < 3) → ¬ (IsRest k)
    no_rest ge = by may
      where
        by : (a.dropped < 3) ⊎ ((a.running ≡ None) × (rules.budget ≤ steps)) → ¬ (IsRest k)
        by (inl lt) = absurd (ge lt)
        by (inr h) = whole (let left : c.left ≡ rules.budget = (begun h.0).left in let enough : rules.budget ≤ steps = h.1 in omega (arith, left, enough))

    pub turn_made : 0 < left_of rules.budget a.running → TurnMade rules place steps p after output
    turn_made left = record {
      made = λ library parts copy arena ends first is. made_by library parts copy arena ends first is steps k turned exact apart notes few_dropped;
      changes = record {
        now = now;
        is = items_is;
        less = subst (λ l. sum (each (fuel_of rules.budget) l) < fuel rules.budget p) (sym items_is)
            (fuel_set rules.budget p.activities.items place a now at (fuel_now k notes (less some) few_dropped));
        after = λ x found. subst (λ y. After y now) (same_Some a x (sym at ∙ found)) (after_by k notes no_rest few_dropped below_three);
        sooner = λ x found. subst (λ y. Sooner rules.budget y now) (same_Some a x (sym at ∙ found)) (sooner_by k notes (less some) left);
      };
    }

-- what was taken out and noted of the activity at the place
pub turned_lem : (rules : Rules) (p : Play) (place steps : ℕ) → ((x : Activity) → slice_get p.activities.items place ≡ Some x → MayTurn rules.budget steps x)
    → ((x : Activity) → slice_get p.activities.items place ≡ Some x → x.ended ≡ false → 0 < left_of rules.budget x.running) → 1 ≤ steps
    → (mid : List Activity) (running : Option Rested) → Takes place p.activities.items mid running
    → (c : Config Session) → (running ≡ None → Begun session_meaning (p.drawn + 1) (rules.first + place) rules.budget p.common c)
    → ((r : Rested) → running ≡ Some r → GoesOnAs session_meaning p.common r c)
    → Sound session_meaning c → (running ≡ None → p.drawn + 1 < no_owner)
    → ((r : Rested) → running ≡ Some r → c.apart.items ≡ set p.common.apart.items place no_owner)
    → (next : Common) (k : Came) → ((ts : List Tree) (n b d : ℕ) → IsLive session_meaning ts n b d c → IsTurned session_meaning ts n b d c next k)
    → ((ts : List Tree) (n b d : ℕ) → (l : IsLive session_meaning ts n b d c) → KnowsView c.heap.texts (session_meaning c.heap.store).own
    → IsExact session_meaning ts n b l.taken steps c next k) → (c.left ≤ steps → ¬ (IsRest k)) → (1 ≤ steps → HasLess c.left k)
    → ((session_meaning c.heap.store).own ≡ first_copy (worlds_in c.heap.store.shared) → ¬ (k ≡ came.Drops))
    → ((ts : List Tree) (n b d : ℕ) → IsLive session_meaning ts n b d c → TurnsApart place c next k)
    → (new : List Activity) (ends' : List Ended) (output : List ℕ) → NotesAt place c.owner k mid p.ends new ends' output
    → (after : Play) → after.common ≡ next → after.drawn ≡ max p.drawn c.owner → after.ends ≡ ends' → after.activities.items ≡ new
    → TurnMade rules place steps p after output
turned_lem rules p place steps there left some mid running t c begun goes_on sound few_drawn list next k turned exact whole less certain apart new ends'
    output n after common_is drawn_is ends_is items =
    let a = t.was in
    let may = there a t.there in
    let at_mid : slice_get mid place ≡ Some (record a { running = None }) = ap (λ (l : List Activity). slice_get l place) t.is
    ∙ set_there p.activities.items place a (record a { running = None }) t.there in
    let same : n.was ≡ record a { running = None } = same_Some n.was (record a { running = None }) (sym n.there ∙ at_mid) in
    let items_is : after.activities.items ≡ set p.activities.items place n.now =
    items ∙ n.is ∙ ap (λ (l : List Activity). set l place n.now) t.is ∙ set_twice p.activities.items place (record a { running = None }) n.now in
    turn_made rules p place a t.there may.0 c (λ e. begun (t.value ∙ e)) (λ r e. goes_on r (t.value ∙ e)) sound (λ e. few_drawn (t.value ∙ e))
    (λ r e. list r (t.value ∙ e)) next n.now ends' output after common_is drawn_is ends_is items_is steps may.1 some k turned exact whole less certain apart
    (subst (λ (x : Activity). Notes (place + 1) c.owner k x p.ends n.now ends' output) same n.notes) (left a t.there may.0)

-- ---- what is asked of the calls

module _ (rules : Rules) (p : Play) (place : ℕ) (inside : place < length p.activities.items) (g : IsGoing rules p) where
  pub few_places : place < 1000
  few_places = let count = g.is.count in let few = g.is.few in omega (arith, inside, count, few)

  units_long : length p.common.units.items ≡ length (trees_of g.library g.parts)
  units_long = sym (length-map p.common.units.items (unit_in p.common.texts)) ∙ ap (λ (l : List Tree). length l) g.is.trees_are

  trees_long : (library : Option Tree) (parts : List Tree) → length (trees_of library parts) ≡ first_number library + length parts
  trees_long None parts = omega arith
  trees_long (Some tree) parts = omega arith

  pub part_there : rules.first + place < length p.common.units.items
  part_there =
      let long = units_long ∙ trees_long g.library g.parts in
      let count = g.is.count in
      let first = g.first in
      omega (arith, inside, long, count, first)

  first_few : (library : Option Tree) → first_number library ≤ 1
  first_few None = omega arith
  first_few (Some tree) = omega arith

  pub few_units : length p.common.units.items ≤ 1001
  few_units =
      let long = units_long ∙ trees_long g.library g.parts in
      let few = g.is.few in
      let first = first_few g.library in
      omega (arith, long, few, first)

  -- what is asked of the try that rests: it rests over what is shared, and is sound where the others are kept apart from it
  abbrev pub Resumes : Option Rested → Type 0
  Resumes o = IfSome o (λ r. Rests (worlds_in p.common.shared) r.resting
      × ((us : Listed) → us.items ≡ set p.common.apart.items place no_owner → Sound itself (resting us p.common r)))

  pub rests_there : (mid : List Activity) (running : Option Rested) → Takes place p.activities.items mid running → Resumes running
  rests_there mid running t = by running refl
    where
      by : (o : Option Rested) → running ≡ o → Resumes o
      by None e = tt
      by (Some r) e =
          let runs : t.was.running ≡ Some r = sym t.value ∙ e in (
            (rests_at g.library g.parts rules.budget g.copy g.arena p g.ends g.is place t.was r t.there runs).stands,
            λ us items. sound_resumed g.library g.parts rules.budget g.copy g.arena p g.ends g.is place t.was r t.there runs us items,
          )

  -- and its objects are its own, with which those that are shared are an arena
  pub owns_there : (mid : List Activity) (running : Option Rested) → Takes place p.activities.items mid running
      → IfSome running (λ r. Owns p.common r × IsArena (joined p.common.arena r.objects))
  owns_there mid running t = by running refl
    where
      by : (o : Option Rested) → running ≡ o → IfSome o (λ r. Owns p.common r × IsArena (joined p.common.arena r.objects))
      by None e = tt
      by (Some r) e =
          let rests = rests_at g.library g.parts rules.budget g.copy g.arena p g.ends g.is place t.was r t.there (sym t.value ∙ e) in
          (rests.owns, rests.sound.base.heap.arena)

  -- the others' objects are those that are shared, by themselves an arena
  pub others_there : (running : Option Rested) (c : Config Session)
      → (running ≡ None → Begun session_meaning (p.drawn + 1) (rules.first + place) rules.budget p.common c)
      → ((r : Rested) → running ≡ Some r → GoesOnAs session_meaning p.common r c) → IsArena (others_of c.heap.arena c.owner)
  others_there running c begun goes_on = by running refl
    where
      from : others_of c.heap.arena c.owner ≡ p.common.arena → IsArena (others_of c.heap.arena c.owner)
      from same = subst (λ (m : Objects). IsArena m) (sym same) g.is.common.arena_is

      by : (o : Option Rested) → running ≡ o → IsArena (others_of c.heap.arena c.owner)
      by None e = from (begun e).others
      by (Some r) e = from (goes_on r e).others

  -- the list has an entry for the activity
  pub entry_there : place < length p.common.apart.items
  entry_there = let long : length p.common.apart.items ≡ length p.activities.items = g.is.apart.long in omega (arith, inside, long)

  -- and for the configuration of its turn
  pub entry_taken : (running : Option Rested) (c : Config Session)
      → (running ≡ None → Begun session_meaning (p.drawn + 1) (rules.first + place) rules.budget p.common c)
      → ((r : Rested) → running ≡ Some r → c.apart.items ≡ set p.common.apart.items place no_owner) → place < length c.apart.items
  entry_taken running c begun list = by running refl
    where
      by : (o : Option Rested) → running ≡ o → place < length c.apart.items
      by None e = subst (λ v. place < length v.items) (sym (begun e).apart) entry_there
      by (Some r) e = subst (λ n. place < n) (sym (ap length (list r e) ∙ length-set p.common.apart.items place no_owner)) entry_there

  -- those that rest may be kept apart from a try that begins
  pub begins_apart : p.drawn + 1 < no_owner → (u : ℕ) → IsTrue (is_apart p.common.apart.items u) → MayList (p.drawn + 1) p.common u
  begins_apart few u h = may_list g.library g.parts rules.budget g.copy g.arena p g.ends g.is few u h

  -- so few tries were dropped that one more can be counted
  pub few_noted : (mid : List Activity) (running : Option Rested) → Takes place p.activities.items mid running → (x : Activity) → slice_get mid place ≡ Some x
      → (steps : ℕ) → ((y : Activity) → slice_get p.activities.items place ≡ Some y → MayTurn rules.budget steps y) → x.dropped ≤ 3
  few_noted mid running t x found steps there =
      let a = t.was in
      let at_mid : slice_get mid place ≡ Some (record a { running = None }) = ap (λ (l : List Activity). slice_get l place) t.is
      ∙ set_there p.activities.items place a (record a { running = None }) t.there in
      let same : x ≡ record a { running = None } = same_Some x (record a { running = None }) (sym found ∙ at_mid) in
      subst (λ (y : Activity). y.dropped ≤ 3) (sym same) (by a.ended (there a t.there).0 (g.is.activities place a t.there))
    where
      by : (e : Bool) → e ≡ false → StandsBy g.library g.parts rules.budget g.copy g.arena e p g.ends (place + 1) t.was → t.was.dropped ≤ 3
      by true e h = absurd (false≢true (sym e))
      by false e h = h.few

  pub mid_long : (mid : List Activity) (running : Option Rested) → Takes place p.activities.items mid running → place < length mid
  mid_long mid running t =
      let long = ap length t.is ∙ length-set p.activities.items place (record t.was { running = None }) in
      omega (arith, inside, long)

  -- a try that goes on can take a step still
  pub left_some : (a : Activity) → slice_get p.activities.items place ≡ Some a → a.ended ≡ false → 0 < left_of rules.budget a.running
  left_some a at on = by a.running (subst (λ e. StandsBy g.library g.parts rules.budget g.copy g.arena e p g.ends (place + 1) a) on
      (g.is.activities place a at)).rests
    where
      by : (o : Option Rested) → IfSome o (λ r. IsResting (trees_of g.library g.parts) (tree_number g.library (place + 1)) rules.budget p.drawn p.common r
          × (times_owned r.owner g.ends ≡ 0)) → 0 < left_of rules.budget o
      by None h = g.some
      by (Some r) h = (h.0).left
