-- A turn that the code takes of an activity is the one of the definition.
use Rattle.std.proofs.Common.{◌≡◌, ℕ, ◌+◌, ◌≤◌, ◌<◌, true, false, inl, inr, List, [], ◌∷◌, ◌++◌, length, set, Option, None, Some, refl, sym, ap, ◌∙◌, subst}
use Rattle.std.proofs.Common.{arith, append-nil, length-set, Vec, Global}
use Rattle.std.specs.Prelude.{IfSome, min, max, slice_get, unwrap_or}
use Rattle.std.proofs.Math.Nat.{min-le_left}
use Rattle.std.proofs.lemmas.Option.{same_Some}
use Rattle.wjs_store.specs.Meaning.{Meaning}
use Rattle.wjs_store.specs.State.{World}
use Rattle.wjs_arena.specs.Entries.{others_of}
use Rattle.wjs_by_content.specs.Names.{content}
use Rattle.wjs_by_content.specs.Objects.{Arena}
use Rattle.wjs_by_content.specs.Tables.{arena_in}
use Rattle.wjs_meaning.specs.Trees.{Tree}
use Rattle.wjs_meaning.specs.Deeds.{St}
use Rattle.wjs_meaning.specs.Programs.{Ending, Done, Threw as ThrewValue, StepsSpent}
use Rattle.wjs_model.specs.declared.config.Config.{Config}
use Rattle.wjs_session.specs.declared.session.Session.{Session}
use Rattle.wjs_session.specs.Session.{world_at, first_copy}
use Rattle.wjs_session.specs.Stores.{worlds_in}
use Rattle.wjs_session.specs.Returns.{Returns}
use Rattle.wjs_alone.specs.Alone.{Copy, alone, outcome_by, outcome_of, copy_after, objects_by, objects_after, printed}
use Rattle.wjs_alone.specs.Opening.{trees_of, tree_number}
use Rattle.wjs_alone.specs.Marks.{marked, own_view, agrees}
use Rattle.wjs_alone.specs.Serial.{End, run_at}
use Rattle.wjs_alone.specs.Playing as defined
use Rattle.wjs_alone.specs.Playing.{activity_in, goes_on, ends_with, end_of, rests_with, drops, new_try, try_of}
use Rattle.wjs_tries.specs.declared.common.Common.{Common}
use Rattle.wjs_tries.specs.declared.common.Rested.{Rested}
use Rattle.wjs_activity.specs.declared.ends.Ended.{Ended}
use Rattle.wjs_tries.specs.declared.outcome.Outcome.{Outcome as Told}
use Rattle.wjs_tries.specs.declared.outcome.Outcome.TheVariants as told
use Rattle.wjs_activity.specs.declared.activities.Activity.{Activity}
use Rattle.wjs_activity.specs.declared.activities.Play.{Play}
use Rattle.wjs_tries.specs.declared.turns.Came.{Came}
use Rattle.wjs_tries.specs.declared.turns.Came.TheVariants as came
use Rattle.wjs_tries.specs.Meant.{session_meaning}
use Rattle.wjs_tries.specs.Views.{held_in, KnowsView}
use Rattle.wjs_tries.specs.Passing.{Passes}
use Rattle.wjs_tries.specs.Resting.{IsResting}
use Rattle.wjs_activity.specs.Noting.{Notes}
use Rattle.wjs_activity.specs.SoFar.{IsPlay, times_owned}
use Rattle.wjs_tries.specs.Turning.{first_in, Tells, CameTo, EndsAlone, IsTurned, Begun, GoesOnAs}
use Rattle.wjs_tries.specs.Exact.{goes_on_after, HasMarks, KeepsObjects, IsExact, run_of, marks_of, base_of}
use Rattle.wjs_activity.specs.Exactly.{IsTry, IsRunning, IsActivity, Stands, IsExactly, TurnIs}
use Rattle.wjs_activity.proofs.Places.{set_other, set_there}
use Rattle.wjs_activity.proofs.Defines.{goes_on_exactly, ends_exactly}
use Rattle.wjs_activity.proofs.Exacts.{run_is, outer_is, objects_before, turn_rests, turn_drops, turn_ends}
use Rattle.wjs_tries.proofs.LastRuns.{last_run}
use Rattle.wjs_tries.proofs.Passed.{returns}
use Rattle.wjs_activity.proofs.Same.{own_new, own_rests}
use Rattle.wjs_tries.proofs.Soundly.{view_known}
use Rattle.wjs_activity.proofs.Standing.{goes_on_old, apart}
use Rattle.wjs_activity.proofs.Taking.{Taken, passes_all, held_before, came_to}
use Rattle.wjs_activity.proofs.Tries.{stays_try}

-- the definition's try is the one of the configuration, which has taken so many steps
pub record SameTry (common : Common) (taken : ℕ) (c : Config Session) (s : defined.Play) (t : defined.Try) : Type 0 where
  pub owner : t.owner ≡ c.owner
  pub steps : t.taken ≡ taken
  pub own : own_view t.outer s.copy ≡ held_in common.texts (session_meaning c.heap.store).own
  pub known : KnowsView common.texts (session_meaning c.heap.store).own

none_runs : (budget : ℕ) (common : Common) (u : Option defined.Try) → IsRunning budget common None u → u ≡ None
none_runs budget common None h = refl
none_runs budget common (Some t) h = absurd h

-- ---- whose turn it is

module _ (library : Option Tree) (parts : List Tree) (budget : ℕ) (copy : Copy) (arena : Arena) (p : Play) (ends : List End)
    (is : IsPlay library parts budget copy arena p ends) (s : defined.Play) (ex : IsExactly budget p ends s)
    (k : ℕ) (a : Activity) (b : defined.Activity) (r : IsActivity budget p.common k a b) (c : Config Session) (taken : ℕ) (sum : taken + c.left ≡ budget) where
  first_known : KnowsView p.common.texts (first_copy (worlds_in p.common.shared))
  first_known = view_known p.common.texts p.common.arena (first_copy (worlds_in p.common.shared)) is.common.table is.common.slots

  -- a try that has begun
  pub try_new : (part : ℕ) → a.running ≡ None → Begun session_meaning (p.drawn + 1) part budget p.common c → SameTry p.common taken c s (try_of b s)
  try_new part none begun = subst (SameTry p.common taken c s) (sym new) (record {
    owner = ap (λ n. n + 1) ex.owners ∙ sym begun.owner_is;
    steps = let left : c.left ≡ budget = begun.left in omega (arith, sum, left);
    own = own_new (s.owners + 1) s.copy ∙ ex.copy ∙ ap (held_in p.common.texts) (sym (begun.own ∙ begun.holds));
    known = subst (KnowsView p.common.texts) (sym (begun.own ∙ begun.holds)) first_known;
  })
    where
      new : try_of b s ≡ new_try (s.owners + 1) s.copy
      new = ap (λ (o : Option defined.Try). unwrap_or o (new_try (s.owners + 1) s.copy))
          (none_runs budget p.common b.running (subst (λ (o : Option Rested). IsRunning budget p.common o b.running) none r.running))

  -- a try that goes on
  pub try_on : (rest : Rested) → a.running ≡ Some rest → GoesOnAs session_meaning p.common rest c → SameTry p.common taken c s (try_of b s)
  try_on rest runs g = by b.running refl (subst (λ (o : Option Rested). IsRunning budget p.common o b.running) runs r.running)
    where
      by : (o : Option defined.Try) → b.running ≡ o → IsRunning budget p.common (Some rest) o → SameTry p.common taken c s (try_of b s)
      by None e h = absurd h
      by (Some t) e h = subst (SameTry p.common taken c s) (sym (ap (λ (o : Option defined.Try). unwrap_or o (new_try (s.owners + 1) s.copy)) e)) (record {
        owner = h.owner ∙ sym (ap (λ (d : Config Meaning). d.owner) g.same);
        steps = let left : c.left ≡ rest.left = ap (λ (d : Config Meaning). d.left) g.same in let all = h.steps in omega (arith, sum, left, all);
        own = own_rests budget p.common rest t s.copy h first_known ex.copy
            ∙ ap (held_in p.common.texts) (sym (ap (λ (d : Config Meaning). d.heap.store.own) g.same));
        known = subst (KnowsView p.common.texts) (sym (ap (λ (d : Config Meaning). d.heap.store.own) g.same)) h.known.own;
      })

-- ---- the turn

-- the end that a turn of an owner's try came to, if it did
abbrev pub more_of : Option Tree → List Tree → ℕ → Play → ℕ → Activity → ℕ → Common → Came → List End
more_of library parts budget p place a q next (came.Ends outcome out) =
    record {
      run = record { activity = place + 1; owner = q; objects = arena_in next.texts next.arena };
      outcome = outcome_of q (run_at library parts budget (first_in p.common)
          (record { activity = place + 1; owner = q; objects = arena_in next.texts next.arena }));
      tries = a.dropped + 1;
    } ∷ []
more_of library parts budget p place a q next _ = []

module _ (library : Option Tree) (parts : List Tree) (budget : ℕ) (copy : Copy) (arena : Arena) (p : Play) (ends : List End)
    (is : IsPlay library parts budget copy arena p ends) (place : ℕ) (a : Activity) (at : slice_get p.activities.items place ≡ Some a) (alive : a.ended ≡ false)
    (q drawn : ℕ) (more : p.drawn ≤ drawn) (c : Config Session) (next : Common) (k : Came)
    (taken : Taken (trees_of library parts) (tree_number library (place + 1)) budget q drawn p.common c)
    (turned : IsTurned session_meaning (trees_of library parts) (tree_number library (place + 1)) budget drawn c next k)
    (own : (r : Rested) → a.running ≡ Some r → r.owner ≡ q) (new : a.running ≡ None → p.drawn < q)
    (after : Play) (common_is : after.common ≡ next) (drawn_is : after.drawn ≡ drawn) (latest_is : after.drawn ≡ max p.drawn q) (now : Activity)
    (items_is : after.activities.items ≡ set p.activities.items place now)
    (steps : ℕ) (exact : IsExact session_meaning (trees_of library parts) (tree_number library (place + 1)) budget taken.live.taken steps c next k)
    (s : defined.Play) (ex : IsExactly budget p ends s) (b : defined.Activity) (there : activity_in s.activities (place + 1) ≡ Some b)
    (r : IsActivity budget p.common (place + 1) a b) (try : SameTry p.common taken.live.taken c s (try_of b s)) where
  abbrev trees : List Tree
  trees = trees_of library parts

  abbrev t : defined.Try
  t = try_of b s

  passes : Passes q p.common next
  passes = passes_all library parts budget copy arena p ends is (place + 1) q drawn c next k taken turned

  -- the definition's run, with its marks, and the play with its owner drawn
  abbrev run : Ending × St
  run = alone trees (tree_number library b.number) t.owner (own_view t.outer s.copy) s.objects (min budget (t.taken + steps))

  abbrev outer : World content
  outer = marked t.owner (own_view t.outer s.copy) (run.1).done

  abbrev with_run : defined.Play
  with_run = record s { owners = max s.owners t.owner }

  run_same : run ≡ run_of session_meaning trees (tree_number library b.number) next.texts c (min budget (taken.live.taken + steps))
  run_same = run_is library parts budget taken.live.taken steps p.common next p.drawn c q is.common taken.start taken.owner passes.texts taken.holds s ex.copy
      ex.objects b t try.owner try.steps try.own try.known

  outer_same : outer ≡ marks_of session_meaning trees (tree_number library b.number) next.texts c (min budget (taken.live.taken + steps))
  outer_same = outer_is library parts budget taken.live.taken steps p.common next p.drawn c q is.common taken.start taken.owner passes.texts taken.holds s
      ex.copy ex.objects b t try.owner try.steps try.own try.known

  exact_here : IsExact session_meaning trees (tree_number library b.number) budget taken.live.taken steps c next k
  exact_here = subst (λ j. IsExact session_meaning trees (tree_number library j) budget taken.live.taken steps c next k) (sym r.number) exact

  -- the objects are those that were there, where the turn left those of others
  objects_on : next.arena ≡ others_of c.heap.arena c.owner → s.objects ≡ arena_in next.texts next.arena
  objects_on kept =
      objects_before library parts budget taken.live.taken steps p.common next p.drawn c q is.common taken.start taken.owner passes.texts taken.holds s ex.copy
      ex.objects b t try.owner try.steps try.own try.known
      ∙ ap (arena_in next.texts) (sym (kept ∙ taken.others))

  owner_same : t.owner ≡ q
  owner_same = try.owner ∙ taken.owner

  -- ---- the others

  long : length after.activities.items ≡ length p.activities.items
  long = ap length items_is ∙ length-set p.activities.items place now

  others : (i : ℕ) → ¬ (i ≡ place) → slice_get after.activities.items i ≡ slice_get p.activities.items i
  others i away = ap (λ l. slice_get l i) items_is ∙ set_other p.activities.items place i now away

  at_now : slice_get after.activities.items place ≡ Some now
  at_now = ap (λ l. slice_get l place) items_is ∙ set_there p.activities.items place a now at

  module _ (i : ℕ) (y : Activity) (found : slice_get p.activities.items i ≡ Some y) (away : ¬ (i ≡ place)) (rest : Rested) (runs : y.running ≡ Some rest) where
    rests : IsResting (trees_of library parts) (tree_number library (i + 1)) budget p.drawn p.common rest
    rests =
        let g = goes_on_old library parts budget copy arena p ends is place a at alive q next drawn more passes turned.is_common turned.works own new after
        common_is drawn_is long others now at_now i y rest found runs in
        (subst (λ (o : Option Rested). IfSome o (λ x. IsResting (trees_of library parts) (tree_number library (i + 1)) budget p.drawn p.common x
        × (times_owned x.owner ends ≡ 0))) runs g.rests).0

    other_returns : Returns (worlds_in p.common.shared) (worlds_in next.shared) rest.resting.world
    other_returns = returns trees (tree_number library (i + 1)) budget p.drawn drawn q p.common next rest rests passes turned.is_common more
        (apart library parts budget copy arena p ends is place a at alive q next drawn more passes turned.is_common turned.works own new after common_is
        drawn_is long others now at_now i y rest away found runs)

  first_next : KnowsView next.texts (first_copy (worlds_in next.shared))
  first_next = view_known next.texts next.arena (first_copy (worlds_in next.shared)) turned.is_common.table turned.is_common.slots

  others_same : (j : ℕ) (y : Activity) (z : defined.Activity) → ¬ (j ≡ place + 1) → Stands budget p.common p.activities.items j y z
      → IsActivity budget next j y z
  others_same j y z away h = record { number = (h.0).number; dropped = (h.0).dropped; running = by y.running z.running refl (h.0).running }
    where
      not_here : ¬ ((h.1).0 ≡ place)
      not_here e = let number : j ≡ (h.1).0 + 1 = (h.1).1 in away (omega (arith, number, e))

      by : (o : Option Rested) (u : Option defined.Try) → y.running ≡ o → IsRunning budget p.common o u → IsRunning budget next o u
      by None None e g = tt
      by None (Some u) e g = absurd g
      by (Some rest) None e g = absurd g
      by (Some rest) (Some u) e g = stays_try budget p.common next rest u g (other_returns (h.1).0 y (h.1).2 not_here rest e) passes.texts first_next

  -- ---- what it came to

  abbrev emptied : Activity
  emptied = record a { running = None }

  -- the activity goes on
  module _ (left : defined.Activity) (number : left.number ≡ b.number) (on : now.ended ≡ false) (dropped : left.dropped ≡ now.dropped)
      (running : IsRunning budget next now.running left.running) (same : first_in next ≡ first_in p.common)
      (kept : next.arena ≡ others_of c.heap.arena c.owner) where
    on_exactly : IsExactly budget after ends (goes_on left with_run)
    on_exactly = goes_on_exactly budget p ends s ex place a at alive b r t.owner q owner_same next after common_is latest_is now items_is others_same run
        left (number ∙ r.number) on dropped running same (objects_on kept)

  stays_out : (output : List ℕ) → output ≡ [] → s.out ≡ s.out ++ output
  stays_out output none = sym (append-nil s.out) ∙ ap (λ (l : List ℕ). s.out ++ l) (sym none)

  at_place : (x : Activity) → slice_get after.activities.items place ≡ Some x → x ≡ now
  at_place x found = same_Some x now (sym found ∙ at_now)

  -- its try rests
  rested : (rest : Rested) → IsExact session_meaning (trees_of library parts) (tree_number library b.number) budget taken.live.taken steps c next
      (came.Rests rest) → rest.owner ≡ q → first_in next ≡ first_in p.common → now ≡ record a { running = Some rest } → (output : List ℕ) → output ≡ []
      → TurnIs library parts budget steps place s after ends output
  rested rest e mine same form output none =
      let left = rests_with b t.owner (min budget (t.taken + steps)) outer in
      let try_now : IsTry budget next rest (record { owner = t.owner; taken = min budget (t.taken + steps); outer = outer }) = record {
        owner = owner_same ∙ sym mine;
        steps = ap (λ n. min budget (n + steps) + rest.left) try.steps ∙ e.came.1;
        marks = subst (HasMarks next.texts (world_at (worlds_in next.shared) rest.resting.world)) (sym outer_same) e.came.2;
        known = e.came.3;
      } in
      record {
        was = b;
        there = there;
        now = goes_on left with_run;
        is = on_exactly left refl (ap (λ (x : Activity). x.ended) form ∙ alive) (r.dropped ∙ sym (ap (λ (x : Activity). x.dropped) form))
            (subst (λ (o : Option Rested). IsRunning budget next o left.running) (sym (ap (λ (x : Activity). x.running) form)) try_now) same e.objects;
        turn = inl (record {
          turn = λ go. turn_rests library parts budget taken.live.taken steps p.common next p.drawn c q is.common taken.start taken.owner passes.texts
              taken.holds s ex.copy ex.objects b t try.owner try.steps try.own try.known go e.came.0;
          at = λ x here. inr (λ e. let h : None ≡ Some rest = sym e ∙ ap (λ (y : Activity). y.running) (at_place x here ∙ form) in absurd (cc));
        });
        out = stays_out output none;
      }

  -- its try is dropped
  dropped_one : IsExact session_meaning (trees_of library parts) (tree_number library b.number) budget taken.live.taken steps c next came.Drops
      → first_in next ≡ first_in p.common → now ≡ record a { dropped = a.dropped + 1; running = None } → (output : List ℕ) → output ≡ []
      → TurnIs library parts budget steps place s after ends output
  dropped_one e same form output none = record {
    was = b;
    there = there;
    now = goes_on (drops b) with_run;
    is = on_exactly (drops b) refl (ap (λ (x : Activity). x.ended) form ∙ alive) (ap (λ n. n + 1) r.dropped ∙ sym (ap (λ (x : Activity). x.dropped) form))
        (subst (λ (o : Option Rested). IsRunning budget next o None) (sym (ap (λ (x : Activity). x.running) form)) tt) same e.objects;
    turn = inr (record {
      left = drops b;
      made = with_run;
      number = refl;
      now_is = refl;
      turn = λ go. turn_drops library parts budget taken.live.taken steps p.common next p.drawn c q is.common taken.start taken.owner passes.texts taken.holds
          s ex.copy ex.objects b t try.owner try.steps try.own try.known go e.came.0 e.came.1;
      at = λ x here. (
        ap (λ (y : Activity). y.ended) (at_place x here ∙ form) ∙ alive,
        ap (λ n. n + 1) r.dropped ∙ sym (ap (λ (y : Activity). y.dropped) (at_place x here ∙ form)),
      );
    });
    out = stays_out output none;
  }

  -- it has ended: its run is the one with the whole budget, and with the objects that are there
  module _ (over : goes_on_after budget (min budget (taken.live.taken + steps))
      (run_of session_meaning (trees_of library parts) (tree_number library b.number) next.texts c (min budget (taken.live.taken + steps))).0 ≡ false)
      (agree : agrees (marks_of session_meaning (trees_of library parts) (tree_number library b.number) next.texts c (min budget (taken.live.taken + steps)))
      (base_of next.texts c) ≡ true)
      (first : (session_meaning c.heap.store).own ≡ first_copy (worlds_in c.heap.store.shared)) (outcome : Told) (bytes : Vec ℕ Global)
      (e : EndsAlone session_meaning (trees_of library parts) (tree_number library (place + 1)) budget drawn q (first_in p.common) next outcome bytes.items)
      (kept : KeepsObjects c next (came.Ends outcome bytes)) where
    whole : run ≡ alone (trees_of library parts) (tree_number library (place + 1)) q (first_in p.common) (arena_in next.texts next.arena) budget
    whole =
        run_same
        ∙ sym (last_run trees (tree_number library b.number) budget (min budget (taken.live.taken + steps)) c next (first_in p.common)
        (min-le_left budget (taken.live.taken + steps)) turned.leaves first
        (held_before library parts budget copy arena p ends is (place + 1) q drawn c next k taken turned) over)
        ∙ (λ j. alone trees (tree_number library (r.number j)) (taken.owner j) (first_in p.common) (arena_in next.texts next.arena) budget)

    leaves : first_in next ≡ copy_after t.owner s.copy run
    leaves = e.leaves ∙ (λ j. copy_after (sym owner_same j) (sym ex.copy j) (sym whole j))

    abbrev left_now : Arena
    left_now = arena_in next.texts next.arena

    -- by how it has ended: the run's objects where it was committed, and else those that were there
    by_ending : (o : Told) (en : Ending) (st : St) → KeepsObjects c next (came.Ends o bytes) → Tells o (outcome_by q en st)
        → objects_by left_now en st ≡ left_now → objects_by s.objects en st ≡ left_now
    by_ending o Done st k tells h = h
    by_ending told.Committed (ThrewValue v) st k tells h = absurd tells
    by_ending (told.Threw shown) (ThrewValue v) st k tells h = objects_on k
    by_ending told.Spent (ThrewValue v) st k tells h = absurd tells
    by_ending told.Committed StepsSpent st k tells h = absurd tells
    by_ending (told.Threw shown) StepsSpent st k tells h = absurd tells
    by_ending told.Spent StepsSpent st k tells h = objects_on k

    objects : objects_after s.objects run ≡ arena_in next.texts next.arena
    objects = by_ending outcome run.0 run.1 kept (subst (λ z. Tells outcome (outcome_of q z)) (sym whole) e.tells)
        (ap (objects_after left_now) whole ∙ e.objects)

    end_same : end_of b t.owner s.objects run ≡ record {
      run = record { activity = place + 1; owner = q; objects = arena_in next.texts next.arena };
      outcome = outcome_of q (run_at library parts budget (first_in p.common)
          (record { activity = place + 1; owner = q; objects = arena_in next.texts next.arena }));
      tries = a.dropped + 1;
    }
    end_same = λ j. record {
      run = record { activity = r.number j; owner = owner_same j; objects = objects j };
      outcome = outcome_of (owner_same j) (whole j);
      tries = r.dropped j + 1;
    }

    ended : now.ended ≡ true → (output : List ℕ) → output ≡ bytes.items → TurnIs library parts budget steps place s after (ends ++ record {
      run = record { activity = place + 1; owner = q; objects = arena_in next.texts next.arena };
      outcome = outcome_of q (run_at library parts budget (first_in p.common)
          (record { activity = place + 1; owner = q; objects = arena_in next.texts next.arena }));
      tries = a.dropped + 1;
    } ∷ []) output
    ended gone output same = record {
      was = b;
      there = there;
      now = ends_with b t.owner run with_run;
      is = subst (λ (x : End). IsExactly budget after (ends ++ x ∷ []) (ends_with b t.owner run with_run)) end_same
          (ends_exactly budget p ends s ex place a at alive b r t.owner q owner_same next after common_is latest_is now items_is others_same run gone
          leaves objects);
      turn = inl (record {
        turn = λ go. turn_ends library parts budget taken.live.taken steps p.common next p.drawn c q is.common taken.start taken.owner passes.texts
            taken.holds s ex.copy ex.objects b t try.owner try.steps try.own try.known go over agree;
        at = λ x here. inl (ap (λ (y : Activity). y.ended) (at_place x here) ∙ gone);
      });
      out = ap (λ (l : List ℕ). s.out ++ l) (ap printed whole ∙ sym e.prints ∙ sym same);
    }

  -- by what it came to
  pub turn_is : (ends' : List Ended) (output : List ℕ) → Notes (place + 1) c.owner k (record a { running = None }) p.ends now ends' output
      → TurnIs library parts budget steps place s after (ends ++ more_of library parts budget p place a q next k) output
  turn_is ends' output noted = by k exact_here (came_to library parts budget copy arena p ends is (place + 1) q drawn c next k taken turned) noted
    where
      by : (x : Came) → IsExact session_meaning trees (tree_number library b.number) budget taken.live.taken steps c next x
          → CameTo session_meaning trees (tree_number library (place + 1)) budget drawn q (first_in p.common) next x
          → Notes (place + 1) c.owner x emptied p.ends now ends' output
          → TurnIs library parts budget steps place s after (ends ++ more_of library parts budget p place a q next x) output
      by (came.Rests rest) e to notes = subst (λ (es : List End). TurnIs library parts budget steps place s after es output) (sym (append-nil ends))
          (rested rest e to.0 to.2 notes.0 output notes.2)
      by came.Drops e to notes = subst (λ (es : List End). TurnIs library parts budget steps place s after es output) (sym (append-nil ends))
          (dropped_one e to notes.0 output notes.2)
      by (came.Ends outcome out) e to notes = ended e.came.0 e.came.1 e.came.2 outcome out to e.objects (ap (λ (x : Activity). x.ended) notes.0) output notes.2
