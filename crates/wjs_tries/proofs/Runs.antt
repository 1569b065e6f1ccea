-- Behind a walk the definition's run of the turn has come to where the try has.
use Rattle.std.proofs.Common.{◌≡◌, ℕ, ◌+◌, ◌-◌, ◌≤◌, true, false, ◌||◌, List, None, Some, refl, sym, ap, ◌∙◌, subst, arith}
use Rattle.std.specs.Prelude.{min, nat_lt}
use Rattle.std.specs.FinMap as map
use Rattle.std.proofs.Math.Nat.{le-min, min-eq_left, min-eq_right}
use Rattle.std.proofs.lemmas.Bool.{lt-ltb, false_from_ne_true, ltb-true}
use Rattle.wjs_base.specs.declared.ids.ObjId.{ObjId}
use Rattle.wjs_base.specs.Order.{obj_cmp}
use Rattle.wjs_base.specs.Text.{Table, Grows}
use Rattle.wjs_base.proofs.TextLaws.{Grows-refl}
use Rattle.wjs_store.specs.Meaning.{View}
use Rattle.wjs_arena.specs.Entries.{others_of}
use Rattle.wjs_by_content.specs.Objects.{Entry}
use Rattle.wjs_by_content.specs.Tables.{arena_in}
use Rattle.wjs_by_content.proofs.Growth.{slot_grows, value_grows}
use Rattle.wjs_meaning.specs.Trees.{Tree}
use Rattle.wjs_meaning.specs.Deeds.{St}
use Rattle.wjs_meaning.specs.Programs.{Ending, Done, StepsSpent}
use Rattle.wjs_model.specs.declared.config.Config.{Config}
use Rattle.wjs_model.specs.declared.config.State.{State}
use Rattle.wjs_model.specs.declared.config.State.TheVariants as states
use Rattle.wjs_model.specs.Outside.{Admits, beside}
use Rattle.wjs_model.specs.Outside as outside
use Rattle.wjs_model.specs.Configurations.{run_in, frames_in, state_in}
use Rattle.wjs_parts.specs.Walking.{going, Stops, ended, paused, spent, Walks}
use Rattle.wjs_session.specs.declared.session.Session.{Session}
use Rattle.wjs_session.specs.Session.{world_at, first_copy, passes}
use Rattle.wjs_session.specs.Stores.{worlds_in}
use Rattle.wjs_session.specs.Owned.{own_passes}
use Rattle.wjs_alone.specs.Alone.{alone}
use Rattle.wjs_alone.proofs.Objects.{left_out_lem}
use Rattle.wjs_tries.specs.Meant.{session_meaning}
use Rattle.wjs_tries.specs.Views.{held_in, KnowsView}
use Rattle.wjs_tries.specs.Trying.{ending_in}
use Rattle.wjs_tries.specs.Turning.{IsLive}
use Rattle.wjs_tries.specs.Exact.{goes_on_after, run_of}
use Rattle.wjs_model.proofs.Beside.{beside_nothing}
use Rattle.wjs_tries.proofs.Beside.{same_in}
use Rattle.wjs_tries.proofs.Owning.{others_in_same}
use Rattle.wjs_tries.proofs.Turned.{live}
use Rattle.wjs_tries.proofs.Walked.{by_state, paused_alone, stays_going, walk_keeps_alone}

-- a view that a table knows is known by a later one
pub view_grows : (old new : Table) (v : View) → Grows old new → KnowsView old v → KnowsView new v
view_grows old new v g k s x at = let h = k s x at in ((slot_grows old new g s h.0).0, (value_grows old new g x h.1).0)

-- its ending for the turn: while it goes on, steps were wanting
abbrev pub ending_now : Table → State → Ending
ending_now t states.Running = StepsSpent
ending_now t (states.Threw v) = ending_in t (states.Threw v)
ending_now t states.Done = Done
ending_now t states.StepsSpent = StepsSpent

ended_now : (t : Table) (s : State) → ¬ (s ≡ states.Running) → ending_now t s ≡ ending_in t s
ended_now t states.Running on = absurd (on refl)
ended_now t (states.Threw v) on = refl
ended_now t states.Done on = refl
ended_now t states.StepsSpent on = refl

module _ (trees : List Tree) (tree budget drawn steps took : ℕ) (old new : Config Session) (l : IsLive session_meaning trees tree budget drawn old)
    (w : Walks session_meaning steps took old new) (known : KnowsView old.heap.texts (session_meaning old.heap.store).own) where
  pub own_known : KnowsView new.heap.texts (session_meaning new.heap.store).own
  own_known = subst (KnowsView new.heap.texts) (sym w.stays.own)
      (view_grows old.heap.texts new.heap.texts (session_meaning old.heap.store).own w.stays.texts known)

  no_entry : (o : ObjId) (e : Entry) → map.get (map.empty {X = Entry} {R = obj_cmp}) o ≡ Some e → ⊥
  no_entry o e at = let h : None ≡ Some e = sym (map.get-empty obj_cmp o) ∙ at in cc

  -- its own view is admitted
  pub own_admitted : passes (world_at (worlds_in new.heap.store.shared) new.heap.store.world) (session_meaning new.heap.store).own ≡ true
  own_admitted = own_passes (first_copy (worlds_in new.heap.store.shared)) (world_at (worlds_in new.heap.store.shared) new.heap.store.world)

  admitted : Admits session_meaning new (outside.alone (session_meaning new.heap.store).own new.heap.texts)
  admitted = record {
    view = ap (λ b. b || passes (world_at (worlds_in new.heap.store.shared) new.heap.store.world) (session_meaning new.heap.store).own)
        (live new w.sound.base) ∙ own_admitted;
    further = record { apart = λ o e at. absurd (no_entry o e at); worlds = λ o e x at h. absurd (no_entry o e at) };
    texts = Grows-refl new.heap.texts;
  }

  pub within : (l.taken + took) + new.left ≡ budget
  within = let a : l.taken + old.left ≡ budget = l.trying.budget_is in let b : old.left ≡ took + new.left = w.left in omega (arith, a, b)

  -- its steps in all are within what the turn may take
  room : l.taken + took ≤ min budget (l.taken + steps)
  room =
      let a : (l.taken + took) + new.left ≡ budget = within in
      let b : took ≤ steps = w.most in
      le-min (omega (arith, a)) (omega (arith, b))

  -- by why the walk stopped
  record Behind : Type 0 where
    run : alone trees tree new.owner (held_in new.heap.texts (session_meaning new.heap.store).own) (beside (arena_in new.heap.texts new.heap.arena) map.empty)
        (min budget (l.taken + steps)) ≡ (
          ending_now new.heap.texts new.state,
          state_in session_meaning new.heap.texts
              (outside.alone (session_meaning new.heap.store).own new.heap.texts) new,
        )
    rests : new.state ≡ states.Running → (goes_on_after budget (min budget (l.taken + steps)) (ending_now new.heap.texts new.state) ≡ true)
        × (min budget (l.taken + steps) ≡ l.taken + took)
    over : ¬ (new.state ≡ states.Running) → goes_on_after budget (min budget (l.taken + steps)) (ending_now new.heap.texts new.state) ≡ false

  by_stops : Stops session_meaning steps took old new → Behind
  by_stops (ended on alive kept) =
      let t = new.heap.texts in
      let v = outside.alone (session_meaning new.heap.store).own t in
      let st = state_in session_meaning t v new in
      let try = paused_alone session_meaning trees tree budget l.taken steps took old new l.sound l.trying w kept in
      let more = min budget (l.taken + steps) - (l.taken + took) in
      let sum : min budget (l.taken + steps) ≡ (l.taken + took) + more = let r = room in omega (arith, r) in
      record {
        run =
            ap (alone trees tree new.owner (held_in t v.view) (beside (arena_in t new.heap.arena) map.empty)) sum
            ∙ try.alone v admitted own_known more
            ∙ by_state t new.state (run_in session_meaning t new) (frames_in session_meaning t new) st more on alive
            ∙ ap (λ (e : Ending). (e, st)) (sym (ended_now t new.state on));
        rests = λ running. absurd (on running);
        over = λ o. no_more t (min budget (l.taken + steps)) new.state on alive;
      }
    where
      no_more : (t : Table) (k : ℕ) (s : State) → ¬ (s ≡ states.Running) → ¬ (s ≡ states.StepsSpent) → goes_on_after budget k (ending_now t s) ≡ false
      no_more t k states.Running on alive = absurd (on refl)
      no_more t k states.Done on alive = refl
      no_more t k (states.Threw v) on alive = refl
      no_more t k states.StepsSpent on alive = absurd (alive refl)
  by_stops (paused running all some due kept) =
      let t = new.heap.texts in
      let v = outside.alone (session_meaning new.heap.store).own t in
      let st = state_in session_meaning t v new in
      let try = paused_alone session_meaning trees tree budget l.taken steps took old new l.sound l.trying w kept in
      let a : (l.taken + took) + new.left ≡ budget = within in
      let le : l.taken + steps ≤ budget = omega (arith, a, all) in
      let is : min budget (l.taken + steps) ≡ l.taken + took = min-eq_right le ∙ ap (λ k. l.taken + k) (sym all) in
      let none : min budget (l.taken + steps) ≡ (l.taken + took) + 0 = omega (arith, is) in
      record {
        run =
            ap (alone trees tree new.owner (held_in t v.view) (beside (arena_in t new.heap.arena) map.empty)) none
            ∙ try.alone v admitted own_known 0
            ∙ due v
            ∙ ap (λ (s : State). (ending_now t s, st)) (sym running);
        rests = λ r. (
          ap (λ (s : State). goes_on_after budget (min budget (l.taken + steps)) (ending_now t s)) running
              ∙ lt-ltb (min budget (l.taken + steps)) budget (omega (arith, is, a, some)),
          is,
        );
        over = λ o. absurd (o running);
      }
  by_stops (spent is_spent none due kept) =
      let t = new.heap.texts in
      let v = outside.alone (session_meaning new.heap.store).own t in
      let st = state_in session_meaning t v new in
      let try = walk_keeps_alone session_meaning trees tree budget l.taken took old (going new) l.sound l.trying (stays_going session_meaning old new w.stays)
      (λ u a k. w.knows u a k) w.left kept in
      let a : (l.taken + took) + new.left ≡ budget = within in
      let b : took ≤ steps = w.most in
      let is : min budget (l.taken + steps) ≡ budget = min-eq_left (omega (arith, a, b, none)) in
      let all : min budget (l.taken + steps) ≡ (l.taken + took) + 0 = omega (arith, is, a, none) in
      record {
        run =
            ap (alone trees tree new.owner (held_in t v.view) (beside (arena_in t new.heap.arena) map.empty)) all
            ∙ try.alone v admitted own_known 0
            ∙ due v
            ∙ ap (λ (s : State). (ending_now t s, st)) (sym is_spent);
        rests = λ r. let e : states.StepsSpent ≡ states.Running = sym is_spent ∙ r in cc;
        over = λ o.
            ap (λ (s : State). goes_on_after budget (min budget (l.taken + steps)) (ending_now t s)) is_spent
            ∙ ap (λ k. nat_lt k budget) is
            ∙ false_from_ne_true (nat_lt budget budget) (λ h. let lt = ltb-true budget budget h in omega (arith, lt));
      }

  -- the definition's run of the turn, from what there was at its begin
  pub run_is : run_of session_meaning trees tree new.heap.texts old (min budget (l.taken + steps))
      ≡ (ending_now new.heap.texts new.state, state_in session_meaning new.heap.texts (outside.alone (session_meaning new.heap.store).own new.heap.texts) new)
  run_is =
      let t = new.heap.texts in
      left_out_lem trees tree old.owner (held_in t (session_meaning old.heap.store).own) (arena_in t (others_of old.heap.arena old.owner))
      (arena_in t new.heap.arena) (min budget (l.taken + steps)) (λ o away. others_in_same old.heap.arena old.owner t o away
      ∙ same_in t old.heap.arena new.heap.arena old.owner w.stays.objects w.stays.made o away)
      ∙ (λ i. alone trees tree (sym w.stays.owner i) (held_in t (sym w.stays.own i)) (sym (beside_nothing (arena_in t new.heap.arena)) i)
      (min budget (l.taken + steps)))
      ∙ (by_stops w.stops).run

  pub rests_is : new.state ≡ states.Running → (goes_on_after budget (min budget (l.taken + steps))
      (run_of session_meaning trees tree new.heap.texts old (min budget (l.taken + steps))).0 ≡ true) × (min budget (l.taken + steps) ≡ l.taken + took)
  rests_is running =
      let h = (by_stops w.stops).rests running in
      (ap (λ (r : Ending × St). goes_on_after budget (min budget (l.taken + steps)) r.0) run_is ∙ h.0, h.1)

  pub over_is : ¬ (new.state ≡ states.Running) → goes_on_after budget (min budget (l.taken + steps))
      (run_of session_meaning trees tree new.heap.texts old (min budget (l.taken + steps))).0 ≡ false
  over_is over = ap (λ (r : Ending × St). goes_on_after budget (min budget (l.taken + steps)) r.0) run_is ∙ (by_stops w.stops).over over
