-- A turn of a try keeps that it is its part alone; at its end it is over.
use Rattle.std.proofs.Common.{◌≡◌, ℕ, ◌+◌, ◌<◌, true, List, refl, sym, ap, ◌∙◌, arith}
use Rattle.std.specs.Prelude.{map as each}
use Rattle.std.specs.FinMap as map
use Rattle.wjs_base.specs.declared.ids.ObjId.{ObjId}
use Rattle.wjs_base.specs.Text.{Table}
use Rattle.wjs_store.specs.Meaning.{Meaning}
use Rattle.wjs_by_content.specs.Objects.{Arena}
use Rattle.wjs_by_content.specs.Tables.{arena_in}
use Rattle.wjs_by_content.proofs.ArenaGrowth.{arena_grows}
use Rattle.wjs_heap.specs.Means.{parts}
use Rattle.wjs_meaning.specs.Trees.{Tree}
use Rattle.wjs_meaning.specs.Deeds.{St}
use Rattle.wjs_model.specs.declared.config.Config.{Config}
use Rattle.wjs_model.specs.declared.config.State.{State}
use Rattle.wjs_model.specs.declared.config.State.TheVariants as states
use Rattle.wjs_model.specs.Contents.{Frame, Run}
use Rattle.wjs_model.specs.Outside.{Outside, Admits, Knows, beside}
use Rattle.wjs_model.specs.Configurations.{rest, rest_by, seen, tells, run_in, frames_in, state_in, Stays, RestIs, StaysKnown}
use Rattle.wjs_model.specs.Soundness.{Sound}
use Rattle.wjs_model.specs.Texts.{KnowsUnit}
use Rattle.wjs_model.specs.Units.{unit_in}
use Rattle.wjs_frames.proofs.Growing.{arena_known, left_alike}
use Rattle.wjs_frames.proofs.Lists.{each_alike}
use Rattle.wjs_frames.proofs.NodesGrow.{unit_grows}
use Rattle.wjs_parts.specs.Walking.{going, IsDue, Stops, ended, paused, spent, Walks}
use Rattle.wjs_alone.specs.Alone.{world_of, alone}
use Rattle.wjs_alone.proofs.Objects.{left_out_lem}
use Rattle.wjs_tries.specs.Meant.{meant}
use Rattle.wjs_tries.specs.Views.{held_in, KnowsView}
use Rattle.wjs_tries.specs.Trying.{IsTrying, ending_in}
use Rattle.wjs_tries.proofs.Beside.{same_beside}

module _ {S : Type 0} (meaning : S → Meaning) (trees : List Tree) (tree budget taken took : ℕ) (old new : Config S) (sound : Sound meaning old)
    (try : IsTrying trees tree budget taken (meant meaning old)) (stays : Stays meaning old new) (known : StaysKnown meaning old new) where
  -- the trees are the same under the later table
  pub trees_stay : each (unit_in new.heap.texts) new.units.items ≡ trees
  trees_stay =
      ap (λ us. each (unit_in new.heap.texts) us.items) stays.units
      ∙ each_alike (unit_in new.heap.texts) (unit_in old.heap.texts) (KnowsUnit old.heap.texts)
      (unit_grows old.heap.texts new.heap.texts stays.texts) old.units.items sound.base.units
      ∙ try.trees_are

  pub knows_still : (v : Outside) → Admits meaning new v → KnowsView v.texts v.view → Knows meaning new v
  knows_still v a k = known v a (try.knows v (stays.narrows v a) k)

  -- others find the same objects
  objects_still : (v : Outside) (o : ObjId) → ¬ (o.owner ≡ old.owner)
      → map.get (beside (arena_in new.heap.texts new.heap.arena) v.more) o ≡ map.get (beside (arena_in old.heap.texts old.heap.arena) v.more) o
  objects_still v o apart =
      sym (same_beside new.heap.texts old.heap.arena new.heap.arena old.owner stays.objects stays.made v.more o apart)
      ∙ ap (λ (m : Arena). map.get (beside m v.more) o) (arena_grows old.heap.texts new.heap.texts stays.texts old.heap.arena
      (arena_known (parts meaning old.heap) sound.base.heap)).1

  -- from before what is left to do is the part alone; so it is from here on
  goes_on : RestIs meaning old new (λ n. took + n) → (v : Outside) → Admits meaning new v → KnowsView v.texts v.view → (n : ℕ)
      → alone trees tree new.owner (held_in v.texts v.view) (beside (arena_in new.heap.texts new.heap.arena) v.more) ((taken + took) + n)
      ≡ rest meaning new.heap.texts v new n
  goes_on kept v a k n =
      let t = new.heap.texts in
      let before = stays.narrows v a in
      let sum : (taken + took) + n ≡ taken + (took + n) = omega arith in
      (λ i. alone trees tree (stays.owner i) (held_in v.texts v.view) (beside (arena_in t new.heap.arena) v.more) (sum i))
      ∙ left_out_lem trees tree old.owner (held_in v.texts v.view) (beside (arena_in t new.heap.arena) v.more)
      (beside (arena_in old.heap.texts old.heap.arena) v.more) (taken + (took + n)) (objects_still v)
      ∙ try.alone v before k (took + n)
      ∙ sym ((left_alike meaning t v old sound stays.texts).rest (took + n))
      ∙ kept v a (try.knows v before k) n

  module _ (left : old.left ≡ took + new.left) where
    pub walk_keeps_alone : RestIs meaning old new (λ n. took + n) → IsTrying trees tree budget (taken + took) (meant meaning new)
    walk_keeps_alone kept = record {
      budget_is = let b : taken + old.left ≡ budget = try.budget_is in omega (arith, b, left);
      trees_are = trees_stay;
      global = stays.global ∙ try.global;
      world = stays.world ∙ try.world ∙ ap world_of (sym stays.owner);
      knows = knows_still;
      alone = goes_on kept;
    }

-- ---- the end

pub by_state : (t : Table) (s : State) (run : Run) (fs : List Frame) (st : St) (n : ℕ) → ¬ (s ≡ states.Running) → ¬ (s ≡ states.StepsSpent)
    → rest_by t s run fs st n ≡ (ending_in t s, st)
by_state t states.Running run fs st n on alive = absurd (on refl)
by_state t states.Done run fs st n on alive = refl
by_state t (states.Threw v) run fs st n on alive = refl
by_state t states.StepsSpent run fs st n on alive = absurd (alive refl)

module _ {S : Type 0} (meaning : S → Meaning) (trees : List Tree) (tree budget taken : ℕ) (c : Config S) where
  -- the part alone with the whole budget ends as the configuration did, and leaves what there is
  abbrev pub IsOverAlone : Type 0
  IsOverAlone = (v : Outside) → Admits meaning c v → KnowsView v.texts v.view
      → alone trees tree c.owner (held_in v.texts v.view) (beside (arena_in c.heap.texts c.heap.arena) v.more) budget
      ≡ (ending_in c.heap.texts c.state, state_in meaning c.heap.texts v c)

  end_is_alone : IsTrying trees tree budget taken (meant meaning c) → tells meaning c ≡ true → ¬ (c.state ≡ states.Running)
      → ¬ (c.state ≡ states.StepsSpent) → IsOverAlone
  end_is_alone try tells_is on alive v a k =
      let t = c.heap.texts in
      let all : taken + c.left ≡ budget = try.budget_is in
      ap (alone trees tree c.owner (held_in v.texts v.view) (beside (arena_in t c.heap.arena) v.more)) (sym all)
      ∙ try.alone v a k c.left
      ∙ ap (λ b. seen b (rest_by t c.state (run_in meaning t c) (frames_in meaning t c) (state_in meaning t v c) c.left)) tells_is
      ∙ by_state t c.state (run_in meaning t c) (frames_in meaning t c) (state_in meaning t v c) c.left on alive

  spent_is_alone : IsTrying trees tree budget taken (meant meaning (going c)) → c.state ≡ states.StepsSpent → c.left ≡ 0 → IsDue meaning (going c)
      → IsOverAlone
  spent_is_alone try is none due v a k =
      let t = c.heap.texts in
      let all : taken + c.left ≡ budget = try.budget_is in
      let no_more : budget ≡ taken + 0 = omega (arith, all, none) in
      ap (alone trees tree c.owner (held_in v.texts v.view) (beside (arena_in t c.heap.arena) v.more)) no_more
      ∙ try.alone v a k 0
      ∙ due v
      ∙ ap (λ (s : State). (ending_in t s, state_in meaning t v c)) (sym is)

-- ---- a walk

module _ {S : Type 0} (meaning : S → Meaning) where
  -- what is kept doesn't look at the state
  pub stays_going : (old new : Config S) → Stays meaning old new → Stays meaning old (going new)
  stays_going old new h = record {
    units = h.units;
    global = h.global;
    world = h.world;
    owner = h.owner;
    apart = h.apart;
    texts = h.texts;
    objects =
        h.objects;
    made = h.made;
    own = h.own;
    around = h.around;
    narrows = h.narrows;
  }

  -- a walk that paused
  pub paused_alone : (trees : List Tree) (tree budget taken steps took : ℕ) (old new : Config S) → Sound meaning old
      → IsTrying trees tree budget taken (meant meaning old) → Walks meaning steps took old new → RestIs meaning old new (λ n. took + n)
      → IsTrying trees tree budget (taken + took) (meant meaning new)
  paused_alone trees tree budget taken steps took old new sound try w kept =
      walk_keeps_alone meaning trees tree budget taken took old new sound try w.stays w.knows w.left kept

  by_stops : (trees : List Tree) (tree budget taken steps took : ℕ) (old new : Config S) → Sound meaning old
      → IsTrying trees tree budget taken (meant meaning old) → Walks meaning steps took old new → tells meaning new ≡ true → ¬ (new.state ≡ states.Running)
      → Stops meaning steps took old new → IsOverAlone meaning trees tree budget taken new
  by_stops trees tree budget taken steps took old new sound try w tells_is on (ended done alive kept) =
      λ v a k. end_is_alone meaning trees tree budget (taken + took) new
      (paused_alone trees tree budget taken steps took old new sound try w kept) tells_is done alive v a k
  by_stops trees tree budget taken steps took old new sound try w tells_is on (paused run all some due kept) = absurd (on run)
  by_stops trees tree budget taken steps took old new sound try w tells_is on (spent is none due kept) =
      let going_on = walk_keeps_alone meaning trees tree budget taken took old (going new) sound try (stays_going old new w.stays)
      (λ v a k. w.knows v a k) w.left kept in
      λ v a k. spent_is_alone meaning trees tree budget (taken + took) new going_on is none due v a k

  -- a walk behind which the run goes on no more
  pub over_alone : (trees : List Tree) (tree budget taken steps took : ℕ) (old new : Config S) → Sound meaning old
      → IsTrying trees tree budget taken (meant meaning old) → Walks meaning steps took old new → tells meaning new ≡ true → ¬ (new.state ≡ states.Running)
      → IsOverAlone meaning trees tree budget taken new
  over_alone trees tree budget taken steps took old new sound try w tells_is on =
      by_stops trees tree budget taken steps took old new sound try w tells_is on w.stops

  -- a walk that goes on paused: it has steps left
  pub goes_on_paused : (steps took : ℕ) (old new : Config S) → Walks meaning steps took old new → new.state ≡ states.Running
      → RestIs meaning old new (λ n. took + n) × ((took ≡ steps) × (0 < new.left))
  goes_on_paused steps took old new w run = by w.stops
    where
      by : Stops meaning steps took old new → RestIs meaning old new (λ n. took + n) × ((took ≡ steps) × (0 < new.left))
      by (ended done alive kept) = absurd (done run)
      by (paused on all some due kept) = (kept, (all, some))
      by (spent is none due kept) = let h : states.StepsSpent ≡ states.Running = sym is ∙ run in cc
