-- The end of a try whose reads hold is its part's run alone.
use Rattle.std.proofs.Common.{◌≡◌, ℕ, ◌≤◌, true, ◌||◌, List, [], ◌∷◌, Option, None, Some, is_some, refl, sym, ap, ◌∙◌, subst}
use Rattle.std.specs.Option.{option_map, option_map_or, option_and_then}
use Rattle.std.specs.FinMap as map
use Rattle.wjs_base.specs.declared.ids.ObjId.{ObjId}
use Rattle.wjs_base.specs.declared.ids.WorldId.{WorldId}
use Rattle.wjs_base.specs.declared.values.Slot.{Slot}
use Rattle.wjs_base.specs.declared.values.Value.{Value as Numbered}
use Rattle.wjs_base.specs.Order.{obj_cmp}
use Rattle.wjs_base.specs.Text.{Table, Grows}
use Rattle.wjs_base.specs.Unicode.{utf8_of}
use Rattle.wjs_base.proofs.TextLaws.{Grows-refl}
use Rattle.wjs_store.specs.Naming.{plain}
use Rattle.wjs_store.specs.State.{World, State, find_world, has_world, content_at}
use Rattle.wjs_store.specs.Meaning.{View, Worlds, worlds}
use Rattle.wjs_arena.specs.Entries.{others_of}
use Rattle.wjs_by_content.specs.Names.{content}
use Rattle.wjs_by_content.specs.Objects.{Entry}
use Rattle.wjs_by_content.specs.Renamed.{named_world}
use Rattle.wjs_by_content.specs.Tables.{value_in, arena_in}
use Rattle.wjs_by_content.specs.Telling.{names_of}
use Rattle.wjs_by_content.specs.Worlds.{worlds_in as named_worlds}
use Rattle.wjs_by_content.proofs.ArenaGrowth.{arena_grows}
use Rattle.wjs_by_content.proofs.Growth.{worlds_grow}
use Rattle.wjs_heap_steps.proofs.NearWorlds.{find_named}
use Rattle.wjs_heap.specs.Means.{parts}
use Rattle.wjs_meaning.specs.Trees.{Tree}
use Rattle.wjs_meaning.specs.Builtins.{global_object}
use Rattle.wjs_meaning.specs.Programs.{Done, shown_in}
use Rattle.wjs_model.specs.declared.config.Config.{Config}
use Rattle.wjs_model.specs.declared.config.State.TheVariants as states
use Rattle.wjs_model.specs.Configurations.{state_in}
use Rattle.wjs_model.specs.Outside.{Outside, Admits}
use Rattle.wjs_model.specs.Outside as outside
use Rattle.wjs_model.proofs.Beside.{beside_nothing}
use Rattle.wjs_frames.proofs.Growing.{arena_known}
use Rattle.wjs_parts.specs.Walking.{Walks}
use Rattle.wjs_reports.specs.Thrown.{ShowsIn}
use Rattle.wjs_session.specs.declared.session.Session.{Session}
use Rattle.wjs_session.specs.Session.{holding, world_at, first_copy, full_of, owned, passes}
use Rattle.wjs_session.specs.Stores.{worlds_in}
use Rattle.wjs_session.specs.Maps.{same_view}
use Rattle.wjs_session.proofs.EndLaws.{owned_same}
use Rattle.wjs_session.proofs.StoreLaws.{has_full}
use Rattle.wjs_session.proofs.Worlds.{first_there}
use Rattle.wjs_alone.specs.Alone.{Copy, world_of, alone, outcome_of, copy_in, copy_after, objects_after, printed}
use Rattle.wjs_alone.proofs.Objects.{left_out_lem}
use Rattle.wjs_tries.specs.declared.outcome.Outcome.TheVariants as told
use Rattle.wjs_tries.specs.declared.common.Common.{Common}
use Rattle.wjs_tries.specs.Meant.{session_meaning}
use Rattle.wjs_tries.specs.Views.{held_in, KnowsView}
use Rattle.wjs_tries.specs.Trying.{ending_in}
use Rattle.wjs_tries.specs.Turning.{Tells, IsLive, IsOver, AgreesNow, EndsAlone, first_in}
use Rattle.wjs_tries.proofs.OneWorld.{one_in, one_known}
use Rattle.wjs_tries.proofs.Owning.{others_in_same}
use Rattle.wjs_tries.proofs.Rests.{common_walked, shared_walked}
use Rattle.wjs_tries.proofs.Soundly.{view_known}
use Rattle.wjs_tries.proofs.Turned.{live, kept_now, number_is}
use Rattle.wjs_tries.proofs.Walked.{trees_stay, knows_still, over_alone}

-- ---- a walk behind which the try goes on no more

pub over_walked : (trees : List Tree) (tree budget drawn steps took : ℕ) (old new : Config Session) → IsLive session_meaning trees tree budget drawn old
    → Walks session_meaning steps took old new → ¬ (new.state ≡ states.Running) → IsOver session_meaning trees tree budget drawn new
over_walked trees tree budget drawn steps took old new l w over =
    let owner = w.stays.owner in
    record {
      sound = w.sound;
      over = over;
      trees_are = trees_stay session_meaning trees tree budget l.taken took old new l.sound l.trying w.stays w.knows;
      global = w.stays.global ∙ l.trying.global;
      world = w.stays.world ∙ l.trying.world ∙ ap world_of (sym owner);
      knows = knows_still session_meaning trees tree budget l.taken took old new l.sound l.trying w.stays w.knows;
      alone = over_alone session_meaning trees tree budget l.taken steps took old new l.sound l.trying w refl over;
      number = number_is new w.sound.base;
      some = subst (λ k. 1 ≤ k) (sym owner) l.some;
      owner = subst (λ k. k ≤ drawn) (sym owner) l.owner;
      common = common_walked trees tree budget drawn steps took old new l w;
      shared = shared_walked trees tree budget drawn steps took old new l w;
    }

-- ---- what a world holds, by content

pub copy_of_world : (t : Table) (H : Worlds) (i : WorldId) (m : View) → has_world H i ≡ true → ((s : Slot) → map.get m s ≡ content_at H i s)
    → held_in t m ≡ copy_in (named_worlds t H) i
copy_of_world t H i m there same = by (find_world H i) there same
    ∙ sym (ap (λ (r : Option (World content)). option_map_or (λ (x : World content). x.copy) r map.empty) (find_named t H i))
  where
    by : (r : Option (World plain)) → is_some r ≡ true → ((s : Slot) → map.get m s ≡ option_and_then (λ (y : World plain). map.get y.copy s) r)
        → held_in t m ≡ option_map_or (λ (x : World content). x.copy) (option_map (named_world (names_of t)) r) map.empty
    by None h f = absurd (cc)
    by (Some y) h f = ap (held_in t) (same_view m y.copy f)

-- what the newest world holds
abbrev newest_copy : State content → Copy
newest_copy [] = map.empty
newest_copy (x ∷ older) = x.copy

-- a view that a table knows is the same by a later one
pub held_grows : (old new : Table) (v : View) → Grows old new → KnowsView old v → held_in new v ≡ held_in old v
held_grows old new v g k =
    let i = world_of 0 in
    let same = sym (one_in new i v) ∙ (worlds_grow old new g (holding i v ∷ []) (one_known old i v k)).1 ∙ one_in old i v in
    ap newest_copy same

-- ---- where the reads hold

module _ (trees : List Tree) (tree budget drawn : ℕ) (c : Config Session) (is : IsOver session_meaning trees tree budget drawn c)
    (agrees : AgreesNow session_meaning c) where
  abbrev t : Table
  t = c.heap.texts

  abbrev F : Worlds
  F = worlds_in c.heap.store.shared

  -- what the first world holds is the try's own view
  own_is : owned (world_at F c.heap.store.world) (first_copy F) ≡ first_copy F
  own_is = owned_same (world_at F c.heap.store.world) (first_copy F) agrees

  abbrev v : Outside
  v = outside.alone (first_copy F) t

  first_known : KnowsView t (first_copy F)
  first_known = view_known t c.heap.arena (first_copy F) is.common.table is.common.slots

  no_entry : (o : ObjId) (e : Entry) → map.get (map.empty {X = Entry} {R = obj_cmp}) o ≡ Some e → ⊥
  no_entry o e at = let h : None ≡ Some e = sym (map.get-empty obj_cmp o) ∙ at in cc

  admitted : Admits session_meaning c v
  admitted = record {
    view = ap (λ b. b || passes (world_at F c.heap.store.world) (first_copy F)) (live c is.sound.base) ∙ agrees;
    further = record { apart = λ o e at. absurd (no_entry o e at); worlds = λ o e w at h. absurd (no_entry o e at) };
    texts = Grows-refl t;
  }

  -- the part's run alone from there
  pub run_is : alone trees tree c.owner (held_in t (first_copy F)) (arena_in t c.heap.arena) budget ≡ (ending_in t c.state, state_in session_meaning t v c)
  run_is = ap (λ m. alone trees tree c.owner (held_in t (first_copy F)) m budget) (sym (beside_nothing (arena_in t c.heap.arena)))
      ∙ is.alone v admitted first_known

  -- by a later table
  later_run : (u : Table) → Grows t u → alone trees tree c.owner (held_in u (first_copy F)) (arena_in u c.heap.arena) budget
      ≡ (ending_in t c.state, state_in session_meaning t v c)
  later_run u g =
      let held = held_grows t u (first_copy F) g first_known in
      let arena = (arena_grows t u g c.heap.arena (arena_known (parts session_meaning c.heap) is.sound.base.heap)).1 in
      (λ i. alone trees tree c.owner (held i) (arena i) budget) ∙ run_is

  objects_left : (state_in session_meaning t v c).arena ≡ arena_in t c.heap.arena
  objects_left = beside_nothing (arena_in t c.heap.arena)

  -- the worlds that it leaves are the session's under its own view
  worlds_left : (state_in session_meaning t v c).full ≡ named_worlds t (worlds (session_meaning c.heap.store))
  worlds_left = ap (λ m. named_worlds t (full_of (world_at F c.heap.store.world) (worlds_in c.heap.store.inner) m)) (sym own_is)

  there_world : has_world (worlds (session_meaning c.heap.store)) c.heap.store.world ≡ true
  there_world =
      let k = kept_now c is.sound.base in
      has_full (world_at F c.heap.store.world) (worlds_in c.heap.store.inner) (owned (world_at F c.heap.store.world) (first_copy F)) c.heap.store.world
      ∙ first_there (worlds_in c.heap.store.inner) c.heap.store.world k.inner k.first

  -- ---- a normal end, which was committed

  module _ (done : c.state ≡ states.Done) (common : Common) (texts : common.texts ≡ t) (arena : common.arena ≡ c.heap.arena)
      (holds : (s : Slot) → map.get (first_copy (worlds_in common.shared)) s ≡ content_at (worlds (session_meaning c.heap.store)) c.heap.store.world s) where
    done_run : alone trees tree c.owner (held_in common.texts (first_copy F)) (arena_in common.texts common.arena) budget
        ≡ (Done, state_in session_meaning t v c)
    done_run = (λ i. alone trees tree c.owner (held_in (texts i) (first_copy F)) (arena_in (texts i) (arena i)) budget) ∙ run_is
        ∙ ap (λ s. (ending_in t s, state_in session_meaning t v c)) done

    left_in_first : first_in common ≡ copy_in (state_in session_meaning t v c).full (world_of c.owner)
    left_in_first =
        (λ i. held_in (texts i) (first_copy (worlds_in common.shared)))
        ∙ copy_of_world t (worlds (session_meaning c.heap.store)) c.heap.store.world (first_copy (worlds_in common.shared)) there_world holds
        ∙ (λ i. copy_in (sym worlds_left i) (is.number i))

    pub committed_alone : EndsAlone session_meaning trees tree budget drawn c.owner (held_in common.texts (first_copy F)) common told.Committed c.pending.items
    committed_alone = record {
      tells = subst (λ r. Tells told.Committed (outcome_of c.owner r)) (sym done_run) tt;
      prints = ap printed (sym done_run);
      leaves = left_in_first ∙ ap (copy_after c.owner (held_in common.texts (first_copy F))) (sym done_run);
      objects = ap (objects_after (arena_in common.texts common.arena)) done_run ∙ objects_left ∙ (λ i. arena_in (sym texts i) (sym arena i));
    }

  -- ---- another end, of which nothing is kept

  module _ (common : Common) (grows : Grows t common.texts) (arena : common.arena ≡ others_of c.heap.arena c.owner)
      (same : first_copy (worlds_in common.shared) ≡ first_copy F) where
    other_run : alone trees tree c.owner (held_in common.texts (first_copy F)) (arena_in common.texts common.arena) budget
        ≡ (ending_in t c.state, state_in session_meaning t v c)
    other_run =
        ap (λ m. alone trees tree c.owner (held_in common.texts (first_copy F)) (arena_in common.texts m) budget) arena
        ∙ left_out_lem trees tree c.owner (held_in common.texts (first_copy F)) (arena_in common.texts (others_of c.heap.arena c.owner))
        (arena_in common.texts c.heap.arena) budget (others_in_same c.heap.arena c.owner common.texts)
        ∙ later_run common.texts grows

    pub spent_alone : c.state ≡ states.StepsSpent → EndsAlone session_meaning trees tree budget drawn c.owner
        (held_in common.texts (first_copy F)) common told.Spent []
    spent_alone spent =
        let run = other_run ∙ ap (λ s. (ending_in t s, state_in session_meaning t v c)) spent in
        record {
          tells = subst (λ r. Tells told.Spent (outcome_of c.owner r)) (sym run) tt;
          prints = ap printed (sym run);
          leaves = ap (held_in common.texts) same ∙ ap (copy_after c.owner (held_in common.texts (first_copy F))) (sym run);
          objects = ap (objects_after (arena_in common.texts common.arena)) run;
        }

    -- the text is shown in the try's own first world, as its run left it
    pub threw_alone : (value : Numbered) (bytes : List ℕ) → c.state ≡ states.Threw value → ShowsIn session_meaning c value bytes
        → EndsAlone session_meaning trees tree budget drawn c.owner (held_in common.texts (first_copy F)) common (told.Threw bytes) []
    threw_alone value bytes threw shows =
        let run = other_run ∙ ap (λ s. (ending_in t s, state_in session_meaning t v c)) threw in
        let st = state_in session_meaning t v c in
        let shown : bytes ≡ utf8_of (shown_in (world_of c.owner) global_object c.owner (value_in t value) st) =
        shows st worlds_left objects_left ∙ (λ i. utf8_of (shown_in (is.world i) (is.global i) c.owner (value_in t value) st)) in
        record {
          tells = subst (λ r. Tells (told.Threw bytes) (outcome_of c.owner r)) (sym run) shown;
          prints = ap printed (sym run);
          leaves = ap (held_in common.texts) same ∙ ap (copy_after c.owner (held_in common.texts (first_copy F))) (sym run);
          objects = ap (objects_after (arena_in common.texts common.arena)) run;
        }
