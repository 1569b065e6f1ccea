-- What there is behind the library: the opening by content, known, and owner 0's.
use Rattle.std.proofs.Common.{◌≡◌, ℕ, ◌+◌, Bool, true, false, cond, List, [], ◌∷◌, ◌++◌, fold, Option, None, Some, is_some, refl, sym, ap, ◌∙◌, subst, arith}
use Rattle.std.proofs.Common.{IsTrue}
use Rattle.std.specs.Prelude.{All, IfSome, map as each}
use Rattle.std.specs.Option.{option_map}
use Rattle.std.specs.Ordering.{eq_by_cmp}
use Rattle.std.specs.FinMap as map
use Rattle.std.proofs.lemmas.Bool.{false≢true}
use Rattle.wjs_base.specs.declared.ids.ObjId.{ObjId}
use Rattle.wjs_base.specs.declared.ids.WorldId.{WorldId}
use Rattle.wjs_base.specs.Order.{obj_cmp, obj_total}
use Rattle.wjs_base.specs.Text.{Table, Grows}
use Rattle.wjs_base.proofs.TextLaws.{Grows-refl, Grows-trans}
use Rattle.wjs_base.proofs.Booleans.{not_true}
use Rattle.wjs_store.specs.Naming.{plain}
use Rattle.wjs_store.specs.State.{World, find_world, has_world, first_world}
use Rattle.wjs_store.specs.Shown.{first_of}
use Rattle.wjs_store.specs.Fixed.{fixed, fresh}
use Rattle.wjs_store.specs.Reached.{IsReached}
use Rattle.wjs_store.specs.Meaning.{Meaning, Worlds}
use Rattle.wjs_arena.specs.Entries.{Objects, Entry as Placed, has}
use Rattle.wjs_arena.proofs.Owners.{key_is}
use Rattle.wjs_by_content.specs.Objects.{Arena, Entry, Internals, next_number, entry_of, created}
use Rattle.wjs_by_content.specs.Tables.{arena_in}
use Rattle.wjs_by_content.specs.Values.{Text}
use Rattle.wjs_by_content.specs.Worlds.{worlds_in as named_worlds}
use Rattle.wjs_by_content.proofs.Growth.{worlds_grow}
use Rattle.wjs_meaning.specs.Deeds.{St}
use Rattle.wjs_meaning.specs.Programs.{Ending, StepsSpent}
use Rattle.wjs_meaning.specs.Start.{properties, first_objects as start_objects, native_objects, first_arena}
use Rattle.wjs_meaning.specs.Table.{natives, first_native}
use Rattle.wjs_meaning.specs.Trees.{Tree}
use Rattle.wjs_model.specs.declared.config.Config.{Config}
use Rattle.wjs_model.specs.declared.config.State.{State}
use Rattle.wjs_model.specs.declared.config.State.TheVariants as states
use Rattle.wjs_model.specs.declared.loaded.LoadedProgram.{LoadedProgram as Program}
use Rattle.wjs_model.specs.Contents.{Frame, Run}
use Rattle.wjs_model.specs.Configurations.{rest, rest_by, seen, after_done, run_in, frames_in, state_in}
use Rattle.wjs_model.specs.Outside.{Outside, Admits, Knows, beside}
use Rattle.wjs_model.specs.Outside as outside
use Rattle.wjs_model.specs.Soundness.{Base, Sound}
use Rattle.wjs_model.specs.Texts.{KnowsUnit}
use Rattle.wjs_model.specs.Units.{unit_in}
use Rattle.wjs_model.proofs.Beside.{beside_nothing, there_in}
use Rattle.wjs_frames.proofs.Growing.{left_alike}
use Rattle.wjs_frames.proofs.NodesGrow.{unit_grows}
use Rattle.wjs_frames.proofs.Lists.{each_alike}
use Rattle.wjs_overlay.specs.declared.overlay.Overlay.{Overlay}
use Rattle.wjs_parts.specs.Opening.{StartsParts, units_of}
use Rattle.wjs_parts.specs.Walking.{Stops, ended, paused, spent, Walks}
use Rattle.wjs_start.specs.First.{writes_told}
use Rattle.wjs_session.specs.Session.{first_copy}
use Rattle.wjs_session.specs.Stores.{worlds_in}
use Rattle.wjs_session.proofs.AnswerLaws.{overlay_reached}
use Rattle.wjs_session.proofs.Worlds.{first_there, first_content}
use Rattle.wjs_session.proofs.Leaving.{first_serial}
use Rattle.wjs_alone.specs.Alone.{copy_in}
use Rattle.wjs_alone.specs.Opening.{trees_of, part_names, opening}
use Rattle.wjs_tries.specs.Common.{IsCommon}
use Rattle.wjs_tries.specs.Trying.{ending_in}
use Rattle.wjs_activity.specs.Plays.{IsOpened, RanLibrary}
use Rattle.wjs_tries.proofs.Overs.{copy_of_world}

abbrev pub overlay_meaning : Overlay → Meaning
overlay_meaning s = fixed (worlds_in s) s.spent

-- ---- the first world

some_first : (F : Worlds) (w : WorldId) → has_world F w ≡ true → (i : WorldId) × (first_of F ≡ Some i)
unfolding find_world
some_first [] w h = absurd (false≢true h)
some_first (x ∷ F) w h = last x F
  where
    last : (y : World plain) (G : Worlds) → (i : WorldId) × (first_of (y ∷ G) ≡ Some i)
    last y [] = (y.id, refl)
    last y (z ∷ G) = last z G

-- ---- a configuration of owner 0 over a store of its own

module _ (c : Config Overlay) (base : Base overlay_meaning c) (owner : c.owner ≡ 0) (objects : (o : ObjId) → IsTrue (has c.heap.arena o) → o.owner ≡ 0) where
  abbrev F : Worlds
  F = worlds_in c.heap.store

  live : c.heap.store.spent ≡ false
  live = not_true c.heap.store.spent base.works

  reached : IsReached F
  reached = overlay_reached c.heap.store live

  first_is : first_of F ≡ Some first_world
  first_is =
      let w = some_first F c.world base.world in
      let there = first_there F w.0 reached w.1 in
      let number : w.0 ≡ first_world = λ k. record { owner = (base.worlds_own w.0 there ∙ owner) k; serial = first_serial F w.0 reached w.1 k } in
      w.1 ∙ ap Some number

  first_has : has_world F first_world ≡ true
  first_has = first_there F first_world reached first_is

  known_config : IsCommon c.heap.texts c.heap.arena c.units.items F 0
  known_config = record {
    reached = reached;
    first = first_is;
    table = base.heap.table;
    arena_is = base.heap.arena;
    objects = base.heap.objects;
    slots = λ s v at. base.heap.slots first_world s v (sym (first_content F first_world s first_is) ∙ at);
    builtins = λ k. (base.builtins k).0;
    units_known = base.units;
    units_placed = base.places;
    functions = base.functions;
    worlds_by = base.worlds_by;
    object_owners = λ o h. let is : o.owner ≡ 0 = objects o h in omega (arith, is);
    world_owners = λ w h. let is : w.owner ≡ 0 = base.worlds_own w h ∙ owner in omega (arith, is);
  }

-- ---- objects of the start

abbrev AllZero : Arena → Type 0
AllZero m = (o : ObjId) (e : Entry) → map.get m o ≡ Some e → o.owner ≡ 0

zero_made : (m : Arena) (x : Internals) → AllZero m → AllZero (created m 0 x)
zero_made m x h o e at = by (eq_by_cmp obj_cmp o (next_number m 0)) refl
  where
    found : (b : Bool) → eq_by_cmp obj_cmp o (next_number m 0) ≡ b → cond b (Some (entry_of m x)) (map.get m o) ≡ Some e
    found b is = sym (map.get-insert obj_total m (next_number m 0) (entry_of m x) o ∙ ap (λ t. cond t (Some (entry_of m x)) (map.get m o)) is) ∙ at

    by : (b : Bool) → eq_by_cmp obj_cmp o (next_number m 0) ≡ b → o.owner ≡ 0
    by true is = ap (λ (z : ObjId). z.owner) (key_is o (next_number m 0) is)
    by false is = h o e (found false is)

zero_all : (xs : List Internals) (m : Arena) → AllZero m → AllZero (fold (λ (arena : Arena) object. created arena 0 object) m xs)
zero_all [] m h = h
zero_all (x ∷ xs) m h = zero_all xs (created m 0 x) (zero_made m x h)

zero_none : AllZero map.empty
zero_none o e at = let h : None ≡ Some e = sym (map.get-empty {X = Entry} obj_cmp o) ∙ at in absurd (cc)

zero_first : (names : List Text) (o : ObjId) (e : Entry) → map.get (first_arena names) o ≡ Some e → o.owner ≡ 0
zero_first names = zero_all (start_objects names ++ native_objects first_native natives) map.empty zero_none

-- an object by number is one by content
zero_objects : (t : Table) (objects : Objects) (names : List Text) → arena_in t objects ≡ first_arena names → (o : ObjId) → IsTrue (has objects o) → o.owner ≡ 0
zero_objects t objects names same o h = by (map.get (first_arena names) o) refl
  where
    there : is_some (map.get (first_arena names) o) ≡ true
    there = ap (λ m. is_some (map.get m o)) (sym same) ∙ there_in t objects o h

    by : (r : Option Entry) → map.get (first_arena names) o ≡ r → o.owner ≡ 0
    by None e = absurd (false≢true (sym (ap is_some e) ∙ there))
    by (Some x) e = zero_first names o x e

-- ---- trees

module _ (old new : Table) (g : Grows old new) where
  library_grows : (library : Option Program) → IfSome library (KnowsUnit old) → option_map (unit_in new) library ≡ option_map (unit_in old) library
  library_grows None k = refl
  library_grows (Some u) k = ap Some (unit_grows old new g u k)

  parts_grow : (parts : List Program) → All (KnowsUnit old) parts → each (unit_in new) parts ≡ each (unit_in old) parts
  parts_grow parts k = each_alike (unit_in new) (unit_in old) (KnowsUnit old) (unit_grows old new g) parts k

trees_are_so : (t : Table) (library : Option Program) (parts : List Program)
    → each (unit_in t) (units_of library parts) ≡ trees_of (option_map (unit_in t) library) (each (unit_in t) parts)
trees_are_so t None parts = refl
trees_are_so t (Some u) parts = refl

-- ---- ends of a run by content

by_over : (t : Table) (s : State) (run : Run) (fs : List Frame) (st : St) (n : ℕ) → ¬ (s ≡ states.Running) → rest_by t s run fs st n ≡ (ending_in t s, st)
by_over t states.Running run fs st n on = absurd (on refl)
by_over t states.Done run fs st n on = refl
by_over t (states.Threw v) run fs st n on = refl
by_over t states.StepsSpent run fs st n on = refl

is_spent_end : (t : Table) (s : State) → ¬ (s ≡ states.Running) → ending_in t s ≡ StepsSpent → s ≡ states.StepsSpent
is_spent_end t states.Running on e = absurd (on refl)
is_spent_end t states.Done on e = absurd (cc)
is_spent_end t (states.Threw v) on e = absurd (cc)
is_spent_end t states.StepsSpent on e = refl

no_entry : (o : ObjId) (e : Entry) → map.get (map.empty {X = Entry} {R = obj_cmp}) o ≡ Some e → ⊥
no_entry o e at = let h : None ≡ Some e = sym (map.get-empty {X = Entry} obj_cmp o) ∙ at in cc

-- what is known of a configuration behind the library's run, by what it was at first
record Later (library : Option Program) (parts : List Program) (budget : ℕ) (old new : Config Overlay) : Type 0 where
  pub grows : Grows old.heap.texts new.heap.texts
  pub units : new.units ≡ old.units
  pub owner : new.owner ≡ 0
  pub base : Base overlay_meaning new
  pub made : (o : ObjId) → IsTrue (has new.heap.arena o) → o.owner ≡ 0
  pub over : ¬ (new.state ≡ states.Running)
  pub ends : seen false (after_done (writes_told properties)
      (opening (option_map (unit_in old.heap.texts) library) (each (unit_in old.heap.texts) parts) budget))
      ≡ (ending_in new.heap.texts new.state, state_in overlay_meaning new.heap.texts (outside.alone map.empty new.heap.texts) new)

module _ (texts : Table) (library : Option Program) (parts : List Program) (budget : ℕ) (before : Meaning) (silent : before ≡ fixed fresh false)
    (old : Config Overlay)
    (st : StartsParts overlay_meaning texts before library parts budget old) (sound : Sound overlay_meaning old) where
  none_told : is_some before.told ≡ false
  none_told = ap (λ (m : Meaning). is_some m.told) silent

  zero_at_start : (o : ObjId) → IsTrue (has old.heap.arena o) → o.owner ≡ 0
  zero_at_start =
      let same = st.state_is old.heap.texts (Grows-refl old.heap.texts) map.empty refl in
      let arena = sym (beside_nothing (arena_in old.heap.texts old.heap.arena)) ∙ ap (λ (s : St). s.arena) same in
      zero_objects old.heap.texts old.heap.arena (part_names (each (unit_in old.heap.texts) parts)) arena

  -- what is left of the run at first
  run_first : (u : Table) → Grows old.heap.texts u → (n : ℕ)
      → rest overlay_meaning old.heap.texts (outside.alone map.empty u) old n
      ≡ seen false (after_done (writes_told properties) (opening (option_map (unit_in old.heap.texts) library) (each (unit_in old.heap.texts) parts) n))
  run_first u g n =
      st.run_is u g map.empty refl n
      ∙ ap (λ b. seen b (after_done (writes_told properties)
      (opening (option_map (unit_in old.heap.texts) library) (each (unit_in old.heap.texts) parts) n))) none_told

  -- where there was no library
  later_none : ¬ (old.state ≡ states.Running) → Later library parts budget old old
  later_none over = record {
    grows = Grows-refl old.heap.texts;
    units = refl;
    owner = st.owner;
    base = sound.base;
    made = zero_at_start;
    over = over;
    ends =
        sym (run_first old.heap.texts (Grows-refl old.heap.texts) budget)
        ∙ ap (seen false) (by_over old.heap.texts old.state (run_in overlay_meaning old.heap.texts old) (frames_in overlay_meaning old.heap.texts old)
        (state_in overlay_meaning old.heap.texts (outside.alone map.empty old.heap.texts) old) budget over);
  }

  -- behind a walk
  module _ (new : Config Overlay) (taken : ℕ) (w : Walks overlay_meaning budget taken old new) where
    abbrev t : Table
    t = new.heap.texts

    abbrev v : Outside
    v = outside.alone map.empty t

    made_walked : (o : ObjId) → IsTrue (has new.heap.arena o) → o.owner ≡ 0
    made_walked o h = by (map.get old.heap.arena o) refl
      where
        fresh_one : (r : Option Placed) → map.get new.heap.arena o ≡ r → map.get old.heap.arena o ≡ None → o.owner ≡ 0
        fresh_one None e none = absurd (false≢true (sym (ap is_some e) ∙ h))
        fresh_one (Some x) e none = w.stays.made o x none e ∙ st.owner

        by : (r : Option Placed) → map.get old.heap.arena o ≡ r → o.owner ≡ 0
        by None e = fresh_one (map.get new.heap.arena o) refl e
        by (Some x) e = zero_at_start o (ap is_some e)

    admitted : Admits overlay_meaning new v
    admitted = record {
      view = refl;
      further = record { apart = λ o e at. absurd (no_entry o e at); worlds = λ o e i at h. absurd (no_entry o e at) };
      texts = Grows-refl t;
    }

    knows : Knows overlay_meaning old v
    knows = (worlds_grow old.heap.texts t w.stays.texts (worlds_in old.heap.store) sound.base.marks).0

    -- by the later table
    run_now : (n : ℕ) → rest overlay_meaning t v old n ≡ seen false
        (after_done (writes_told properties) (opening (option_map (unit_in old.heap.texts) library) (each (unit_in old.heap.texts) parts) n))
    run_now n = (left_alike overlay_meaning t v old sound w.stays.texts).rest n ∙ run_first t w.stays.texts n

    ends_walked : Stops overlay_meaning budget taken old new → (¬ (new.state ≡ states.Running))
        × (seen false (after_done (writes_told properties) (opening (option_map (unit_in old.heap.texts) library)
        (each (unit_in old.heap.texts) parts) budget)) ≡ (ending_in t new.state, state_in overlay_meaning t v new))
    ends_walked (ended done alive kept) =
        let all : budget ≡ taken + new.left = sym st.left ∙ w.left in (
          done,
          sym (run_now budget)
              ∙ ap (rest overlay_meaning t v old) all
              ∙ kept v admitted knows new.left
              ∙ ap (seen false) (by_over t new.state (run_in overlay_meaning t new) (frames_in overlay_meaning t new)
              (state_in overlay_meaning t v new) new.left done),
        )
    ends_walked (paused on all some due kept) =
        let left : old.left ≡ taken + new.left = w.left in
        let whole : old.left ≡ budget = st.left in
        absurd (omega (arith, left, whole, all, some))
    ends_walked (spent is none due kept) =
        let left : old.left ≡ taken + new.left = w.left in
        let whole : old.left ≡ budget = st.left in
        let all : budget ≡ taken + 0 = omega (arith, left, whole, none) in (
          (λ on. let h : states.StepsSpent ≡ states.Running = sym is ∙ on in cc),
          sym (run_now budget)
              ∙ ap (rest overlay_meaning t v old) all
              ∙ kept v admitted knows 0
              ∙ due v
              ∙ ap (λ (s : State). (ending_in t s, state_in overlay_meaning t v new)) (sym is),
        )

    later_walked : Later library parts budget old new
    later_walked =
        let e = ends_walked w.stops in
        record {
          grows = w.stays.texts;
          units = w.stays.units;
          owner = w.stays.owner ∙ st.owner;
          base = w.sound.base;
          made = made_walked;
          over = e.0;
          ends = e.1;
        }

  later_is : (new : Config Overlay) → RanLibrary overlay_meaning budget old new → Later library parts budget old new
  later_is new ran = by old.state refl
    where
      none_at : ¬ (old.state ≡ states.Running) → Later library parts budget old new
      none_at over = subst (Later library parts budget old) (sym (ran.none over)) (later_none over)

      by : (s : State) → old.state ≡ s → Later library parts budget old new
      by states.Running e = let w = ran.some e in later_walked new w.0 w.1
      by states.Done e = none_at (λ h. let k : states.Done ≡ states.Running = sym e ∙ h in cc)
      by (states.Threw x) e = none_at (λ h. let k : states.Threw x ≡ states.Running = sym e ∙ h in cc)
      by states.StepsSpent e = none_at (λ h. let k : states.StepsSpent ≡ states.Running = sym e ∙ h in cc)

  -- ---- the opening by content

  module _ (known : IfSome library (KnowsUnit texts)) (parts_known : All (KnowsUnit texts) parts) (new : Config Overlay)
      (ran : RanLibrary overlay_meaning budget old new) where
    abbrev l : Option Tree
    l = option_map (unit_in texts) library

    abbrev ps : List Tree
    ps = each (unit_in texts) parts

    later : Later library parts budget old new
    later = later_is new ran

    opening_same : opening (option_map (unit_in old.heap.texts) library) (each (unit_in old.heap.texts) parts) budget ≡ opening l ps budget
    opening_same = λ i. opening (library_grows texts old.heap.texts st.grows library known i)
        (parts_grow texts old.heap.texts st.grows parts parts_known i) budget

    ends_so : seen false (after_done (writes_told properties) (opening l ps budget))
        ≡ (ending_in new.heap.texts new.state, state_in overlay_meaning new.heap.texts (outside.alone map.empty new.heap.texts) new)
    ends_so = ap (λ r. seen false (after_done (writes_told properties) r)) (sym opening_same) ∙ later.ends

    ending_so : (opening l ps budget).0 ≡ ending_in new.heap.texts new.state
    ending_so = ap (λ (r : Ending × St). r.0) ends_so

    arena_so : ((opening l ps budget).1).arena ≡ arena_in new.heap.texts new.heap.arena
    arena_so = ap (λ (r : Ending × St). (r.1).arena) ends_so ∙ beside_nothing (arena_in new.heap.texts new.heap.arena)

    full_so : ((opening l ps budget).1).full ≡ named_worlds new.heap.texts (worlds_in new.heap.store)
    full_so = ap (λ (r : Ending × St). (r.1).full) ends_so

    trees_so : each (unit_in new.heap.texts) new.units.items ≡ trees_of l ps
    trees_so =
        let g = Grows-trans texts old.heap.texts new.heap.texts st.grows later.grows in
        ap (λ us. each (unit_in new.heap.texts) us.items) later.units
        ∙ ap (each (unit_in new.heap.texts)) st.units
        ∙ trees_are_so new.heap.texts library parts
        ∙ (λ i. trees_of (library_grows texts new.heap.texts g library known i) (parts_grow texts new.heap.texts g parts parts_known i))

    pub opened_so : IsOpened l ps budget new
    opened_so = record {
      works = live new later.base later.owner later.made;
      trees_are = trees_so;
      common = known_config new later.base later.owner later.made;
      spends = λ e. ending_so ∙ ap (ending_in new.heap.texts) e;
      opens = λ apart e. apart (is_spent_end new.heap.texts new.state later.over (sym ending_so ∙ e));
      holds =
          copy_of_world new.heap.texts (worlds_in new.heap.store) first_world (first_copy (worlds_in new.heap.store))
          (first_has new later.base later.owner later.made)
          (λ s. first_content (worlds_in new.heap.store) first_world s (first_is new later.base later.owner later.made))
          ∙ ap (λ H. copy_in H first_world) (sym full_so);
      objects = sym arena_so;
    }
