-- A play before its first part is sound, and is the library's run.
use Rattle.std.proofs.Common.{◌≡◌, ℕ, ◌+◌, ◌<◌, Bool, not, List, [], ◌∷◌, ◌++◌, Option, None, Some, Vec, Global, length, get_or, take, refl, sym, ap, ◌∙◌, subst, arith, append_assoc, append-nil, IsTrue}
use Rattle.std.specs.Prelude.{All, IfSome, map, is_some, slice_get, unwrap_or}
use Rattle.std.specs.Option.{option_map}
use Rattle.std.proofs.lemmas.List.{map_more, map-append}
use Rattle.std.proofs.lemmas.List.Elements.{All-nil, All-cons, All-same, All-append, All-get_or}
use Rattle.wjs_base.specs.declared.ids.TextId.{TextId}
use Rattle.wjs_base.specs.declared.ids.WorldId.{WorldId}
use Rattle.wjs_base.specs.Text.{Table, Has, IsTable, Grows}
use Rattle.wjs_base.proofs.TextLaws.{Grows-refl}
use Rattle.wjs_base.proofs.Options.{some_map}
use Rattle.wjs_store.specs.Meaning.{Meaning, View, PlainAct, PlainReply, worlds}
use Rattle.wjs_by_content.specs.Carried.{tell}
use Rattle.wjs_by_content.specs.Plans.{Told}
use Rattle.wjs_by_content.specs.Tables.{text_in, arena_in}
use Rattle.wjs_by_content.specs.Worlds.{told_in, told_by}
use Rattle.wjs_heap.specs.declared.heap.Heap.{Heap}
use Rattle.wjs_heap.specs.Means.{parts}
use Rattle.wjs_meaning.specs.Trees.{Tree}
use Rattle.wjs_meaning.specs.Deeds.{St}
use Rattle.wjs_meaning.specs.declared.builtin.Builtin.{Builtin}
use Rattle.wjs_meaning.specs.declared.builtin.Builtin.TheVariants as initial
use Rattle.wjs_store.specs.State.{first_world}
use Rattle.wjs_meaning.specs.Builtins.{builtin, global_object, object_prototype, first_world_object}
use Rattle.wjs_meaning.specs.Programs.{Done, declared_names}
use Rattle.wjs_meaning.specs.Start.{start, first_arena, properties}
use Rattle.wjs_model.specs.declared.config.Config.{Config}
use Rattle.wjs_model.specs.declared.config.State.{State}
use Rattle.wjs_model.specs.declared.config.State.TheVariants as states
use Rattle.wjs_model.specs.declared.frame.Activation.{Activation as Frame}
use Rattle.wjs_model.specs.declared.loaded.LoadedProgram.{LoadedProgram as Program}
use Rattle.wjs_model.specs.Outside.{alone}
use Rattle.wjs_model.proofs.Beside.{beside_nothing}
use Rattle.wjs_model.specs.Configurations.{run_in, frames_in, state_in, rest_by, rest, seen, after_done}
use Rattle.wjs_model.specs.Contents.{Run, frame_in}
use Rattle.wjs_model.specs.Soundness.{HasObject, HasThrown, HasWorld, IsStacked, Base, Sound}
use Rattle.wjs_model.specs.Texts.{KnowsUnit, PlacesUnit}
use Rattle.wjs_model.specs.Units.{unit_in}
use Rattle.wjs_model.proofs.Placed.{placed_stay}
use Rattle.wjs_heap_steps.proofs.Staying.{units_stay}
use Rattle.wjs_start.proofs.NoneApart.{all_near, objects_near, slots_near}
use Rattle.wjs_start.proofs.Readiness.{code_stands, silent_told, told_behind, world_stands, worlds_by_owner}
use Rattle.wjs_start.specs.Declaring.{declared_by_tree}
use Rattle.wjs_start.specs.First.{IsNew, IsFirst, writes_told}
use Rattle.wjs_start.specs.Starting.{body_of, begins, frame_at}
use Rattle.wjs_alone.specs.Opening.{part_names, opening, trees_of}
use Rattle.wjs_parts.specs.Opening.{units_of, frames_of, state_of, StartsParts}
use Rattle.wjs_parts.proofs.Entry.{body_runs}

-- ---- names

names_append : (xs : List Tree) (x : Tree) → part_names (xs ++ x ∷ []) ≡ part_names xs ++ declared_names (x ∷ []) 0
names_append [] x = append-nil (declared_names (x ∷ []) 0)
names_append (y ∷ ys) x = ap (λ l. declared_names (y ∷ []) 0 ++ l) (names_append ys x) ∙ sym (append_assoc (declared_names (y ∷ []) 0) (part_names ys) (declared_names (x ∷ []) 0))

-- one part more
pub names_on : (t : Table) (units : List Program) (i : ℕ) (u : Program) (names new : List TextId) → i < length units → u ≡ get_or units i u → map (text_in t) new ≡ map (text_in t) names ++ declared_names (unit_in t u ∷ []) 0 → map (text_in t) names ≡ part_names (map (unit_in t) (take i units)) → map (text_in t) new ≡ part_names (map (unit_in t) (take (i + 1) units))
names_on t units i u names new lt is e h =
    e
    ∙ ap (λ l. l ++ declared_names (unit_in t u ∷ []) 0) h
    ∙ sym (names_append (map (unit_in t) (take i units)) (unit_in t u))
    ∙ ap (λ (x : Program). part_names (map (unit_in t) (take i units) ++ unit_in t x ∷ [])) is
    ∙ sym (ap part_names (map_more (unit_in t) units i u lt))

-- ---- programs

trees_are : (t : Table) (library : Option Program) (ps : List Program) → map (unit_in t) (units_of library ps) ≡ trees_of (option_map (unit_in t) library) (map (unit_in t) ps)
trees_are t None ps = refl
trees_are t (Some library) ps = refl

units_all : (P : Program → Type 0) (library : Option Program) (ps : List Program) → IfSome library P → All P ps → All P (units_of library ps)
units_all P None ps h k = k
units_all P (Some library) ps h k = All-cons P library ps h k

-- ---- the run

-- without a library it is over
over_at_once : (t : Table) (writes : List Told) (st : St) (before : Option (List (PlainAct × PlainReply))) → IfSome before (λ done. done ≡ []) → (told : Option (List Told)) → told ≡ tell writes (told_by t before) → (tells : Bool) → tells ≡ is_some before
    → seen tells (Done, record st { done = unwrap_or told [] }) ≡ seen (is_some before) (after_done writes (Done, record st { done = [] }))
over_at_once t writes st None silent told e tells f = λ i. seen (f i) (Done, record st { done = unwrap_or (e i) [] })
over_at_once t writes st (Some done) silent told e tells f =
    (λ i. seen (f i) (Done, record st { done = unwrap_or ((e ∙ silent_told t writes done silent) i) [] }))
    ∙ ap (λ (l : List Told). (Done, record st { done = l })) (sym (append-nil writes))

-- ---- the configuration

module _ {S : Type 0} (meaning : S → Meaning) (texts : Table) (before : Meaning) (library : Option Program) (ps : List Program) (ids : List TextId)
    (h : Heap S) (units : Vec Program Global) (frames : List Frame) (apart pending : Vec ℕ Global) (budget : ℕ) (state : State)
    (is : IsFirst texts before ids (parts meaning h)) (units_are : units.items ≡ units_of library ps) (frames_there : frames ≡ frames_of library) (state_there : state ≡ state_of library) (none_kept : apart.items ≡ []) (none_pending : pending.items ≡ []) (new : IsNew before)
    (names : (t : Table) → IsTable t → All (KnowsUnit t) ps → map (text_in t) ids ≡ part_names (map (unit_in t) ps)) (library_known : IfSome library (KnowsUnit texts)) (parts_known : All (KnowsUnit texts) ps) (library_placed : IfSome library (PlacesUnit texts)) (parts_placed : All (PlacesUnit texts) ps) where
  abbrev c : Config S
  c = record { heap = h; units = units; frames = frames; global = global_object; world = first_world; owner = 0; apart = apart; pending = pending; left = budget; state = state }

  abbrev t : Table
  t = h.texts

  units_known : All (KnowsUnit texts) (units_of library ps)
  units_known = units_all (KnowsUnit texts) library ps library_known parts_known

  all_known : All (KnowsUnit t) (units_of library ps)
  all_known = units_stay texts t is.grows (units_of library ps) units_known

  all_placed : All (PlacesUnit t) (units_of library ps)
  all_placed = placed_stay texts t is.grows (units_of library ps) units_known (units_all (PlacesUnit texts) library ps library_placed parts_placed)

  abbrev lib : Option Tree
  lib = option_map (unit_in t) library

  abbrev trees : List Tree
  trees = map (unit_in t) ps

  names_so : map (text_in t) ids ≡ part_names trees
  names_so = names t is.heap.table (units_stay texts t is.grows ps parts_known)

  abbrev run_by : List Tree → Run
  run_by l = record { trees = l; global = global_object; owner = 0 }

  run_so : run_in meaning t c ≡ run_by (trees_of lib trees)
  run_so = ap run_by (ap (map (unit_in t)) units_are ∙ trees_are t library ps)

  state_so : (u : Table) → Grows t u → (v : View) → IsTrue ((meaning h.store).admits v) → state_in meaning t (alone v u) c ≡ record (start (part_names trees)) { done = unwrap_or (told_by u (meaning h.store).told) [] }
  state_so u g v ok =
      let full = is.slots u g v ok in
      let arena = beside_nothing (arena_in t h.arena) ∙ is.arena t (Grows-refl t) ∙ ap first_arena names_so in
      λ i. record { full = full i; arena = arena i; out = none_pending i; done = unwrap_or (told_by u (meaning h.store).told) [] }

  module _ (u : Table) (g : Grows t u) (v : View) (ok : IsTrue ((meaning h.store).admits v)) where
    told_so : told_by u (meaning h.store).told ≡ tell (writes_told properties) (told_by u before.told)
    told_so = is.told u g v ok

    tells_so : is_some (meaning h.store).told ≡ is_some before.told
    tells_so =
        sym (some_map (map (told_in u)) (meaning h.store).told)
        ∙ ap is_some told_so
        ∙ some_map (λ (done : List Told). done ++ writes_told properties) (told_by u before.told)
        ∙ some_map (map (told_in u)) before.told

    by_library : (first : Option Program) → library ≡ first → (n : ℕ) → rest meaning t (alone v u) c n ≡ seen (is_some before.told) (after_done (writes_told properties) (opening (option_map (unit_in t) first) trees n))
    by_library None e n =
        (λ i. seen (is_some (meaning h.store).told) (rest_by t ((state_there ∙ ap state_of e) i) (run_in meaning t c) (frames_in meaning t c) (state_so u g v ok i) n))
        ∙ over_at_once u (writes_told properties) (start (part_names trees)) before.told new.silent (told_by u (meaning h.store).told) told_so (is_some (meaning h.store).told) tells_so
    by_library (Some first) e n =
        let run = run_by (unit_in t first ∷ trees) in
        let same : run_in meaning t c ≡ run = run_so ∙ ap (λ (o : Option Program). run_by (trees_of (option_map (unit_in t) o) trees)) e in
        let framed : frames_in meaning t c ≡ frame_in t (frame_at 0 (body_of first) begins) ∷ [] = ap (map (frame_in t)) (frames_there ∙ ap frames_of e) in
        (λ i. seen (is_some (meaning h.store).told) (rest_by t ((state_there ∙ ap state_of e) i) (same i) (framed i) (state_so u g v ok i) n))
        ∙ told_behind u run (frame_in t (frame_at 0 (body_of first) begins) ∷ []) (writes_told properties) (start (part_names trees)) n before.told new.silent (told_by u (meaning h.store).told) told_so (is_some (meaning h.store).told) tells_so
        ∙ ap (λ r. seen (is_some before.told) (after_done (writes_told properties) r)) (body_runs (unit_in t first ∷ trees) 0 first_world global_object 0 (start (part_names trees)) n)

  pub starts_so : StartsParts meaning texts before library ps budget c
  starts_so = record {
    left = refl;
    state = state_there;
    frames = frames_there;
    world = refl;
    owner = refl;
    global = refl;
    apart = none_kept;
    units = units_are;
    state_is = state_so;
    told = is.told;
    run_is = λ u g v ok n. by_library u g v ok library refl n;
    grows = is.grows;
    narrows = is.narrows;
    own = is.own;
    around = is.around;
    spent = is.spent;
  }

  builtin_there : (k : Builtin) → HasObject c (builtin k)
  builtin_there k = (is.builtins k, all_near apart.items none_kept (builtin k))

  due_there : (first : Program) → library ≡ Some first → IsStacked meaning c (frame_at 0 (body_of first) begins)
  due_there first e = record {
    there = record {
      scope = builtin_there initial.Global;
      this = builtin_there initial.Global;
      world = is.first;
      held = tt;
      stands = record {
        node = record { unit = first; found = found; arguments = None; scopes = []; around = ([], (refl, refl)); outwards = tt };
        shown = (first_world_object, is.shown);
      };
    };
    phase = tt;
  }
    where
      found : slice_get units.items 0 ≡ Some first
      found = ap (λ (us : List Program). slice_get us 0) (units_are ∙ ap (λ (o : Option Program). units_of o ps) e)

  all_there : (first : Option Program) → library ≡ first → All (IsStacked meaning c) (frames_of first)
  all_there None e = All-nil (IsStacked meaning c)
  all_there (Some first) e = All-cons (IsStacked meaning c) (frame_at 0 (body_of first) begins) [] (due_there first e) (All-nil (IsStacked meaning c))

  some_frame : (first : Option Program) → state_of first ≡ states.Running → frames_of first ≡ [] → ⊥
  some_frame None e f = cc
  some_frame (Some first) e f = cc

  base_so : Base meaning c
  base_so = record {
    heap = is.heap;
    works = ap not is.spent ∙ new.works;
    global = builtin_there initial.Global;
    world = is.first;
    builtins = builtin_there;
    units = subst (All (KnowsUnit t)) (sym units_are) all_known;
    places = subst (All (PlacesUnit t)) (sym units_are) all_placed;
    functions = λ o e q. code_stands units.items h.arena (e.object).code (e.object).scope (is.codes o e q);
    worlds_own = λ w there. ap (λ (x : WorldId). x.owner) (is.no_other w there);
    worlds_by = λ o e w q r. worlds_by_owner texts before ids (parts meaning h) is o w (world_stands h.arena o e w q r);
    own_worlds = λ o e w q r s. subst (HasWorld meaning c) (sym (is.own_worlds o w (world_stands h.arena o e w q r))) is.first;
    own = all_near apart.items none_kept object_prototype;
    near_objects = λ o e q n. objects_near apart.items none_kept e.object;
    near_slots = slots_near apart.items none_kept (worlds (meaning h.store));
    frames = subst (All (IsStacked meaning c)) (sym frames_there) (all_there library refl);
    marks = is.marks;
    told = is.tells;
  }

  thrown_none : (first : Option Program) → HasThrown c (state_of first)
  thrown_none None = tt
  thrown_none (Some first) = tt

  pub sound_so : Sound meaning c
  sound_so = record { base = base_so; thrown = subst (HasThrown c) (sym state_there) (thrown_none library); running = λ e f. some_frame library (sym state_there ∙ e) (sym frames_there ∙ f) }

-- these are the names that the parts declare
abbrev pub Named : List TextId → List Program → Type 0
Named ids ps = (t : Table) → IsTable t → All (KnowsUnit t) ps → map (text_in t) ids ≡ part_names (map (unit_in t) ps)

-- the same names as a slice
pub names_sliced : (ps : List Program) (ids slice : List TextId) → slice ≡ ids → Named ids ps → Named slice ps
names_sliced ps ids slice e f t table known = ap (map (text_in t)) e ∙ f t table known

-- what holds of all programs holds of the one at a place
pub all_at : (P : Program → Type 0) (ps : List Program) (i : ℕ) (u : Program) → i < length ps → u ≡ get_or ps i u → All P ps → P u
all_at P ps i u lt is all = subst P (sym is) (All-get_or P ps i u lt all)

-- names behind names
pub names_behind : (t : Table) (u : Program) (names more slice all : List TextId) → all ≡ names ++ slice → slice ≡ more → map (text_in t) more ≡ declared_by_tree (unit_in t u) → map (text_in t) all ≡ map (text_in t) names ++ declared_names (unit_in t u ∷ []) 0
names_behind t u names more slice all e s h = ap (map (text_in t)) e ∙ map-append (text_in t) names slice ∙ ap (λ l. map (text_in t) names ++ l) (ap (map (text_in t)) s ∙ h)

pub found_behind : (t : Table) (names more slice all : List TextId) → all ≡ names ++ slice → slice ≡ more → All (Has t) names → All (Has t) more → All (Has t) all
found_behind t names more slice all e s h k = All-same (Has t) all (names ++ slice) e (All-append (Has t) names slice h (All-same (Has t) slice more s k))
