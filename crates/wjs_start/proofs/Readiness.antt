-- A run before its first step is sound, and is the machine's.
use Rattle.std.proofs.Common.{◌≡◌, ℕ, ◌<◌, Bool, not, List, [], ◌∷◌, ◌++◌, Option, None, Some, Vec, Global, refl, sym, ap, ◌∙◌, subst, arith, IsTrue}
use Rattle.std.specs.Prelude.{All, IfSome, map, is_some, slice_get, unwrap_or}
use Rattle.std.specs.Option.{option_map, option_and_then}
use Rattle.std.specs.FinMap as finite
use Rattle.std.proofs.lemmas.List.{append-nil}
use Rattle.std.proofs.lemmas.List.Elements.{All-nil, All-cons, All-head}
use Rattle.wjs_base.specs.declared.ids.ObjId.{ObjId}
use Rattle.wjs_base.specs.declared.ids.TextId.{TextId}
use Rattle.wjs_base.specs.declared.ids.WorldId.{WorldId}
use Rattle.wjs_base.specs.Text.{Table, IsTable, Grows}
use Rattle.wjs_base.proofs.TextLaws.{Grows-refl}
use Rattle.wjs_base.proofs.Options.{some_map}
use Rattle.wjs_base.specs.declared.ids.NodeId.{NodeId}
use Rattle.wjs_store.specs.Meaning.{Meaning, View, PlainAct, PlainReply, worlds}
use Rattle.wjs_arena.specs.declared.object.Code.{Code}
use Rattle.wjs_arena.specs.declared.object.Code.TheVariants as code
use Rattle.wjs_arena.specs.Entries.{Entry, Objects, world_of}
use Rattle.wjs_by_content.specs.Carried.{tell}
use Rattle.wjs_by_content.specs.Plans.{Told}
use Rattle.wjs_by_content.specs.Tables.{text_in, arena_in}
use Rattle.wjs_by_content.specs.Worlds.{told_in, told_by}
use Rattle.wjs_heap.specs.declared.heap.Heap.{Heap}
use Rattle.wjs_heap.specs.Heap.{Parts}
use Rattle.wjs_heap.specs.Means.{parts}
use Rattle.wjs_meaning.specs.Trees.{Tree}
use Rattle.wjs_meaning.specs.Deeds.{St}
use Rattle.wjs_meaning.specs.declared.builtin.Builtin.{Builtin}
use Rattle.wjs_meaning.specs.declared.builtin.Builtin.TheVariants as initial
use Rattle.wjs_store.specs.State.{first_world}
use Rattle.wjs_meaning.specs.Builtins.{builtin, global_object, object_prototype, first_world_object}
use Rattle.wjs_meaning.specs.Programs.{machine}
use Rattle.wjs_meaning.specs.Start.{start, first_arena, properties}
use Rattle.wjs_model.specs.declared.config.Config.{Config}
use Rattle.wjs_model.specs.declared.config.State.TheVariants as states
use Rattle.wjs_model.specs.declared.frame.Activation.{Activation as Frame}
use Rattle.wjs_model.specs.declared.frame.Phase.{Phase}
use Rattle.wjs_model.specs.declared.loaded.LoadedProgram.{LoadedProgram as Program}
use Rattle.wjs_model.specs.Outside.{alone}
use Rattle.wjs_model.proofs.Beside.{beside_nothing}
use Rattle.wjs_model.specs.Configurations.{run_in, frames_in, state_in, rest, seen, after_done}
use Rattle.wjs_model.specs.Contents.{Frame as Framed, Run, frame_in}
use Rattle.wjs_model.specs.Laws.{run_of, trees_of, script_names, first_frames}
use Rattle.wjs_model.specs.Rest.{rest_of}
use Rattle.wjs_model.specs.Soundness.{HasObject, HasPhase, HasWorld, IsStacked, Base, Sound}
use Rattle.wjs_model.specs.Standing.{FunctionStands, Stands}
use Rattle.wjs_model.specs.Texts.{KnowsUnit, PlacesUnit}
use Rattle.wjs_model.specs.Units.{unit_in}
use Rattle.wjs_model.proofs.Placed.{placed_stay}
use Rattle.wjs_model.proofs.Starts.{start_lem}
use Rattle.wjs_heap_steps.proofs.Earlier.{rest_earlier}
use Rattle.wjs_heap_steps.proofs.Staying.{units_stay}
use Rattle.wjs_start.proofs.NoneApart.{all_near, objects_near, slots_near}
use Rattle.wjs_start.specs.Declaring.{declared_by_tree}
use Rattle.wjs_start.specs.First.{IsNew, IsFirst, is_script, writes_told}
use Rattle.wjs_start.specs.Starting.{Starts, body_of, begins, waits, frame_at, frames_of, units_of}

-- ---- programs and frames

names_are : (library : Option Tree) (script : Tree) → script_names library script ≡ declared_by_tree script
names_are None script = refl
names_are (Some library) script = refl

trees_are : (t : Table) (library : Option Program) (script : Program)
    → map (unit_in t) (units_of library script) ≡ trees_of (option_map (unit_in t) library) (unit_in t script)
trees_are t None script = refl
trees_are t (Some library) script = refl

frames_are : (t : Table) (library : Option Program) (script : Program)
    → map (frame_in t) (frames_of (option_map body_of library) (body_of script)) ≡ first_frames (option_map (unit_in t) library) (unit_in t script)
frames_are t None script = refl
frames_are t (Some library) script = refl

units_known : (t : Table) (library : Option Program) (script : Program) → IfSome library (KnowsUnit t) → KnowsUnit t script
    → All (KnowsUnit t) (units_of library script)
units_known t None script h k = All-cons (KnowsUnit t) script [] k (All-nil (KnowsUnit t))
units_known t (Some library) script h k = All-cons (KnowsUnit t) library (script ∷ []) h (All-cons (KnowsUnit t) script [] k (All-nil (KnowsUnit t)))

units_placed : (t : Table) (library : Option Program) (script : Program) → IfSome library (PlacesUnit t) → PlacesUnit t script
    → All (PlacesUnit t) (units_of library script)
units_placed t None script h k = All-cons (PlacesUnit t) script [] k (All-nil (PlacesUnit t))
units_placed t (Some library) script h k = All-cons (PlacesUnit t) library (script ∷ []) h (All-cons (PlacesUnit t) script [] k (All-nil (PlacesUnit t)))

pub code_stands : (units : List Program) (arena : Objects) (k : Code) (scope : Option ObjId) → IsTrue (not (is_script k)) → FunctionStands units arena k scope
code_stands units arena (code.Script tree node) scope h = absurd (cc)
code_stands units arena code.None scope h = tt
code_stands units arena (code.Native n) scope h = tt

some_frame : (library : Option NodeId) (script : NodeId) → frames_of library script ≡ [] → ⊥
some_frame None script e = cc
some_frame (Some library) script e = cc

-- the one object that stands for a world is the first world's
pub world_stands : (arena : Objects) (o : ObjId) (e : Entry) (w : WorldId) → finite.get arena o ≡ Some e → e.object.world ≡ Some w → world_of arena o ≡ Some w
world_stands arena o e w q r = ap (option_and_then (λ (x : Entry). (x.object).world)) q ∙ r

pub worlds_by_owner : (texts : Table) (before : Meaning) (ids : List TextId) (h : Parts) → IsFirst texts before ids h → (o : ObjId) (w : WorldId) → world_of h.arena o ≡ Some w → w.owner ≡ o.owner
worlds_by_owner texts before ids h is o w at =
    let first = is.own_worlds o w at in
    let same = is.heap.arena.one_object o first_world_object first_world (at ∙ ap Some first) is.shown in
    ap (λ (x : WorldId). x.owner) first ∙ sym (ap (λ (x : ObjId). x.owner) same)

-- ---- the actions

-- what a store tells that told nothing before
pub silent_told : (t : Table) (writes : List Told) (done : List (PlainAct × PlainReply)) → done ≡ [] → tell writes (told_by t (Some done)) ≡ Some writes
silent_told t writes done e = ap (λ (l : List (PlainAct × PlainReply)). tell writes (told_by t (Some l))) e

-- behind the writes of a new store stand the actions of what is left, where it tells them
pub told_behind : (t : Table) (run : Run) (fs : List Framed) (writes : List Told) (st : St) (n : ℕ) (before : Option (List (PlainAct × PlainReply)))
    → IfSome before (λ done. done ≡ []) → (told : Option (List Told)) → told ≡ tell writes (told_by t before) → (tells : Bool) → tells ≡ is_some before
    → seen tells (rest_of run fs (record st { done = unwrap_or told [] }) n) ≡ seen (is_some before) (after_done writes (rest_of run fs (record st { done = [] }) n))
told_behind t run fs writes st n None silent told e tells f = λ i. seen (f i) (rest_of run fs (record st { done = unwrap_or (e i) [] }) n)
told_behind t run fs writes st n (Some done) silent told e tells f =
    (λ i. seen (f i) (rest_of run fs (record st { done = unwrap_or ((e ∙ silent_told t writes done silent) i) [] }) n))
    ∙ ap (λ (l : List Told). rest_of run fs (record st { done = l }) n) (sym (append-nil writes))
    ∙ rest_earlier writes run fs (record st { done = [] }) n

-- ---- the configuration

module _ {S : Type 0} (meaning : S → Meaning) (texts : Table) (before : Meaning) (library : Option Program) (script : Program) (ids : List TextId)
    (h : Heap S) (units : Vec Program Global) (frames : List Frame) (apart pending : Vec ℕ Global) (budget : ℕ)
    (is : IsFirst texts before ids (parts meaning h)) (units_are : units.items ≡ units_of library script) (frames_there : frames ≡ frames_of (option_map body_of library) (body_of script)) (none_kept : apart.items ≡ []) (none_pending : pending.items ≡ []) (new : IsNew before)
    (names : (t : Table) → IsTable t → KnowsUnit t script
    → map (text_in t) ids ≡ declared_by_tree (unit_in t script)) (library_known : IfSome library (KnowsUnit texts)) (script_known : KnowsUnit texts script) (library_placed : IfSome library (PlacesUnit texts)) (script_placed : PlacesUnit texts script) where
  abbrev c : Config S
  c = record { heap = h; units = units; frames = frames; global = global_object; world = first_world; owner = 0; apart = apart; pending = pending; left = budget; state = states.Running }

  abbrev t : Table
  t = h.texts

  all_known : All (KnowsUnit t) (units_of library script)
  all_known = units_stay texts t is.grows (units_of library script) (units_known texts library script library_known script_known)

  all_placed : All (PlacesUnit t) (units_of library script)
  all_placed = placed_stay texts t is.grows (units_of library script) (units_known texts library script library_known script_known) (units_placed texts library script library_placed script_placed)

  abbrev lib : Option Tree
  lib = option_map (unit_in t) library

  abbrev one : Tree
  one = unit_in t script

  script_there : KnowsUnit t script
  script_there = All-head (KnowsUnit t) script [] (units_stay texts t is.grows (script ∷ []) (All-cons (KnowsUnit texts) script [] script_known (All-nil (KnowsUnit texts))))

  names_so : map (text_in t) ids ≡ script_names lib one
  names_so = names t is.heap.table script_there ∙ sym (names_are lib one)

  run_so : run_in meaning t c ≡ run_of (trees_of lib one)
  run_so = ap run_of (ap (map (unit_in t)) units_are ∙ trees_are t library script)

  frames_so : frames_in meaning t c ≡ first_frames lib one
  frames_so = ap (map (frame_in t)) frames_there ∙ frames_are t library script

  state_so : (u : Table) → Grows t u → (v : View) → IsTrue ((meaning h.store).admits v)
      → state_in meaning t (alone v u) c ≡ record (start (script_names lib one)) { done = unwrap_or (told_by u (meaning h.store).told) [] }
  state_so u g v ok =
      let full = is.slots u g v ok in
      let arena = beside_nothing (arena_in t h.arena) ∙ is.arena t (Grows-refl t) ∙ ap first_arena names_so in
      λ i. record { full = full i; arena = arena i; out = none_pending i; done = unwrap_or (told_by u (meaning h.store).told) [] }

  module _ (u : Table) (g : Grows t u) (v : View) (ok : IsTrue ((meaning h.store).admits v)) where
    told_so : told_by u (meaning h.store).told ≡ tell (writes_told properties) (told_by u before.told)
    told_so = is.told u g v ok

    tells_so : is_some (meaning h.store).told ≡ is_some before.told
    tells_so =
        sym (some_map (map (told_in u)) (meaning h.store).told)
        ∙ ap is_some told_so
        ∙ some_map (λ (done : List Told). done ++ writes_told properties) (told_by u before.told)
        ∙ some_map (map (told_in u)) before.told

    machine_so : (n : ℕ) → rest meaning t (alone v u) c n ≡ seen (is_some before.told) (after_done (writes_told properties) (machine lib one n))
    machine_so n =
        (λ i. seen (is_some (meaning h.store).told) (rest_of (run_so i) (frames_so i) (state_so u g v ok i) n))
        ∙ told_behind u (run_of (trees_of lib one)) (first_frames lib one) (writes_told properties) (start (script_names lib one)) n before.told new.silent (told_by u (meaning h.store).told) told_so (is_some (meaning h.store).told) tells_so
        ∙ ap (λ r. seen (is_some before.told) (after_done (writes_told properties) r)) (start_lem lib one n)

  pub starts_so : Starts meaning texts before library script budget c
  starts_so = record {
    left = refl;
    running = refl;
    world = refl;
    owner = refl;
    units = units_are;
    run = run_so;
    frames = frames_so;
    state = state_so;
    told = is.told;
    run_is = machine_so;
    grows = is.grows;
    narrows = is.narrows;
    own = is.own;
    around = is.around;
    spent = is.spent;
  }

  builtin_there : (k : Builtin) → HasObject c (builtin k)
  builtin_there k = (is.builtins k, all_near apart.items none_kept (builtin k))

  -- a program's body stands with no scopes around it
  body_stands : (tree : ℕ) (u : Program) → slice_get (units_of library script) tree ≡ Some u → Stands units.items h.arena tree (body_of u) global_object 0
  body_stands tree u e = record { unit = u; found = ap (λ (us : List Program). slice_get us tree) units_are ∙ e; arguments = None; scopes = []; around = ([], (refl, refl)); outwards = tt }

  -- a program's frame is there, with a phase that names nothing
  frame_there : (tree : ℕ) (u : Program) (phase : Phase) → slice_get (units_of library script) tree ≡ Some u
      → HasPhase c (frame_at tree (body_of u) phase) phase → IsStacked meaning c (frame_at tree (body_of u) phase)
  frame_there tree u phase e h = record {
    there = record {
      scope = builtin_there initial.Global;
      this = builtin_there initial.Global;
      world = is.first;
      held = tt;
      stands = record { node = body_stands tree u e; shown = (first_world_object, is.shown) };
    };
    phase = h;
  }

  program_at : (first : Option Program) (tree : ℕ) → library ≡ first → slice_get (units_of library script) tree ≡ slice_get (units_of first script) tree
  program_at first tree e = ap (λ (o : Option Program). slice_get (units_of o script) tree) e

  all_there : (first : Option Program) → library ≡ first → All (IsStacked meaning c) (frames_of (option_map body_of first) (body_of script))
  all_there None e = All-cons (IsStacked meaning c) (frame_at 0 (body_of script) begins) [] (frame_there 0 script begins (program_at None 0 e) tt) (All-nil (IsStacked meaning c))
  all_there (Some first) e =
      All-cons (IsStacked meaning c) (frame_at 1 (body_of script) waits) (frame_at 0 (body_of first) begins ∷ []) (frame_there 1 script waits (program_at (Some first) 1 e) tt)
      (All-cons (IsStacked meaning c) (frame_at 0 (body_of first) begins) [] (frame_there 0 first begins (program_at (Some first) 0 e) tt) (All-nil (IsStacked meaning c)))

  base_so : Base meaning c
  base_so = record {
    heap = is.heap;
    works = ap not is.spent ∙ new.works;
    global = builtin_there initial.Global;
    world = is.first;
    builtins = builtin_there;
    units = subst (All (KnowsUnit t)) (sym units_are) all_known;
    places = subst (All (PlacesUnit t)) (sym units_are) all_placed;
    functions = λ o e q. code_stands units.items h.arena (e.object).code (e.object).scope (is.codes o e q);
    worlds_own = λ w there. ap (λ (x : WorldId). x.owner) (is.no_other w there);
    worlds_by = λ o e w q r. worlds_by_owner texts before ids (parts meaning h) is o w (world_stands h.arena o e w q r);
    own_worlds = λ o e w q r s. subst (HasWorld meaning c) (sym (is.own_worlds o w (world_stands h.arena o e w q r))) is.first;
    own = all_near apart.items none_kept object_prototype;
    near_objects = λ o e q h. objects_near apart.items none_kept e.object;
    near_slots = slots_near apart.items none_kept (worlds (meaning h.store));
    frames = subst (All (IsStacked meaning c)) (sym frames_there) (all_there library refl);
    marks = is.marks;
    told = is.tells;
  }

  pub sound_so : Sound meaning c
  sound_so = record { base = base_so; thrown = tt; running = λ e f. some_frame (option_map body_of library) (body_of script) (sym frames_there ∙ f) }
