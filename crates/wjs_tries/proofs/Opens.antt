-- A try that begins.
use Rattle.std.proofs.Common.{◌≡◌, ℕ, ◌<◌, ◌≤◌, Bool, true, false, not, cond, List, [], ◌∷◌, Option, None, Some, is_some, refl, sym, ap, ◌∙◌, subst, arith}
use Rattle.std.proofs.Common.{IsTrue}
use Rattle.std.specs.Prelude.{All}
use Rattle.std.specs.Option.{option_and_then}
use Rattle.std.specs.FinMap as map
use Rattle.std.proofs.lemmas.List.Elements.{All-nil}
use Rattle.wjs_base.specs.declared.ids.ObjId.{ObjId}
use Rattle.wjs_base.specs.declared.ids.WorldId.{WorldId}
use Rattle.wjs_base.specs.declared.values.Slot.{Slot}
use Rattle.wjs_base.specs.declared.values.Value.{Value}
use Rattle.wjs_base.specs.Text.{Table, Grows}
use Rattle.wjs_base.proofs.Options.{none_there}
use Rattle.wjs_base.proofs.TextLaws.{Grows-refl}
use Rattle.wjs_store.specs.Naming.{plain}
use Rattle.wjs_store.specs.State.{World, find_world, has_world, content_at, same_world}
use Rattle.wjs_store.specs.Shown.{first_of}
use Rattle.wjs_store.specs.Reached.{IsReached}
use Rattle.wjs_store.specs.Meaning.{Meaning, Worlds, worlds}
use Rattle.wjs_store.proofs.Writes.{world_is, same_self}
use Rattle.wjs_arena.specs.Entries as numbered
use Rattle.wjs_arena.specs.Entries.{Objects, Entry, Keeps, has, others_of}
use Rattle.wjs_by_content.specs.Worlds.{KnowsWorlds}
use Rattle.wjs_heap.specs.Heap.{IsHeap, KnowsTold}
use Rattle.wjs_heap.specs.Means.{parts}
use Rattle.wjs_meaning.specs.Builtins.{builtin}
use Rattle.wjs_meaning.specs.declared.builtin.Builtin.{Builtin}
use Rattle.wjs_meaning.specs.declared.builtin.Builtin.TheVariants as first
use Rattle.wjs_model.specs.declared.config.Config.{Config}
use Rattle.wjs_model.specs.declared.loaded.LoadedProgram.{LoadedProgram as Program}
use Rattle.wjs_model.specs.declared.config.State.TheVariants as states
use Rattle.wjs_model.specs.Apart.{is_apart}
use Rattle.wjs_model.specs.Others.{OtherFrame, OtherState, KeptApart}
use Rattle.wjs_model.specs.Soundness.{HasObject, HasWorld, HasThrown, IsStacked, Base, Sound}
use Rattle.wjs_model.proofs.Others.{sound_listed}
use Rattle.wjs_parts.specs.Entering.{Enters}
use Rattle.wjs_session.specs.declared.session.Session.{Session}
use Rattle.wjs_session.specs.Session.{holding, first_copy, around_of}
use Rattle.wjs_session.specs.Stores.{worlds_in}
use Rattle.wjs_session.specs.Kept.{IsSession}
use Rattle.wjs_session.specs.Begun.{Begins}
use Rattle.wjs_session.specs.Others.{Leaves}
use Rattle.wjs_session.proofs.BeginLaws.{count_none}
use Rattle.wjs_session.proofs.Leaving.{begins}
use Rattle.wjs_start.proofs.NoneApart.{all_near, objects_near, slots_near}
use Rattle.wjs_alone.specs.Alone.{world_of}
use Rattle.wjs_tries.specs.declared.common.Common.{Common}
use Rattle.wjs_tries.specs.Hiding.{Hidden, IsHidden, MayList}
use Rattle.wjs_tries.specs.Meant.{session_meaning, beginning, Opens}
use Rattle.wjs_tries.specs.Common.{IsCommon}
use Rattle.wjs_tries.specs.Turning.{HiddenIn, Begun}
use Rattle.wjs_tries.proofs.Entries.{enter_is_alone}
use Rattle.wjs_tries.proofs.OneWorld.{one_known}
use Rattle.wjs_tries.proofs.Soundly.{view_known, slot_later}
use Rattle.wjs_tries.proofs.Hidings.{hidden_same}
use Rattle.wjs_tries.proofs.Owning.{others_begun}
use Rattle.wjs_tries.proofs.Turned.{kept_now, number_is, common_after, common_moved}

-- ---- what a session means that begins

pub number_begun : (F : Worlds) (owner : ℕ) (i : WorldId) (m : Meaning) → IsReached F → has_world F (world_of owner) ≡ false → Begins F owner i m
    → i ≡ world_of owner
number_begun F owner i m reached new b = b.number ∙ (λ k. record { owner = owner; serial = count_none F owner reached new k })

pub meaning_begun : (F : Worlds) (owner : ℕ) (i : WorldId) (m : Meaning) → IsReached F → has_world F (world_of owner) ≡ false → Begins F owner i m
    → m ≡ beginning F owner
meaning_begun F owner i m reached new b =
    let is = number_begun F owner i m reached new b in
    λ k. record {
      full = λ v. (b.full v ∙ ap (λ (j : WorldId). holding j v ∷ []) is) k;
      admits = λ v. b.admits v k;
      own = b.own k;
      told = b.told k;
      around = (b.around ∙ ap (λ (j : WorldId). record (holding j map.empty) { parent = first_of F } ∷ F) is) k;
      spent = b.works k;
    }

-- ---- one world

found_if : (x : World plain) (i : WorldId) (b : Bool) → same_world x.id i ≡ b → is_some (cond b (Some x) None) ≡ true → i ≡ x.id
found_if x i true e h = sym (world_is x.id i e)
found_if x i false e h = absurd (cc)

one_there : (x : World plain) (i : WorldId) → has_world (x ∷ []) i ≡ true → i ≡ x.id
unfolding find_world
one_there x i h = found_if x i (same_world x.id i) refl h

there_itself : (x : World plain) → has_world (x ∷ []) x.id ≡ true
unfolding find_world
there_itself x = ap (λ b. is_some (cond b (Some x) None)) (same_self x.id)

held_if : (x : World plain) (s : Slot) (v : Value) (b : Bool) → option_and_then (λ (y : World plain). map.get y.copy s) (cond b (Some x) None) ≡ Some v
    → map.get x.copy s ≡ Some v
held_if x s v true h = h
held_if x s v false h = absurd (cc)

one_holds : (x : World plain) (i : WorldId) (s : Slot) (v : Value) → content_at (x ∷ []) i s ≡ Some v → map.get x.copy s ≡ Some v
unfolding find_world
one_holds x i s v h = held_if x s v (same_world x.id i) h

-- ---- the configuration before its part is entered

module _ {S : Type 0} (meaning : S → Meaning) (t : Table) (arena : Objects) (units : List Program) (F : Worlds) (q drawn : ℕ) (c : Config S)
    (opens : Opens meaning t arena units F q c) (shared : IsCommon t arena units F drawn) (later : drawn < q) where
  common : IsCommon c.heap.texts c.heap.arena c.units.items F drawn
  common =
      subst (λ us. IsCommon c.heap.texts c.heap.arena us F drawn) (sym opens.units_are) (
      subst (λ m. IsCommon c.heap.texts m units F drawn) (sym opens.arena_is) (
      subst (λ u. IsCommon u arena units F drawn) (sym opens.texts) shared))

  abbrev one : World plain
  one = holding (world_of q) (first_copy F)

  worlds_are : worlds (meaning c.heap.store) ≡ one ∷ []
  worlds_are = ap worlds opens.store

  no_owner : (o : ObjId) → IsTrue (has c.heap.arena o) → ¬ (o.owner ≡ q)
  no_owner o h is = let le : o.owner ≤ drawn = common.object_owners o h in absurd (omega (arith, le, is, later))

  -- no object of the owner's world is there
  pub none_shown : (o : ObjId) → ¬ (numbered.world_of c.heap.arena o ≡ Some c.world)
  none_shown o h = by (map.get c.heap.arena o) refl h
    where
      by : (r : Option Entry) → map.get c.heap.arena o ≡ r → option_and_then (λ (e : Entry). e.object.world) r ≡ Some c.world → ⊥
      by None e k = cc
      by (Some e) at k = no_owner o (ap is_some at) (sym (common.worlds_by o e c.world at k) ∙ ap (λ (w : WorldId). w.owner) opens.world)

  is_heap : IsHeap (parts meaning c.heap)
  is_heap = record {
    table = common.table;
    arena = common.arena_is;
    objects = common.objects;
    slots = λ i s v at. common.slots s v (one_holds one i s v (ap (λ H. content_at H i s) (sym worlds_are) ∙ at));
  }

  -- with none kept apart
  abbrev bare : Config S
  bare = record c { apart = c.pending }

  builtin_there : (k : Builtin) → HasObject bare (builtin k)
  builtin_there k = (common.builtins k, all_near c.pending.items opens.pending (builtin k))

  own_none : (o : ObjId) (e : Entry) (w : WorldId) → map.get c.heap.arena o ≡ Some e → e.object.world ≡ Some w → w.owner ≡ c.owner → HasWorld meaning c w
  own_none o e w at is same = absurd (no_owner o (ap is_some at) (sym (common.worlds_by o e w at is) ∙ same ∙ opens.owner_is))

  base_bare : Base meaning bare
  base_bare = record {
    heap = is_heap;
    works = ap (λ (m : Meaning). not m.spent) opens.store;
    global = subst (HasObject bare) (sym opens.global) (builtin_there first.Global);
    world = ap (λ H. has_world H c.world) worlds_are ∙ ap (has_world (one ∷ [])) opens.world ∙ there_itself one;
    builtins = builtin_there;
    units = common.units_known;
    places = common.units_placed;
    functions = common.functions;
    worlds_own = λ w h. ap (λ (z : WorldId). z.owner) (one_there one w (ap (λ H. has_world H w) (sym worlds_are) ∙ h)) ∙ sym opens.owner_is;
    worlds_by = common.worlds_by;
    own_worlds = own_none;
    own = all_near c.pending.items opens.pending (record { owner = c.owner; serial = 0 });
    near_objects = λ o e at n. objects_near c.pending.items opens.pending e.object;
    near_slots = slots_near c.pending.items opens.pending (worlds (meaning c.heap.store));
    frames = subst (All (IsStacked meaning bare)) (sym opens.frames) (All-nil (IsStacked meaning bare));
    marks = subst (KnowsWorlds c.heap.texts) (sym worlds_are)
        (one_known c.heap.texts (world_of q) (first_copy F) (view_known c.heap.texts c.heap.arena (first_copy F) common.table common.slots));
    told = subst (λ (m : Meaning). KnowsTold c.heap.texts m.told) (sym opens.store) tt;
  }

  sound_bare : Sound meaning bare
  sound_bare = record {
    base = base_bare;
    thrown = subst (HasThrown bare) (sym opens.state) tt;
    running = λ on. let h : states.Done ≡ states.Running = sym opens.state ∙ on in absurd (cc);
  }

  -- it names no object of an owner that nothing else names
  kept_bare : (u : ℕ) → ¬ (u ≡ 0) → ¬ (u ≡ q) → Hidden arena (first_copy F) u → KeptApart meaning bare u
  kept_bare u some other h = record {
    no_worlds = λ o e w at is stands there. other (sym is ∙ sym (common.worlds_by o e w at stands) ∙ base_bare.worlds_own w there ∙ opens.owner_is);
    slots = λ i s v at. h.slots s v (one_holds one i s v (ap (λ H. content_at H i s) (sym worlds_are) ∙ at));
    frames = subst (All (OtherFrame u)) (sym opens.frames) (All-nil (OtherFrame u));
    state = subst (OtherState u) (sym opens.state) tt;
    objects = λ o e at k. h.objects o e (ap (λ (m : Objects). map.get m o) (sym opens.arena_is) ∙ at) k;
    global = λ e. some (sym e ∙ ap (λ (o : ObjId). o.owner) opens.global);
  }

  -- and so they may be kept apart from it
  pub sound_opened : ((u : ℕ) → IsTrue (is_apart c.apart.items u) → ¬ (u ≡ 0) × (¬ (u ≡ q) × Hidden arena (first_copy F) u)) → Sound meaning c
  sound_opened may = sound_listed bare c meaning sound_bare (λ u a. let m = may u a in (
    m.0,
    (
      λ e. m.1.0 (e
          ∙ opens.owner_is),
      kept_bare u m.0 m.1.0 m.1.1,
    ),
  )) refl

-- with the tries kept apart that rest
pub opened_listed : (shared : Common) (q drawn : ℕ) (old : Config Session)
    → Opens session_meaning shared.texts shared.arena shared.units.items (worlds_in shared.shared) q old
    → IsCommon shared.texts shared.arena shared.units.items (worlds_in shared.shared) drawn → drawn < q
    → old.apart ≡ shared.apart → ((u : ℕ) → IsTrue (is_apart shared.apart.items u) → MayList q shared u) → Sound session_meaning old
opened_listed shared q drawn old opens known later listed may =
    sound_opened session_meaning shared.texts shared.arena shared.units.items (worlds_in shared.shared) q drawn old opens known later (λ u a.
    let m = may u (subst (λ v. IsTrue (is_apart v.items u)) listed a) in
    (m.some, (m.other, m.hidden)))

-- ---- the part is entered

module _ (shared : Common) (q drawn part budget : ℕ) (old new : Config Session)
    (opens : Opens session_meaning shared.texts shared.arena shared.units.items (worlds_in shared.shared) q old)
    (known : IsCommon shared.texts shared.arena shared.units.items (worlds_in shared.shared) drawn)
    (later : drawn < q) (e : Enters session_meaning part budget old new) (units : old.units ≡ shared.units) (listed : old.apart ≡ shared.apart)
    (may : (u : ℕ) → IsTrue (is_apart shared.apart.items u) → MayList q shared u) where
  abbrev F : Worlds
  F = worlds_in shared.shared

  abbrev F' : Worlds
  F' = worlds_in new.heap.store.shared

  owner_is : new.owner ≡ q
  owner_is = e.stays.owner ∙ opens.owner_is

  number : new.heap.store.world ≡ world_of q
  number = number_is new e.sound.base ∙ ap world_of owner_is

  around_is : around_of F' (world_of q) ≡ record (holding (world_of q) map.empty) { parent = first_of F } ∷ F
  around_is = ap (around_of F') (sym number) ∙ ap (λ (m : Meaning). m.around) (e.store ∙ opens.store)

  both : Leaves F (world_of q) F' × (first_copy F' ≡ first_copy F)
  both = begins F F' (world_of q) (worlds_in new.heap.store.inner)
      (subst (λ i. IsSession F' i (worlds_in new.heap.store.inner)) number (kept_now new e.sound.base)) around_is

  grows : Grows shared.texts new.heap.texts
  grows = subst (λ u. Grows shared.texts u) (sym (e.texts ∙ opens.texts)) (Grows-refl shared.texts)

  keeps : Keeps shared.arena new.heap.arena
  keeps o x at = e.stays.objects o x (ap (λ (m : Objects). map.get m o) opens.arena_is ∙ at)

  made : (o : ObjId) (x : Entry) → map.get shared.arena o ≡ None → map.get new.heap.arena o ≡ Some x → o.owner ≡ q
  made o x none at = e.stays.made o x (ap (λ (m : Objects). map.get m o) opens.arena_is ∙ none) at ∙ opens.owner_is

  known_later : IsCommon shared.texts shared.arena shared.units.items F q
  known_later = record {
    reached = known.reached;
    first = known.first;
    table = known.table;
    arena_is = known.arena_is;
    objects = known.objects;
    slots = known.slots;
    builtins = known.builtins;
    units_known = known.units_known;
    units_placed = known.units_placed;
    functions = known.functions;
    worlds_by = known.worlds_by;
    object_owners = λ o h. let le : o.owner ≤ drawn = known.object_owners o h in omega (arith, le, later);
    world_owners = λ w h. let le : w.owner ≤ drawn = known.world_owners w h in omega (arith, le, later);
  }

  none : (o : ObjId) → IsTrue (has shared.arena o) → ¬ (o.owner ≡ q)
  none o h is = let le : o.owner ≤ drawn = known.object_owners o h in absurd (omega (arith, le, is, later))

  -- the others' objects are those that are shared
  others_are : others_of new.heap.arena new.owner ≡ shared.arena
  others_are = ap (others_of new.heap.arena) owner_is ∙ others_begun shared.arena new.heap.arena q keeps made none

  -- nothing names an object of a listed owner still
  still_hidden : (u : ℕ) → IsHidden shared u → HiddenIn new u
  still_hidden u h = hidden_same shared.arena (others_of new.heap.arena new.owner) (first_copy F) (first_copy F') u others_are both.1 h

  shared_now : IsCommon new.heap.texts (others_of new.heap.arena new.owner) new.units.items F' q
  shared_now =
      subst (λ us. IsCommon new.heap.texts (others_of new.heap.arena new.owner) us.items F' q) (sym (e.stays.units ∙ units)) (
      subst (λ m. IsCommon new.heap.texts m shared.units.items F' q) (sym others_are) (
      subst (λ t. IsCommon t shared.arena shared.units.items F' q) (sym (e.texts ∙ opens.texts))
      (common_moved shared.texts shared.arena shared.units.items F F' (world_of q) q known_later (let le : q ≤ q = omega arith in le)
      (kept_now new e.sound.base).shared (both.0).first (both.0).there both.1)))

  pub begun : Begun session_meaning q part budget shared new
  begun = record {
    leaves = record {
      texts = grows;
      objects = λ o x at. ap (λ (m : Objects). map.get m o) others_are ∙ at;
      made = λ o x none at. absurd (none_there (map.get shared.arena o) x none (ap (λ (m : Objects). map.get m o) (sym others_are) ∙ at));
      units = e.stays.units ∙ units;
      first = (both.0).first;
      returns = (both.0).returns;
    };
    others = others_are;
    owner_is = owner_is;
    left = e.left;
    holds = both.1;
    own = ap (λ (m : Meaning). m.own) (e.store ∙ opens.store) ∙ sym both.1;
    live = record {
      sound = e.sound;
      taken = 0;
      trying = enter_is_alone session_meaning shared.texts shared.arena shared.units.items F q part budget old new opens e none
          (known.builtins first.WorldPrototype);
      number = number ∙ ap world_of (sym owner_is);
      some = let l : new.owner ≡ q = owner_is in omega (arith, l, later);
      owner = let l : new.owner ≡ q = owner_is in omega (arith, l);
      none = old.pending;
      none_is = opens.pending;
      common = common_after session_meaning new e.sound.base shared.texts shared.arena shared.units.items F F' (world_of q) q q known_later (omega arith) made
          (kept_now new e.sound.base).shared (both.0).first (both.0).there refl
          (λ s v at. slot_later shared.texts new.heap.texts grows shared.arena new.heap.arena keeps s v
          (known.slots s v (ap (λ m. map.get m s) (sym both.1) ∙ at)));
      shared = shared_now;
    };
    apart = e.stays.apart ∙ listed;
    hides = λ u a h. still_hidden u h;
  }

-- a later owner has no world
pub no_world_yet : (t : Table) (arena : Objects) (units : List Program) (F : Worlds) (q drawn : ℕ) → IsCommon t arena units F drawn → drawn < q
    → has_world F (world_of q) ≡ false
no_world_yet t arena units F q drawn known later = by (has_world F (world_of q)) refl
  where
    by : (b : Bool) → has_world F (world_of q) ≡ b → b ≡ false
    by true h = let le : q ≤ drawn = known.world_owners (world_of q) h in absurd (omega (arith, le, later))
    by false h = refl

-- what is shared is a heap, with the first world's slots alone
pub heap_common : (t : Table) (arena : Objects) (units : List Program) (F : Worlds) (drawn : ℕ) → IsCommon t arena units F drawn
    → IsHeap (record { texts = t; arena = arena; store = beginning F 0 })
heap_common t arena units F drawn known = record {
  table = known.table;
  arena = known.arena_is;
  objects = known.objects;
  slots = λ i s v at. known.slots s v (one_holds (holding (world_of 0) (first_copy F)) i s v at);
}
