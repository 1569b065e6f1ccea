-- What a turn of a try leaves of what is shared.
use Rattle.std.proofs.Common.{◌≡◌, ℕ, ◌≤◌, false, List, Option, None, Some, is_some, refl, sym, ap, ◌∙◌, subst, IsTrue}
use Rattle.std.specs.FinMap as map
use Rattle.std.specs.Prelude.{All}
use Rattle.std.proofs.lemmas.Bool.{false≢true}
use Rattle.wjs_base.specs.declared.ids.ObjId.{ObjId}
use Rattle.wjs_base.specs.declared.ids.WorldId.{WorldId}
use Rattle.wjs_base.specs.declared.values.Slot.{Slot}
use Rattle.wjs_base.specs.declared.values.Value.{Value}
use Rattle.wjs_base.specs.Text.{Table, IsTable, Grows}
use Rattle.wjs_base.proofs.TextLaws.{Grows-refl, Grows-trans}
use Rattle.wjs_base.proofs.Booleans.{by_bool, not_true}
use Rattle.wjs_base.proofs.Options.{none_there}
use Rattle.wjs_store.specs.State.{same_world, has_world}
use Rattle.wjs_store.specs.Shown.{first_of}
use Rattle.wjs_store.specs.Reached.{IsReached}
use Rattle.wjs_store.specs.Meaning.{Meaning, Worlds}
use Rattle.wjs_store.proofs.Writes.{world_is}
use Rattle.wjs_arena.specs.Entries.{Objects, Entry, Keeps, has, others_of}
use Rattle.wjs_heap.specs.Heap.{HasSlot, HasValue}
use Rattle.wjs_model.specs.declared.config.Config.{Config}
use Rattle.wjs_model.specs.declared.loaded.LoadedProgram.{LoadedProgram as Program}
use Rattle.wjs_model.specs.Texts.{KnowsUnit, PlacesUnit}
use Rattle.wjs_model.specs.Configurations.{Stays}
use Rattle.wjs_model.specs.Soundness.{HasWorld, Base}
use Rattle.wjs_session.specs.declared.session.Session.{Session}
use Rattle.wjs_session.specs.Session.{world_at, first_copy, around_of, owned}
use Rattle.wjs_session.specs.Stores.{worlds_in}
use Rattle.wjs_session.specs.Kept.{IsSession}
use Rattle.wjs_session.specs.Returns.{Returns}
use Rattle.wjs_session.specs.Others.{Leaves}
use Rattle.wjs_session.proofs.Leaving.{returns_compose, numbers, turns}
use Rattle.wjs_session.proofs.StoreLaws.{has_full}
use Rattle.wjs_session.proofs.Worlds.{first_there}
use Rattle.wjs_alone.specs.Alone.{world_of}
use Rattle.wjs_tries.specs.declared.common.Common.{Common}
use Rattle.wjs_tries.specs.Meant.{session_meaning}
use Rattle.wjs_tries.specs.Common.{IsCommon}
use Rattle.wjs_tries.specs.Passing.{Passes}
use Rattle.wjs_tries.specs.Turning.{common_of, Shares}
use Rattle.wjs_tries.proofs.Owning.{others_keep, others_made, others_stay}
use Rattle.wjs_tries.proofs.Soundly.{slot_later, named_later}

-- ---- the session of a sound configuration

module _ (c : Config Session) (base : Base session_meaning c) where
  pub live : c.heap.store.spent ≡ false
  live = not_true c.heap.store.spent base.works

  pub kept_now : IsSession (worlds_in c.heap.store.shared) c.heap.store.world (worlds_in c.heap.store.inner)
  kept_now = c.heap.store.kept live

  -- it is on its owner's first world
  pub number_is : c.heap.store.world ≡ world_of c.owner
  number_is =
      let F = worlds_in c.heap.store.shared in
      let G = worlds_in c.heap.store.inner in
      let i = c.heap.store.world in
      let there : HasWorld session_meaning c i = has_full (world_at F i) G (owned (world_at F i) (first_copy F)) i
      ∙ first_there G i kept_now.inner kept_now.first in
      λ k. record { owner = base.worlds_own i there k; serial = (numbers F i G kept_now).0 k }

-- ---- what is shared, behind what one owner did

module _ {S : Type 0} (meaning : S → Meaning) (c : Config S) (base : Base meaning c) (old : Table) (arena : Objects) (units : List Program) (F F' : Worlds)
    (j : WorldId) (owner drawn : ℕ) (common : IsCommon old arena units F drawn) (within : owner ≤ drawn)
    (made : (o : ObjId) (e : Entry) → map.get arena o ≡ None → map.get c.heap.arena o ≡ Some e → o.owner ≡ owner)
    (reached : IsReached F') (first : first_of F' ≡ first_of F) (there : (d : WorldId) → same_world d j ≡ false → has_world F' d ≡ has_world F d)
    (number : j.owner ≡ owner)
    (slots : (s : Slot) (v : Value) → map.get (first_copy F') s ≡ Some v → HasSlot c.heap.texts c.heap.arena s × HasValue c.heap.texts c.heap.arena v) where
  owner_of : (o : ObjId) → IsTrue (has c.heap.arena o) → o.owner ≤ drawn
  owner_of o h = by (map.get arena o) refl
    where
      fresh : (r : Option Entry) → map.get c.heap.arena o ≡ r → map.get arena o ≡ None → o.owner ≤ drawn
      fresh None e n = absurd (false≢true (sym (ap is_some e) ∙ h))
      fresh (Some x) e n = subst (λ k. k ≤ drawn) (sym (made o x n e)) within

      by : (r : Option Entry) → map.get arena o ≡ r → o.owner ≤ drawn
      by None e = fresh (map.get c.heap.arena o) refl e
      by (Some x) e = common.object_owners o (ap is_some e)

  world_owner : (w : WorldId) → IsTrue (has_world F' w) → w.owner ≤ drawn
  world_owner w h = by_bool (same_world w j)
      (λ e. subst (λ k. k ≤ drawn) (sym (ap (λ (z : WorldId). z.owner) (world_is w j e) ∙ number)) within)
      (λ e. common.world_owners w (sym (there w e) ∙ h))

  pub common_after : IsCommon c.heap.texts c.heap.arena c.units.items F' drawn
  common_after = record {
    reached = reached;
    first = first ∙ common.first;
    table = base.heap.table;
    arena_is = base.heap.arena;
    objects = base.heap.objects;
    slots = slots;
    builtins = λ k. (base.builtins k).0;
    units_known = base.units;
    units_placed = base.places;
    functions = base.functions;
    worlds_by = base.worlds_by;
    object_owners = owner_of;
    world_owners = world_owner;
  }

-- what is shared stays known where worlds moved on, but for what the first one holds
module _ (t : Table) (arena : Objects) (units : List Program) (F F' : Worlds) (j : WorldId) (drawn : ℕ) (common : IsCommon t arena units F drawn)
    (within : j.owner ≤ drawn) (reached : IsReached F') (first : first_of F' ≡ first_of F)
    (there : (d : WorldId) → same_world d j ≡ false → has_world F' d ≡ has_world F d) (same : first_copy F' ≡ first_copy F) where
  pub common_moved : IsCommon t arena units F' drawn
  common_moved = record {
    reached = reached;
    first = first ∙ common.first;
    table = common.table;
    arena_is = common.arena_is;
    objects = common.objects;
    slots = λ s v at. common.slots s v (ap (λ m. map.get m s) (sym same) ∙ at);
    builtins = common.builtins;
    units_known = common.units_known;
    units_placed = common.units_placed;
    functions = common.functions;
    worlds_by = common.worlds_by;
    object_owners = common.object_owners;
    world_owners = λ w h. by_bool (same_world w j)
        (λ e. subst (λ (z : WorldId). z.owner ≤ drawn) (sym (world_is w j e)) within)
        (λ e. common.world_owners w (sym (there w e) ∙ h));
  }

-- what is known without an owner's own objects is known with them
pub common_full : (c : Config Session) → Base session_meaning c → (drawn : ℕ) → c.owner ≤ drawn
    → IsCommon c.heap.texts (others_of c.heap.arena c.owner) c.units.items (worlds_in c.heap.store.shared) drawn
    → IsCommon c.heap.texts c.heap.arena c.units.items (worlds_in c.heap.store.shared) drawn
common_full c base drawn within h =
    let F = worlds_in c.heap.store.shared in
    common_after session_meaning c base c.heap.texts (others_of c.heap.arena c.owner) c.units.items F F c.heap.store.world c.owner drawn h within
    (others_made c.heap.arena c.owner) h.reached refl (λ d e. refl) (ap (λ (z : WorldId). z.owner) (number_is c base))
    (λ s v at. slot_later c.heap.texts c.heap.texts (Grows-refl c.heap.texts) (others_of c.heap.arena c.owner) c.heap.arena
    (others_keep c.heap.arena c.owner) s v (h.slots s v at))

-- and under a later table
module _ (t u : Table) (g : Grows t u) (table : IsTable u) (arena : Objects) (units : List Program) (F : Worlds) (drawn : ℕ)
    (known : All (KnowsUnit u) units) (placed : All (PlacesUnit u) units) (common : IsCommon t arena units F drawn) where
  itself : Keeps arena arena
  itself o e at = at

  pub common_later : IsCommon u arena units F drawn
  common_later = record {
    reached = common.reached;
    first = common.first;
    table = table;
    arena_is = common.arena_is;
    objects = λ o e at. named_later t u g arena arena itself e.object (common.objects o e at);
    slots = λ s v at. slot_later t u g arena arena itself s v (common.slots s v at);
    builtins = common.builtins;
    units_known = known;
    units_placed = placed;
    functions = common.functions;
    worlds_by = common.worlds_by;
    object_owners = common.object_owners;
    world_owners = common.world_owners;
  }

-- ---- a turn that others don't interrupt

module _ (old new : Config Session) (base : Base session_meaning old) (base' : Base session_meaning new) (stays : Stays session_meaning old new) where
  abbrev F : Worlds
  F = worlds_in old.heap.store.shared

  abbrev F' : Worlds
  F' = worlds_in new.heap.store.shared

  abbrev j : WorldId
  j = old.heap.store.world

  same_number : new.heap.store.world ≡ j
  same_number = number_is new base' ∙ ap world_of stays.owner ∙ sym (number_is old base)

  around_same : around_of F' j ≡ around_of F j
  around_same = ap (around_of F') (sym same_number) ∙ stays.around

  both : Leaves F j F' × (first_copy F' ≡ first_copy F)
  both = turns F F' j (worlds_in old.heap.store.inner) (worlds_in new.heap.store.inner) (kept_now old base)
      (subst (λ i. IsSession F' i (worlds_in new.heap.store.inner)) same_number (kept_now new base')) around_same

  pub first_stays : first_copy F' ≡ first_copy F
  first_stays = both.1

  pub common_turned : (drawn : ℕ) → old.owner ≤ drawn → IsCommon old.heap.texts old.heap.arena old.units.items F drawn
      → IsCommon new.heap.texts new.heap.arena new.units.items F' drawn
  common_turned drawn within common =
      common_after session_meaning new base' old.heap.texts old.heap.arena old.units.items F F' j old.owner drawn common within stays.made
      (kept_now new base').shared (both.0).first (both.0).there
      (ap (λ (z : WorldId). z.owner) (number_is old base))
      (λ s v at. slot_later old.heap.texts new.heap.texts stays.texts old.heap.arena new.heap.arena stays.objects s v
      (common.slots s v (ap (λ m. map.get m s) (sym first_stays) ∙ at)))

  -- and what is shared is known without the try's own objects
  pub shared_turned : (drawn : ℕ) → old.owner ≤ drawn → IsCommon old.heap.texts (others_of old.heap.arena old.owner) old.units.items F drawn
      → IsCommon new.heap.texts (others_of new.heap.arena new.owner) new.units.items F' drawn
  shared_turned drawn within common =
      let m = others_of old.heap.arena old.owner in
      let units = new.units.items in
      let same : IsCommon old.heap.texts m new.units.items F drawn = subst (λ us. IsCommon old.heap.texts m us.items F drawn) (sym stays.units) common in
      let later = common_later old.heap.texts new.heap.texts stays.texts base'.heap.table m units F drawn base'.units base'.places same in
      subst (λ arena. IsCommon new.heap.texts arena units F' drawn) (sym (others_stay session_meaning old new stays))
      (common_moved new.heap.texts m units F F' j drawn later
      (subst (λ k. k ≤ drawn) (sym (ap (λ (z : WorldId). z.owner) (number_is old base))) within)
      (kept_now new base').shared (both.0).first (both.0).there first_stays)

  -- as the others see it
  pub passes_turned : (common : Common) → Shares new common → Passes old.owner (common_of old) common
  passes_turned common s =
      let same : common.arena ≡ others_of old.heap.arena old.owner = s.arena_is ∙ others_stay session_meaning old new stays in
      record {
        texts = subst (λ t. Grows old.heap.texts t) (sym s.texts) stays.texts;
        objects = λ o e at. ap (λ (m : Objects). map.get m o) same ∙ at;
        made = λ o e none at. absurd (none_there (map.get common.arena o) e (ap (λ (m : Objects). map.get m o) same ∙ none) at);
        units = s.units ∙ stays.units;
        first = ap first_of s.worlds ∙ (both.0).first;
        returns = λ i e child. subst (λ H. Returns F H i) (sym s.worlds) ((both.0).returns i (ap (same_world i) (number_is old base) ∙ e) child);
      }

-- ---- one after another

pub passes_then : (owner : ℕ) (a b c : Common) → Passes owner a b → Passes owner b c → Passes owner a c
passes_then owner a b c p r = record {
  texts = Grows-trans a.texts b.texts c.texts p.texts r.texts;
  objects = λ o e at. r.objects o e (p.objects o e at);
  made = λ o e none at. by o e none at (map.get b.arena o) refl;
  units = r.units ∙ p.units;
  first = r.first ∙ p.first;
  returns = λ i e child. let one = p.returns i e child in returns_compose.1 (worlds_in a.shared) (worlds_in b.shared) (worlds_in c.shared) i one
      (r.returns i e one.child);
}
  where
    by : (o : ObjId) (e : Entry) → map.get a.arena o ≡ None → map.get c.arena o ≡ Some e → (x : Option Entry) → map.get b.arena o ≡ x → o.owner ≡ owner
    by o e none at None h = r.made o e h at
    by o e none at (Some x) h = p.made o x none h
