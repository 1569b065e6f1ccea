-- A try that rests stays sound while others use what is shared.
use Rattle.std.proofs.Common.{◌≡◌, ℕ, true, not, [], Option, None, Some, refl, sym, ap, ◌∙◌, subst, IsTrue}
use Rattle.std.specs.FinMap as map
use Rattle.std.proofs.lemmas.Option.{same_Some}
use Rattle.wjs_base.specs.declared.ids.ObjId.{ObjId}
use Rattle.wjs_base.specs.declared.ids.WorldId.{WorldId}
use Rattle.wjs_base.specs.declared.values.Slot.{Slot}
use Rattle.wjs_base.specs.declared.values.Value.{Value}
use Rattle.wjs_base.specs.declared.values.Value.TheVariants as values
use Rattle.wjs_base.specs.Text.{Table, IsTable, Grows}
use Rattle.wjs_base.proofs.TextLaws.{Grows-Has, Grows-IsName}
use Rattle.wjs_store.specs.State.{has_world, content_at}
use Rattle.wjs_store.specs.Meaning.{Meaning, View, Worlds, worlds}
use Rattle.wjs_arena.specs.declared.object.Object.{Object}
use Rattle.wjs_arena.specs.Entries.{Objects, Entry, Keeps}
use Rattle.wjs_by_content.specs.Tables.{knows_value}
use Rattle.wjs_by_content.specs.Worlds.{KnowsWorlds}
use Rattle.wjs_by_content.proofs.Growth.{worlds_grow}
use Rattle.wjs_by_content.proofs.Known.{text_known, name_known}
use Rattle.wjs_heap.specs.declared.heap.Heap.{Heap}
use Rattle.wjs_heap.specs.Heap.{HasSlot, HasValue, HasNamed, IsHeap, KnowsTold}
use Rattle.wjs_heap.specs.Means.{parts}
use Rattle.wjs_heap.proofs.Growing.{named_stays, named_stays_there}
use Rattle.wjs_heap.proofs.Told.{told_stays}
use Rattle.wjs_model.specs.declared.config.Config.{Config}
use Rattle.wjs_model.specs.declared.config.State.TheVariants as states
use Rattle.wjs_model.specs.Soundness.{HasThrown, Sound}
use Rattle.wjs_model.proofs.Standing.{has_kept}
use Rattle.wjs_heap_steps.proofs.Staying.{StaysApart, base_on}
use Rattle.wjs_start.proofs.NoneApart.{objects_near, slots_near}
use Rattle.wjs_session.specs.declared.resting.Resting.{Resting}
use Rattle.wjs_session.specs.Session.{world_at, first_copy, full_of, owned}
use Rattle.wjs_session.specs.Stores.{worlds_in}
use Rattle.wjs_session.specs.Returns.{Returns}
use Rattle.wjs_session.specs.Resumed.{Rests, resumed}
use Rattle.wjs_session.proofs.RestLaws.{stands_still}
use Rattle.wjs_session.proofs.StoreLaws.{has_full}
use Rattle.wjs_tries.specs.Meant.{itself}
use Rattle.wjs_tries.specs.Views.{KnowsView}
use Rattle.wjs_tries.specs.Common.{IsCommon}
use Rattle.wjs_tries.proofs.Grown.{either_held, all_known}

-- ---- more texts and objects

module _ (old new : Table) (g : Grows old new) (arena arena' : Objects) (keeps : Keeps arena arena') where
  value_later : (v : Value) → HasValue old arena v → HasValue new arena' v
  value_later values.Undefined h = tt
  value_later values.Null h = tt
  value_later (values.Bool b) h = tt
  value_later (values.Number x) h = tt
  value_later (values.Text id) h = Grows-Has old new id g h
  value_later (values.Object o) h = has_kept arena arena' keeps o h

  pub slot_later : (s : Slot) (v : Value) → HasSlot old arena s × HasValue old arena v → HasSlot new arena' s × HasValue new arena' v
  slot_later s v h = (record { object = has_kept arena arena' keeps s.object (h.0).object; name = Grows-IsName old new s.name g (h.0).name }, value_later v h.1)

  pub named_later : (x : Object) → HasNamed old arena x → HasNamed new arena' x
  named_later x h = named_stays_there new arena arena' (has_kept arena arena' keeps) x (named_stays old new g arena x h)

-- ---- what the first world holds is known

value_known : (t : Table) (arena : Objects) → IsTable t → (v : Value) → HasValue t arena v → knows_value t v ≡ true
value_known t arena table values.Undefined h = refl
value_known t arena table values.Null h = refl
value_known t arena table (values.Bool b) h = refl
value_known t arena table (values.Number x) h = refl
value_known t arena table (values.Text id) h = text_known t table id h
value_known t arena table (values.Object o) h = refl

pub view_known : (t : Table) (arena : Objects) (v : View) → IsTable t
    → ((s : Slot) (x : Value) → map.get v s ≡ Some x → HasSlot t arena s × HasValue t arena x) → KnowsView t v
view_known t arena v table there s x at = let h = there s x at in (name_known t table s.name (h.0).name, value_known t arena table x h.1)

-- ---- the configuration of a resting try, over other worlds

module _ (old : Config Meaning) (heap : Heap Meaning) (F F' : Worlds) (r : Resting) (q drawn : ℕ) (store_is : old.heap.store ≡ resumed F r)
    (now_is : heap.store ≡ resumed F' r) (sound : Sound itself old) (running : old.state ≡ states.Running)
    (stands : Rests F r) (returns : Returns F F' r.world) (common : IsCommon heap.texts heap.arena old.units.items F' drawn) (none : old.apart.items ≡ [])
    (grows : Grows old.heap.texts heap.texts) (keeps : Keeps old.heap.arena heap.arena)
    (made : (o : ObjId) (e : Entry) → map.get old.heap.arena o ≡ None → map.get heap.arena o ≡ Some e → o.owner ≡ q) (differ : ¬ (old.owner ≡ q)) where
  abbrev G : Worlds
  G = worlds_in r.inner

  still : Rests F' r × ((resumed F' r).full ≡ (resumed F r).full) × ((resumed F' r).admits ≡ (resumed F r).admits)
  still = stands_still F F' r stands returns

  pub full_stays : heap.store.full ≡ old.heap.store.full
  full_stays = ap (λ (m : Meaning). m.full) now_is ∙ still.1 ∙ sym (ap (λ (m : Meaning). m.full) store_is)

  pub admits_stays : heap.store.admits ≡ old.heap.store.admits
  admits_stays = ap (λ (m : Meaning). m.admits) now_is ∙ still.2 ∙ sym (ap (λ (m : Meaning). m.admits) store_is)

  told_same : heap.store.told ≡ old.heap.store.told
  told_same = ap (λ (m : Meaning). m.told) now_is ∙ sym (ap (λ (m : Meaning). m.told) store_is)

  pub worlds_same : (w : WorldId) → has_world (worlds heap.store) w ≡ has_world (worlds old.heap.store) w
  worlds_same w =
      ap (λ (m : Meaning). has_world (worlds m) w) now_is
      ∙ has_full (world_at F' r.world) G (resumed F' r).own w
      ∙ sym (has_full (world_at F r.world) G (resumed F r).own w)
      ∙ sym (ap (λ (m : Meaning). has_world (worlds m) w) store_is)

  -- the worlds as they were, under the view that the try had for its own
  abbrev was : Worlds
  was = full_of (world_at F' r.world) G old.heap.store.own

  was_is : was ≡ worlds old.heap.store
  was_is = ap (λ f. f old.heap.store.own) (sym (ap (λ (m : Meaning). m.full) now_is) ∙ full_stays)

  now_are : worlds heap.store ≡ full_of (world_at F' r.world) G (owned (world_at F' r.world) (first_copy F'))
  now_are = ap worlds now_is

  is_heap : IsHeap (parts itself heap)
  is_heap = record {
    table = common.table;
    arena = common.arena_is;
    objects = common.objects;
    slots = λ i s v at. either_held (world_at F' r.world) G (first_copy F') old.heap.store.own i s v
        (HasSlot heap.texts heap.arena s × HasValue heap.texts heap.arena v)
        (λ h. slot_later old.heap.texts heap.texts grows old.heap.arena heap.arena keeps s v
        (sound.base.heap.slots i s v (ap (λ H. content_at H i s) (sym was_is) ∙ h)))
        (λ h. common.slots s v h)
        (ap (λ H. content_at H i s) (sym now_are) ∙ at);
  }

  marks_known : KnowsWorlds heap.texts (worlds heap.store)
  marks_known =
      let before : KnowsWorlds heap.texts was = subst (KnowsWorlds heap.texts) (sym was_is)
      (worlds_grow old.heap.texts heap.texts grows (worlds old.heap.store) sound.base.marks).0 in
      subst (KnowsWorlds heap.texts) (sym now_are) (all_known (world_at F' r.world) G (first_copy F') old.heap.store.own heap.texts
      (view_known heap.texts heap.arena (first_copy F') common.table common.slots) G before)

  own_worlds : (o : ObjId) (e : Entry) (w : WorldId) → map.get heap.arena o ≡ Some e → e.object.world ≡ Some w → w.owner ≡ old.owner
      → IsTrue (has_world (worlds heap.store) w)
  own_worlds o e w at is same = by (map.get old.heap.arena o) refl
    where
      by : (x : Option Entry) → map.get old.heap.arena o ≡ x → IsTrue (has_world (worlds heap.store) w)
      by None h = absurd (differ (sym same ∙ common.worlds_by o e w at is ∙ made o e h at))
      by (Some x) h =
          let e_is : x ≡ e = same_Some x e (sym (keeps o x h) ∙ at) in
          worlds_same w ∙ sound.base.own_worlds o x w h (ap (λ (y : Entry). y.object.world) e_is ∙ is) same

  apart_stays : StaysApart itself old heap
  apart_stays = record {
    worlds_own = λ w h. sound.base.worlds_own w (sym (worlds_same w) ∙ h);
    worlds_by = common.worlds_by;
    objects = λ o e at near. objects_near old.apart.items none e.object;
    slots = slots_near old.apart.items none (worlds heap.store);
    functions = common.functions;
  }

  pub others_keep_sound : Sound itself (record old { heap = heap })
  others_keep_sound = record {
    base = base_on itself old heap grows keeps (λ w h. worlds_same w ∙ h) sound.base is_heap marks_known
        (subst (KnowsTold heap.texts) (sym told_same) (told_stays old.heap.texts heap.texts grows old.heap.store.told sound.base.told))
        (ap (λ (m : Meaning). not m.spent) now_is) own_worlds apart_stays;
    thrown = subst (HasThrown (record old { heap = heap })) (sym running) tt;
    running = sound.running;
  }
