-- Heaps begin, and stay heaps as their texts and objects grow.
use Rattle.std.proofs.Common.{◌≡◌, ℕ, Bool, true, false, cond, List, [], ◌∷◌, Option, None, Some, refl, sym, ap, ◌∙◌, subst, IsTrue}
use Rattle.std.specs.Prelude.{is_some}
use Rattle.std.specs.FinMap as map
use Rattle.std.specs.Option.{option_and_then}
use Rattle.std.specs.Ordering.{eq_by_cmp}
use Rattle.wjs_base.specs.declared.ids.ObjId.{ObjId}
use Rattle.wjs_base.specs.declared.ids.WorldId.{WorldId}
use Rattle.wjs_base.specs.declared.values.Name.{Name}
use Rattle.wjs_base.specs.declared.values.Slot.{Slot}
use Rattle.wjs_base.specs.declared.values.Value.{Value}
use Rattle.wjs_base.specs.declared.values.Value.TheVariants as value
use Rattle.wjs_base.specs.Order.{obj_cmp, obj_total}
use Rattle.wjs_base.specs.Spelling.{IsName}
use Rattle.wjs_base.specs.Text.{Table, IsTable, Grows}
use Rattle.wjs_base.proofs.TextLaws.{Grows-Has, Grows-IsName, Grows-trans}
use Rattle.wjs_arena.specs.declared.object.Object.{Object}
use Rattle.wjs_arena.specs.declared.object.Flags.{Flags}
use Rattle.wjs_arena.specs.Entries.{Objects, Entry, IsArena, Keeps, has, created, next_number, entry_over}
use Rattle.wjs_store.specs.Naming.{plain}
use Rattle.wjs_store.specs.State.{World, same_world, find_world, content_at}
use Rattle.wjs_store.specs.Fixed.{fresh}
use Rattle.wjs_store.specs.Meaning.{Worlds, worlds}
use Rattle.wjs_by_content.specs.Renamed.{Holds}
use Rattle.wjs_by_content.specs.Plans.{Plan}
use Rattle.wjs_by_content.specs.Tables.{arena_in}
use Rattle.wjs_by_content.proofs.ArenaMaps.{number_same, created_same}
use Rattle.wjs_by_content.proofs.Growth.{worlds_grow}
use Rattle.wjs_heap.specs.Heap.{Parts, HasValue, HasSlot, HasNamed, IsHeap, Performs}
use Rattle.wjs_heap.specs.Acts.{Creates}
use Rattle.wjs_heap.specs.HeapLaws.{with_texts, with_arena}
use Rattle.wjs_heap.proofs.Told.{told_stays}

module _ (old new : Table) (g : Grows old new) (arena : Objects) where
  pub value_stays : (v : Value) → HasValue old arena v → HasValue new arena v
  value_stays value.Undefined has = tt
  value_stays value.Null has = tt
  value_stays (value.Bool b) has = tt
  value_stays (value.Number x) has = tt
  value_stays (value.Text id) has = Grows-Has old new id g has
  value_stays (value.Object o) has = has

  slot_stays : (s : Slot) → HasSlot old arena s → HasSlot new arena s
  slot_stays s has = record { object = has.object; name = Grows-IsName old new s.name g has.name }

  fixed_stay : (xs : List (Name × Value)) → Holds (λ e. IsName old e.0 × HasValue old arena e.1) xs → Holds (λ e. IsName new e.0 × HasValue new arena e.1) xs
  fixed_stay [] h = tt
  fixed_stay (x ∷ xs) h = ((Grows-IsName old new x.0 g h.0.0, value_stays x.1 h.0.1), fixed_stay xs h.1)

  flags_stay : (xs : List (Name × Flags)) → Holds (λ e. IsName old e.0) xs → Holds (λ e. IsName new e.0) xs
  flags_stay [] h = tt
  flags_stay (x ∷ xs) h = (Grows-IsName old new x.0 g h.0, flags_stay xs h.1)

  pub named_stays : (x : Object) → HasNamed old arena x → HasNamed new arena x
  named_stays x has = record { primitive = value_stays x.primitive has.primitive; fixed = fixed_stay x.fixed has.fixed; flags = flags_stay x.flags has.flags }

module _ (h : Parts) (new : Table) (table : IsTable new) (g : Grows h.texts new) where
  pub heap_grows : IsHeap h → IsHeap (with_texts h new)
  heap_grows heap = record {
    table = table;
    arena = heap.arena;
    objects = λ o e q. named_stays h.texts new g h.arena e.object (heap.objects o e q);
    slots = λ i s v q. let both = heap.slots i s v q in (slot_stays h.texts new g h.arena s both.0, value_stays h.texts new g h.arena v both.1);
  }

  -- what is done afterwards
  pub performs_grown : {A : Type 0} (w : WorldId) (p : Table → Plan A) (a : Table → A) (after : Parts) → Performs w p a (with_texts h new) after → Performs w p a h after
  performs_grown w p a after f = record {
    narrows = f.narrows;
    carries = λ t u gt gu v ok k. f.carries t u gt gu v ok k;
    marks = λ k. f.marks (worlds_grow h.texts new g (worlds h.store) k).0;
    told = λ k d. f.told (worlds_grow h.texts new g (worlds h.store) k).0 (told_stays h.texts new g h.store.told d);
    texts = Grows-trans h.texts new after.texts g f.texts;
    arena = f.arena;
    own = f.own;
    around = f.around;
    still_there = f.still_there;
    heap = f.heap;
    spent = f.spent;
  }

-- ---- more objects

module _ (texts : Table) (old new : Objects) (more : (o : ObjId) → IsTrue (has old o) → IsTrue (has new o)) where
  pub value_stays_there : (v : Value) → HasValue texts old v → HasValue texts new v
  value_stays_there value.Undefined h = tt
  value_stays_there value.Null h = tt
  value_stays_there (value.Bool b) h = tt
  value_stays_there (value.Number x) h = tt
  value_stays_there (value.Text id) h = h
  value_stays_there (value.Object o) h = more o h

  fixed_stay_there : (xs : List (Name × Value)) → Holds (λ e. IsName texts e.0 × HasValue texts old e.1) xs → Holds (λ e. IsName texts e.0 × HasValue texts new e.1) xs
  fixed_stay_there [] h = tt
  fixed_stay_there (x ∷ xs) h = ((h.0.0, value_stays_there x.1 h.0.1), fixed_stay_there xs h.1)

  pub named_stays_there : (x : Object) → HasNamed texts old x → HasNamed texts new x
  named_stays_there x h = record { primitive = value_stays_there x.primitive h.primitive; fixed = fixed_stay_there x.fixed h.fixed; flags = h.flags }

module _ (h : Parts) (heap : IsHeap h) (owner : ℕ) (x : Object) (named : HasNamed h.texts h.arena x) where
  found_made : (o : ObjId) → map.get (created h.arena owner x) o ≡ cond (eq_by_cmp obj_cmp o (next_number h.arena owner)) (Some (entry_over h.arena x)) (map.get h.arena o)
  found_made o = map.get-insert obj_total h.arena (next_number h.arena owner) (entry_over h.arena x) o

  still_has : (o : ObjId) → IsTrue (has h.arena o) → IsTrue (has (created h.arena owner x) o)
  still_has o there = subst (λ (r : Option Entry). IsTrue (is_some r)) (sym (found_made o)) (by (eq_by_cmp obj_cmp o (next_number h.arena owner)))
    where
      by : (b : Bool) → IsTrue (is_some (cond b (Some (entry_over h.arena x)) (map.get h.arena o)))
      by true = refl
      by false = there

  pub object_keeps : IsArena (created h.arena owner x) → IsHeap (with_arena h (created h.arena owner x))
  object_keeps arena = record {
    table = heap.table;
    arena = arena;
    objects = λ o e q. by o e (eq_by_cmp obj_cmp o (next_number h.arena owner)) (sym (found_made o) ∙ q);
    slots = λ i s v q. let both = heap.slots i s v q in (record { object = still_has s.object both.0.object; name = both.0.name }, value_stays_there h.texts h.arena (created h.arena owner x) still_has v both.1);
  }
    where
      by : (o : ObjId) (e : Entry) (b : Bool) → cond b (Some (entry_over h.arena x)) (map.get h.arena o) ≡ Some e → HasNamed h.texts (created h.arena owner x) e.object
      by o e true q = let same : entry_over h.arena x ≡ e = cc in subst (λ (z : Entry). HasNamed h.texts (created h.arena owner x) z.object) same (named_stays_there h.texts h.arena (created h.arena owner x) still_has x named)
      by o e false q = named_stays_there h.texts h.arena (created h.arena owner x) still_has e.object (heap.objects o e q)

  -- an object was made
  pub created_so : (id : ObjId) (new : Objects) → id ≡ next_number h.arena owner → new ≡ created h.arena owner x → IsArena new → map.get new id ≡ Some (entry_over h.arena x) → Keeps h.arena new → Creates owner x id h (with_arena h new)
  created_so id new number is arena there keeps = record {
    number = number;
    arena = is;
    number_in = λ t. number ∙ sym (number_same t h.arena owner);
    arena_by = λ t. ap (arena_in t) is ∙ created_same t h.arena owner x;
    there = ap is_some there;
    keeps = keeps;
    texts = refl;
    store = refl;
    heap = subst (λ (m : Objects). IsHeap (with_arena h m)) (sym is) (object_keeps (subst IsArena is arena));
  }

-- ---- none

absent_there : (i : WorldId) (s : Slot) → content_at fresh i s ≡ None
unfolding find_world
absent_there i s = by (same_world (record { owner = 0; serial = 0 }) i)
  where
    one : World plain
    one = record { id = record { owner = 0; serial = 0 }; parent = None; strict = false; copy = map.empty; first = map.empty; written = map.empty; closed = map.empty }

    by : (b : Bool) → option_and_then (λ (x : World plain). map.get x.copy s) (cond b (Some one) None) ≡ None
    by true = map.get-empty plain.cmp s
    by false = refl

pub heap_begins : (h : Parts) → IsTable h.texts → IsArena h.arena → h.arena ≡ map.empty → worlds h.store ≡ fresh → IsHeap h
heap_begins h table arena none first = record {
  table = table;
  arena = arena;
  objects = λ o e q. no_object o e (ap (λ (m : Objects). map.get m o) (sym none) ∙ q);
  slots = λ i s v q. no_slot i s v (ap (λ (F : Worlds). content_at F i s) (sym first) ∙ q);
}
  where
    none_some : {A B : Type 0} (r : Option A) (a : A) → r ≡ None → r ≡ Some a → B
    none_some None a e q = cc
    none_some (Some b) a e q = cc

    no_object : (o : ObjId) (e : Entry) → map.get (let m : Objects = map.empty in m) o ≡ Some e → HasNamed h.texts h.arena e.object
    no_object o e q = none_some _ e (map.get-empty obj_cmp o) q

    no_slot : (i : WorldId) (s : Slot) (v : Value) → content_at fresh i s ≡ Some v → HasSlot h.texts h.arena s × HasValue h.texts h.arena v
    no_slot i s v q = none_some _ v (absent_there i s) q
