-- What the first world names before an end, by content.
use Rattle.std.proofs.Common.{◌≡◌, ℕ, List, [], ◌∷◌, ◌++◌, Option, None, Some, is_some, refl, sym, ap, ◌∙◌, subst, true, IsTrue}
use Rattle.std.specs.Option.{option_map}
use Rattle.std.specs.FinMap as map
use Rattle.std.proofs.lemmas.Bool.{false≢true}
use Rattle.std.proofs.lemmas.Option.{same_Some}
use Rattle.wjs_base.specs.declared.ids.ObjId.{ObjId}
use Rattle.wjs_base.specs.declared.values.Slot.{Slot as NumberedSlot}
use Rattle.wjs_base.specs.declared.values.Value.{Value as Numbered}
use Rattle.wjs_base.specs.declared.values.Value.TheVariants as values
use Rattle.wjs_base.specs.Text.{Table}
use Rattle.wjs_store.specs.Meaning.{View}
use Rattle.wjs_arena.specs.Entries.{Objects, Entry, Keeps, has}
use Rattle.wjs_by_content.specs.Names.{Slot}
use Rattle.wjs_by_content.specs.Values.{Value}
use Rattle.wjs_by_content.specs.Tables.{slot_in, value_in, entry_in, arena_in}
use Rattle.wjs_by_content.specs.Telling.{names_of}
use Rattle.wjs_by_content.proofs.ArenaMaps.{object_found}
use Rattle.wjs_heap.specs.Heap.{HasSlot, HasValue}
use Rattle.wjs_meaning.specs.Trees.{Tree}
use Rattle.wjs_model.specs.Others.{Other, OtherValue}
use Rattle.wjs_alone.specs.Alone.{Copy, copy_after}
use Rattle.wjs_alone.specs.Serial.{Run, run_at, copy_by}
use Rattle.wjs_activity.specs.Unnamed.{OthersValue, IsOthers, NamesOthers, NamesNone}
use Rattle.wjs_alone.proofs.NamedMaps.{KnownKeys, get_named, is_named}
use Rattle.wjs_tries.specs.Views.{held_in, KnowsView}

-- ---- a slot by content is one by number

module _ (t : Table) (m : View) (known : KnowsView t m) where
  -- where it is present it has a number, and so has what it holds
  record Numbers (s : Slot) (v : Value) : Type 0 where
    pub slot : NumberedSlot
    pub value : Numbered
    pub there : map.get m slot ≡ Some value
    pub slot_is : s ≡ slot_in t slot
    pub value_is : v ≡ value_in t value

  keys : KnownKeys (names_of t) m
  keys s x e = (known s x e).0

  numbers : (s : Slot) (v : Value) → map.get (held_in t m) s ≡ Some v → Numbers s v
  numbers s v at =
      let k = is_named (names_of t) (value_in t) m keys s (ap is_some at) in
      by k.0 k.2 (map.get m k.0) refl (sym (get_named (names_of t) (value_in t) m keys k.0 k.1) ∙ ap (map.get (held_in t m)) (sym k.2) ∙ at)
    where
      by : (k : NumberedSlot) → s ≡ slot_in t k → (r : Option Numbered) → map.get m k ≡ r → option_map (value_in t) (map.get m k) ≡ Some v → Numbers s v
      by k is None e h = let none : None ≡ Some v = sym (ap (option_map (value_in t)) e) ∙ h in absurd (cc)
      by k is (Some x) e h = record {
        slot = k;
        value = x;
        there = e;
        slot_is = is;
        value_is = same_Some v (value_in t x)
            (sym h ∙ ap (option_map (value_in t)) e);
      }

-- ---- of others, and there

module _ (t u : Table) (arena arena' : Objects) (q : ℕ) (keeps : Keeps arena arena') where
  there_later : (o : ObjId) → IsTrue (has arena o) → IsTrue (map.contains_key (arena_in u arena') o)
  there_later o h = by (map.get arena o) refl h
    where
      by : (r : Option Entry) → map.get arena o ≡ r → is_some r ≡ true → IsTrue (map.contains_key (arena_in u arena') o)
      by None e k = absurd (false≢true k)
      by (Some x) e k = ap is_some (object_found u arena' o ∙ ap (option_map (entry_in u)) (keeps o x e))

  value_others : (v : Numbered) → HasValue t arena v → OtherValue q v → OthersValue q (arena_in u arena') (value_in t v)
  value_others values.Undefined h k = tt
  value_others values.Null h k = tt
  value_others (values.Bool b) h k = tt
  value_others (values.Number x) h k = tt
  value_others (values.Text id) h k = tt
  value_others (values.Object o) h k = (k, there_later o h)

  pub names_others : (m : View) → KnowsView t m → ((s : NumberedSlot) (v : Numbered) → map.get m s ≡ Some v → HasSlot t arena s × HasValue t arena v)
      → ((s : NumberedSlot) (v : Numbered) → map.get m s ≡ Some v → Other q s.object × OtherValue q v) → NamesOthers q (arena_in u arena') (held_in t m)
  names_others m known there others s v at =
      let n = numbers t m known s v at in
      let h = there n.slot n.value n.there in
      let k = others n.slot n.value n.there in (
        subst (λ (x : Slot). IsOthers q (arena_in u arena') x.object) (sym n.slot_is) (k.0, there_later n.slot.object (h.0).object),
        subst (OthersValue q (arena_in u arena')) (sym n.value_is) (value_others n.value h.1 k.1),
      )

-- ---- one end more

module _ (library : Option Tree) (parts : List Tree) (budget : ℕ) where
  pub named_then : (m : Copy) (rs : List Run) (r : Run) → NamesNone library parts budget m rs
      → NamesOthers r.owner r.objects (copy_by library parts budget m rs) → NamesNone library parts budget m (rs ++ r ∷ [])
  named_then m [] r n h = (h, tt)
  named_then m (x ∷ rs) r n h = (n.0, named_then (copy_after x.owner m (run_at library parts budget m x)) rs r n.1 h)
