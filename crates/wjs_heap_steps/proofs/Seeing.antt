-- What a look finds of objects that are there, and what a plan asks of them, is the same with further objects beside them.
use Rattle.std.proofs.Common.{◌≡◌, ℕ, Bool, true, false, not, cond, ◌||◌, List, [], ◌∷◌, ◌++◌, map as each, Option, None, Some, refl, sym, ap, ◌∙◌, IsTrue}
use Rattle.std.specs.Prelude.{filter, is_some, is_none}
use Rattle.std.specs.List.{list_any}
use Rattle.std.specs.Option.{option_map, option_and_then}
use Rattle.std.specs.FinMap as map
use Rattle.wjs_base.specs.declared.ids.ObjId.{ObjId}
use Rattle.wjs_base.specs.declared.ids.WorldId.{WorldId}
use Rattle.wjs_base.specs.Order.{obj_cmp}
use Rattle.wjs_base.specs.Text.{Table}
use Rattle.wjs_store.specs.State.{has_world}
use Rattle.wjs_store.specs.Meaning.{Meaning, worlds}
use Rattle.wjs_arena.specs.Entries as numbered
use Rattle.wjs_arena.specs.Entries.{Objects, IsArena, world_of}
use Rattle.wjs_by_content.specs.Values.{Text, Value, same_text}
use Rattle.wjs_by_content.specs.Names.{slot}
use Rattle.wjs_by_content.specs.Objects.{Arena, Entry, Internals, has_object, object_at, chain, fixed, flags_in, is_hidden, is_kept, is_array, is_array_class, is_past, is_among, is_puttable, none_fixed, at_name, world_object, next_number}
use Rattle.wjs_by_content.specs.Plans.{Plan, Gives, Reads, Writes, Lists, then_plan}
use Rattle.wjs_by_content.specs.Tables.{arena_in, entry_in}
use Rattle.wjs_by_content.proofs.WorldObjects.{world_at}
use Rattle.wjs_by_content.proofs.ArenaMaps.{object_found}
use Rattle.wjs_by_content.specs.Properties as plan
use Rattle.wjs_by_content.specs.declared.answers.PutAnswer.TheVariants.{Ignored}
use Rattle.wjs_model.specs.Outside.{beside, Finds}
use Rattle.wjs_model.proofs.Beside.{beside_nothing, object_beside, IsClosed, AreIn, chain_beside, chain_of_there, prototypes_beside, number_beside, world_object_beside, there_in, closed_in}

-- ---- plans

module _ (a more : Arena) (closed : IsClosed a) where
  chain_there : (o : ObjId) → IsTrue (has_object a o) → AreIn a (chain a o)
  chain_there o h = chain_of_there a closed _ (Some o) h

  fixed_beside : (o : ObjId) (n : Text) → IsTrue (has_object a o) → fixed (beside a more) o n ≡ fixed a o n
  fixed_beside o n h = ap (λ (x : Internals). at_name x.fixed n) (object_beside a more o h)

  along_beside : (n : Text) (os : List ObjId) → AreIn a os → plan.get_along os (beside a more) n ≡ plan.get_along os a n
  along_beside n [] h = refl
  along_beside n (o ∷ os) h =
      ap (λ (p : Plan (Option Value)). elim (fixed (beside a more) o n) [ Some v ↦ Gives (Some v) | None ↦ Reads (slot o n) (λ found. elim found [ Some v ↦ Gives (Some v) | None ↦ p ]) ]) (along_beside n os h.1)
      ∙ ap (λ (r : Option Value). elim r [ Some v ↦ Gives (Some v) | None ↦ Reads (slot o n) (λ found. elim found [ Some v ↦ Gives (Some v) | None ↦ plan.get_along os a n ]) ]) (fixed_beside o n h.0)

  get_beside : (o : ObjId) (n : Text) → IsTrue (has_object a o) → plan.get (beside a more) o n ≡ plan.get a o n
  get_beside o n h = ap (λ os. plan.get_along os (beside a more) n) (chain_beside a more closed o h) ∙ along_beside n (chain a o) (chain_there o h)

  none_fixed_beside : (n : Text) (os : List ObjId) → AreIn a os → none_fixed (beside a more) os n ≡ none_fixed a os n
  none_fixed_beside n [] h = refl
  none_fixed_beside n (o ∷ os) h = λ i. cond (is_some (fixed_beside o n h.0 i)) false (none_fixed_beside n os h.1 i)

  puttable_beside : (o : ObjId) (n : Text) → IsTrue (has_object a o) → is_puttable (beside a more) o n ≡ is_puttable a o n
  puttable_beside o n h = ap (λ os. none_fixed (beside a more) os n) (chain_beside a more closed o h) ∙ none_fixed_beside n (chain a o) (chain_there o h)

  array_beside : (o : ObjId) → IsTrue (has_object a o) → is_array (beside a more) o ≡ is_array a o
  array_beside o h = ap (λ (x : Internals). is_array_class x.class) (object_beside a more o h)

  put_beside : (o : ObjId) (n : Text) (v : Value) → IsTrue (has_object a o) → plan.put (beside a more) o n v ≡ plan.put a o n v
  put_beside o n v h =
      ap (λ (b : Bool). elim b [ false ↦ Gives Ignored | true ↦ elim (is_array (beside a more) o) [ true ↦ plan.put_in_array o n v | false ↦ plan.put_slot o n v ] ]) (puttable_beside o n h)
      ∙ ap (λ (b : Bool). elim (is_puttable a o n) [ false ↦ Gives Ignored | true ↦ elim b [ true ↦ plan.put_in_array o n v | false ↦ plan.put_slot o n v ] ]) (array_beside o h)

  kept_beside : (o : ObjId) (n : Text) → IsTrue (has_object a o) → is_kept (beside a more) o n ≡ is_kept a o n
  kept_beside o n h = ap (λ (x : Internals). (flags_in x n).kept) (object_beside a more o h)

  delete_beside : (o : ObjId) (n : Text) → IsTrue (has_object a o) → plan.delete (beside a more) o n ≡ plan.delete a o n
  delete_beside o n h =
      ap (λ (r : Option Value). elim (is_some r) [ true ↦ Gives false | false ↦ elim (is_kept (beside a more) o n) [ true ↦ Reads (slot o n) (λ found. Gives (is_none found)) | false ↦ Writes (slot o n) None (Gives true) ] ]) (fixed_beside o n h)
      ∙ ap (λ (b : Bool). elim (is_some (fixed a o n)) [ true ↦ Gives false | false ↦ elim b [ true ↦ Reads (slot o n) (λ found. Gives (is_none found)) | false ↦ Writes (slot o n) None (Gives true) ] ]) (kept_beside o n h)

  visits_along_beside : (os : List ObjId) → AreIn a os → (seen : List Text) → plan.visits_along os (beside a more) seen ≡ plan.visits_along os a seen
  visits_along_beside [] h seen = refl
  visits_along_beside (o ∷ os) h seen =
      ap (λ (x : Internals). Lists o (λ names.
      then_plan (plan.visits_along os (beside a more) (seen ++ names ++ each (λ y. y.0) x.fixed)) (λ visits.
      Gives (each (slot o) (filter (λ name. not ((flags_in x name).hidden || list_any (same_text name) seen)) names) ++ visits)))) (object_beside a more o h.0)
      ∙ (λ i. Lists o (λ names.
      then_plan (visits_along_beside os h.1 (seen ++ names ++ each (λ y. y.0) (object_at a o).fixed) i) (λ visits.
      Gives (each (slot o) (filter (λ name. not (is_hidden a o name || list_any (same_text name) seen)) names) ++ visits))))

  visits_beside : (o : ObjId) → IsTrue (has_object a o) → plan.visits (beside a more) o ≡ plan.visits a o
  visits_beside o h = ap (λ os. plan.visits_along os (beside a more) []) (chain_beside a more closed o h) ∙ visits_along_beside (chain a o) (chain_there o h) []

-- ---- what is found

-- with none beside them
pub plainly : {m : Meaning} {owner : ℕ} (objects : Objects) (t : Table) → Finds m owner objects t (arena_in t objects)
plainly objects t = record {
  more = map.empty;
  further = record { apart = λ o e h. absurd (none o e h); worlds = λ o e w h. absurd (none o e h) };
  is = sym (beside_nothing (arena_in t objects));
}
  where
    is_none_found : (r : Option Entry) (e : Entry) → r ≡ None → r ≡ Some e → ⊥
    is_none_found r e n h = cc

    none : (o : ObjId) (e : Entry) → map.get (map.empty {X = Entry} {R = obj_cmp}) o ≡ Some e → ⊥
    none o e h = is_none_found (map.get (map.empty {X = Entry} {R = obj_cmp}) o) e (map.get-empty obj_cmp o) h

-- the world of an object by content is the one by number
world_alike : (t : Table) (objects : Objects) (o : ObjId) → world_at (arena_in t objects) o ≡ world_of objects o
world_alike t objects o = ap (option_and_then (λ (e : Entry). e.object.world)) (object_found t objects o) ∙ by (map.get objects o)
  where
    by : (r : Option numbered.Entry) → option_and_then (λ (e : Entry). e.object.world) (option_map (entry_in t) r) ≡ option_and_then (λ (e : numbered.Entry). e.object.world) r
    by None = refl
    by (Some e) = refl

module _ {m : Meaning} {owner : ℕ} (objects : Objects) (t : Table) (arena : Arena) (s : Finds m owner objects t arena) where
  pub object_found_as : (o : ObjId) → IsTrue (numbered.has objects o) → object_at arena o ≡ object_at (arena_in t objects) o
  object_found_as o h = ap (λ a. object_at a o) s.is ∙ object_beside (arena_in t objects) s.more o (there_in t objects o h)

  pub fixed_found : (o : ObjId) (n : Text) → IsTrue (numbered.has objects o) → fixed arena o n ≡ fixed (arena_in t objects) o n
  fixed_found o n h = ap (λ (x : Internals). at_name x.fixed n) (object_found_as o h)

  pub hidden_found : (o : ObjId) (n : Text) → IsTrue (numbered.has objects o) → is_hidden arena o n ≡ is_hidden (arena_in t objects) o n
  hidden_found o n h = ap (λ (x : Internals). (flags_in x n).hidden) (object_found_as o h)

  pub number_found : next_number arena owner ≡ next_number (arena_in t objects) owner
  number_found = ap (λ a. next_number a owner) s.is ∙ number_beside (arena_in t objects) s.more owner s.further.apart

  pub world_object_found : IsArena objects → (w : WorldId) → IsTrue (has_world (worlds m) w) → world_object arena w ≡ world_object (arena_in t objects) w
  world_object_found is w h =
      ap (λ a. world_object a w) s.is
      ∙ world_object_beside (arena_in t objects) s.more w (λ o e q k. (s.further.worlds o e w q k).0 h)
      (λ p q f g. is.one_object p q w (sym (world_alike t objects p) ∙ f) (sym (world_alike t objects q) ∙ g))

  module _ (is : IsArena objects) where
    closed : IsClosed (arena_in t objects)
    closed = closed_in t objects is

    pub past_found : (p o : ObjId) → IsTrue (numbered.has objects o) → is_past arena p o ≡ is_past (arena_in t objects) p o
    past_found p o h = ap (λ a. is_past a p o) s.is ∙ ap (λ os. is_among os p) (prototypes_beside (arena_in t objects) s.more closed o (there_in t objects o h))

    pub get_found : (o : ObjId) (n : Text) → IsTrue (numbered.has objects o) → plan.get arena o n ≡ plan.get (arena_in t objects) o n
    get_found o n h = ap (λ a. plan.get a o n) s.is ∙ get_beside (arena_in t objects) s.more closed o n (there_in t objects o h)

    pub has_found : (o : ObjId) (n : Text) → IsTrue (numbered.has objects o) → plan.has arena o n ≡ plan.has (arena_in t objects) o n
    has_found o n h = ap plan.has_of (get_found o n h)

    pub put_found : (o : ObjId) (n : Text) (v : Value) → IsTrue (numbered.has objects o) → plan.put arena o n v ≡ plan.put (arena_in t objects) o n v
    put_found o n v h = ap (λ a. plan.put a o n v) s.is ∙ put_beside (arena_in t objects) s.more closed o n v (there_in t objects o h)

    pub delete_found : (o : ObjId) (n : Text) → IsTrue (numbered.has objects o) → plan.delete arena o n ≡ plan.delete (arena_in t objects) o n
    delete_found o n h = ap (λ a. plan.delete a o n) s.is ∙ delete_beside (arena_in t objects) s.more closed o n (there_in t objects o h)

    pub visits_found : (o : ObjId) → IsTrue (numbered.has objects o) → plan.visits arena o ≡ plan.visits (arena_in t objects) o
    visits_found o h = ap (λ a. plan.visits a o) s.is ∙ visits_beside (arena_in t objects) s.more closed o (there_in t objects o h)
