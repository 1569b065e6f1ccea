-- The first heap is what the meaning has before the first step.
use Rattle.std.proofs.Common.{◌≡◌, ℕ, zero, suc, ◌<◌, Bool, true, false, not, cond, List, [], ◌∷◌, ◌++◌, Option, None, Some, refl, sym, ap, ◌∙◌, subst, arith, IsTrue}
use Rattle.std.specs.Prelude.{nat_lt, map, is_some, IfSome}
use Rattle.std.specs.Option.{option_and_then, option_map}
use Rattle.std.specs.FinMap as finite
use Rattle.wjs_base.specs.declared.ids.TextId.{TextId}
use Rattle.wjs_base.specs.declared.ids.WorldId.{WorldId}
use Rattle.wjs_base.specs.declared.values.Slot.{Slot as NumberedSlot}
use Rattle.wjs_base.specs.Order.{obj_cmp}
use Rattle.wjs_base.specs.Text.{Table, Grows}
use Rattle.wjs_base.proofs.TextLaws.{Grows-refl, Grows-trans}
use Rattle.wjs_store.specs.State.{World, State, write, after, after_write, same_world, find_world, has_world, first_world}
use Rattle.wjs_store.specs.Meaning.{Meaning, View, PlainAct, PlainReply, IsSound, worlds}
use Rattle.wjs_store.specs.Fixed.{fixed, fresh}
use Rattle.wjs_store.specs.Naming.{plain}
use Rattle.wjs_store.proofs.Writes.{world_is}
use Rattle.wjs_arena.specs.Entries.{Objects, Entry, has, next_number, world_of}
use Rattle.wjs_by_content.specs.Rename.{renamed}
use Rattle.wjs_by_content.proofs.Keys.{empty_entries}
use Rattle.wjs_by_content.specs.Values.{Text, Value}
use Rattle.wjs_by_content.specs.Names.{Slot, slot_cmp, content}
use Rattle.wjs_by_content.specs.Objects.{Arena}
use Rattle.wjs_by_content.specs.Plans.{Told, Wrote, Writes, Gives, worlds_after, actions_of}
use Rattle.wjs_by_content.proofs.PlanLaws.{worlds_then, actions_then}
use Rattle.wjs_by_content.specs.Carried.{tell}
use Rattle.wjs_by_content.specs.Renamed.{Holds}
use Rattle.wjs_by_content.specs.Tables.{text_in, arena_in, entry_in}
use Rattle.wjs_by_content.specs.Telling.{names_of}
use Rattle.wjs_by_content.specs.Worlds.{worlds_in, told_by, KnowsWorlds}
use Rattle.wjs_heap.specs.Heap.{Parts, IsHeap, Performs, KnowsTold}
use Rattle.wjs_heap.specs.Means.{nothing}
use Rattle.wjs_meaning.specs.declared.builtin.Builtin.{Builtin}
use Rattle.wjs_meaning.specs.declared.builtin.Builtin.TheVariants as initial
use Rattle.wjs_meaning.specs.Builtins.{first_object, number_of, object_prototype, first_world_object}
use Rattle.wjs_meaning.specs.Start.{Property, properties, first_copy, first_full, first_objects, native_objects}
use Rattle.wjs_meaning.specs.Table.{natives, first_native}
use Rattle.wjs_heap_steps.proofs.Nearing.{has_named}
use Rattle.wjs_start.specs.declared.blueprints.Blueprint.{Blueprint}
use Rattle.wjs_start.specs.declared.known.Known.{Known}
use Rattle.wjs_start.specs.declared.known.Place.{Place}
use Rattle.wjs_start.specs.Blueprints.{built_from}
use Rattle.wjs_start.specs.Building.{Building, with_objects}
use Rattle.wjs_start.specs.First.{IsNew, IsFirst, object_count, writes_told}
use Rattle.wjs_start.specs.Known.{Knows, IsThere, place_in, declared_in}
use Rattle.wjs_start.specs.Writing.{writes_of, are_within}
use Rattle.std.proofs.lemmas.Bool.{ltb-true}
use Rattle.wjs_start.proofs.Creation.{below_there}

-- ---- no objects

no_objects : (n : ℕ) → IsTrue (has finite.empty (first_object n)) → ⊥
no_objects n h = let e : is_some (finite.get (finite.empty {X = Entry} {R = obj_cmp}) (first_object n)) ≡ false = ap is_some (finite.get-empty obj_cmp (first_object n)) in let d : true ≡ false = sym h ∙ e in cc

pub nothing_built : (h : Parts) → IsHeap h → h.arena ≡ finite.empty → Building h 0
nothing_built h heap none = record {
  heap = heap;
  count = counted (next_number h.arena 0).serial (λ lt. no_objects 0 (subst (λ (m : Objects). IsTrue (has m object_prototype)) none ((heap.arena.serials object_prototype).1 lt)));
  worlds = λ o w e.
      let q : option_and_then (λ (x : Entry). (x.object).world) None ≡ Some w = sym (ap (λ (m : Objects). world_of m o) none ∙ ap (option_and_then (λ (x : Entry). (x.object).world)) (finite.get-empty obj_cmp o)) ∙ e in
      cc;
  shown = λ lt. absurd (omega (arith, lt));
  codes = λ o x e. let q : None ≡ Some x = sym (ap (λ (m : Objects). finite.get m o) none ∙ finite.get-empty obj_cmp o) ∙ e in absurd (cc);
}
  where
    counted : (n : ℕ) → (0 < n → ⊥) → n ≡ 0
    counted zero f = refl
    counted (suc n) f = absurd (f (omega arith))

-- ---- the first world

-- the first world with these slots, alone
abbrev first_with : finite.FinMap slot_cmp Value → World content
first_with copy = record { id = first_world; parent = None; strict = false; copy = copy; first = finite.empty; written = finite.empty; closed = finite.empty }

abbrev one : finite.FinMap slot_cmp Value → State content
one copy = first_with copy ∷ []

wrote_one : (copy : finite.FinMap slot_cmp Value) (s : Slot) (v : Value) → after (one copy) (write first_world s (Some v)) ≡ one (finite.insert copy s v)
unfolding after_write
wrote_one copy s v = refl

slots_after : (ps : List Property) → worlds_after (writes_of ps) first_world (one finite.empty) ≡ one (first_copy ps)
slots_after [] = refl
slots_after (p ∷ ps) =
    worlds_then (λ done. Writes p.at (Some p.value) (Gives nothing)) first_world (writes_of ps) (one finite.empty)
    ∙ ap (λ (F : State content). after F (write first_world p.at (Some p.value))) (slots_after ps)
    ∙ wrote_one (first_copy ps) p.at p.value

told_after : (ps : List Property) → actions_of (writes_of ps) first_world (one finite.empty) ≡ writes_told ps
told_after [] = refl
told_after (p ∷ ps) =
    actions_then (λ done. Writes p.at (Some p.value) (Gives nothing)) first_world (writes_of ps) (one finite.empty)
    ∙ ap (λ (l : List Told). l ++ (write first_world p.at (Some p.value), Wrote) ∷ []) (told_after ps)

pub empty_in : {X Y : Type 0} (t : Table) (f : X → Y) → renamed {S = slot_cmp} (names_of t).slot f (finite.empty {X = X} {R = plain.cmp}) ≡ finite.empty
empty_in {X} {Y} t f = ap (λ es. finite.from_entries {R = slot_cmp} (map (λ e. ((names_of t).slot e.0, f e.1)) es)) (empty_entries plain.cmp)

fresh_in : (t : Table) → worlds_in t fresh ≡ one finite.empty
fresh_in t = λ i. record {
  id = first_world;
  parent = None;
  strict = false;
  copy = empty_in t (names_of t).value i;
  first = empty_in t (option_map (names_of t).value) i;
  written = empty_in t (λ u. u) i;
  closed = finite.empty;
} ∷ []

pub none_there : {X : Type 0} (s : NumberedSlot) (x : X) → finite.get (finite.empty {X = X} {R = plain.cmp}) s ≡ Some x → ⊥
none_there s x e = let h : None ≡ Some x = sym (finite.get-empty plain.cmp s) ∙ e in cc

fresh_known : (t : Table) → KnowsWorlds t fresh
fresh_known t = (record { copy = λ s v e. absurd (none_there s v e); first = λ s c e. absurd (none_there s c e); written = λ s u e. absurd (none_there s u e) }, tt)

fresh_first : IsTrue (has_world fresh first_world)
unfolding find_world
fresh_first = refl

-- a store that has nothing beside the first world is new
pub fixed_new : (m : Meaning) → m ≡ fixed fresh false → IsNew m
fixed_new m e = subst IsNew (sym e) (record { own = refl; each_view = λ v ok. refl; works = refl; silent = tt })

-- ---- all together

is_counted : (k : Builtin) → nat_lt (number_of k) object_count ≡ true
is_counted initial.ObjectPrototype = refl
is_counted _ = refl

number_below : (k : Builtin) → number_of k < object_count
number_below k = ltb-true (number_of k) object_count (is_counted k)

-- what has told nothing names no text
silent_known : (texts : Table) (told : Option (List (PlainAct × PlainReply))) → IfSome told (λ done. done ≡ []) → KnowsTold texts told
silent_known texts None h = tt
silent_known texts (Some done) h = subst (λ (l : List (PlainAct × PlainReply)). KnowsTold texts (Some l)) (sym h) tt

-- the first world alone is there
found_one : (x : World content) (w : WorldId) (b : Bool) → same_world x.id w ≡ b → is_some (cond b (Some x) None) ≡ true → w ≡ x.id
found_one x w true e h = sym (world_is x.id w e)
found_one x w false e h = absurd (cc)

one_there : (x : World content) (w : WorldId) → has_world (x ∷ []) w ≡ true → w ≡ x.id
unfolding find_world
one_there x w h = found_one x w (same_world x.id w) refl h

pub begun : (texts : Table) (before : Meaning) (ids : List TextId) (k : Known) (bs : List Blueprint) (places : List Place) (mid new : Parts) → (IsTrue (not new.store.spent) → IsSound new.store) → IsNew before → Grows texts mid.texts → mid.store ≡ before
    → ((t : Table) → Grows mid.texts t → Knows t k) → ((t : Table) → Grows mid.texts t → declared_in t k ≡ map (text_in t) ids)
    → ((declared : List Text) → built_from declared 0 bs ≡ first_objects declared ++ native_objects first_native natives)
    → Building mid object_count → ((t : Table) → Knows t k → arena_in t mid.arena ≡ with_objects finite.empty (built_from (declared_in t k) 0 bs))
    → places ≡ k.places.items → Performs first_world (λ t. writes_of (map (place_in t) places)) (λ t. nothing) mid new → IsFirst texts before ids new
begun texts before ids k bs places mid new sound is_new grows same knows names built building made place done = record {
  heap = done.heap;
  grows = Grows-trans texts mid.texts new.texts grows done.texts;
  arena = λ t g.
      ap (arena_in t) done.arena
      ∙ made t (knows t (later t g))
      ∙ ap (with_objects finite.empty) (built (declared_in t k) ∙ ap (λ (l : List Text). first_objects l ++ native_objects first_native natives) (names t (later t g)));
  slots = slots_so;
  told = λ t g v ok.
      (done.carries t t g (Grows-refl t) v ok (known t v ok)).told
      ∙ ap (λ (F : State content). tell (actions_of (writes_of (map (place_in t) places)) first_world F) (told_by t mid.store.told)) (begins t v ok)
      ∙ ap (λ (ps : List Property). tell (actions_of (writes_of ps) first_world (one finite.empty)) (told_by t mid.store.told)) (written t g)
      ∙ ap (λ (l : List Told). tell l (told_by t mid.store.told)) (told_after properties)
      ∙ ap (λ (m : Meaning). tell (writes_told properties) (told_by t m.told)) same;
  knows = λ v ok. (done.carries new.texts new.texts (Grows-refl new.texts) (Grows-refl new.texts) v ok (known new.texts v ok)).knows;
  marks = done.marks (subst (KnowsWorlds mid.texts) (sym own) (fresh_known mid.texts));
  tells = done.told (subst (KnowsWorlds mid.texts) (sym own) (fresh_known mid.texts)) (subst (λ (m : Meaning). KnowsTold mid.texts m.told) (sym same) (silent_known mid.texts before.told is_new.silent));
  objects = objects_there;
  builtins = λ k. objects_there (number_of k) (number_below k);
  first = done.still_there first_world (subst (λ F. IsTrue (has_world F first_world)) (sym own) fresh_first);
  no_other = λ w h. one_there (first_with (first_copy properties)) w (ap (λ F. has_world F w) (sym (slots_so new.texts (Grows-refl new.texts) new.store.own (sound works).admits_own)) ∙ has_named new.texts (worlds new.store) w ∙ h);
  own_worlds = λ o w e. (building.worlds o w (ap (λ (m : Objects). world_of m o) (sym done.arena) ∙ e)).1;
  shown = ap (λ (m : Objects). world_of m first_world_object) done.arena ∙ building.shown (number_below initial.FirstWorld);
  codes = λ o x e. building.codes o x (ap (λ (m : Objects). finite.get m o) (sym done.arena) ∙ e);
  narrows = λ v ok. admitted v ok;
  own = done.own ∙ ap (λ (m : Meaning). m.own) same;
  around = done.around ∙ ap (λ (m : Meaning). m.around) same;
  spent = done.spent ∙ ap (λ (m : Meaning). m.spent) same;
}
  where
    later : (t : Table) → Grows new.texts t → Grows mid.texts t
    later t g = Grows-trans mid.texts new.texts t done.texts g

    admitted : (v : View) → IsTrue (new.store.admits v) → IsTrue (before.admits v)
    admitted v ok = subst (λ (m : Meaning). IsTrue (m.admits v)) same (done.narrows v ok)

    full : (v : View) → IsTrue (new.store.admits v) → mid.store.full v ≡ fresh
    full v ok = ap (λ (m : Meaning). m.full v) same ∙ is_new.each_view v (admitted v ok)

    known : (t : Table) (v : View) → IsTrue (new.store.admits v) → KnowsWorlds t (mid.store.full v)
    known t v ok = subst (KnowsWorlds t) (sym (full v ok)) (fresh_known t)

    begins : (t : Table) (v : View) → IsTrue (new.store.admits v) → worlds_in t (mid.store.full v) ≡ one finite.empty
    begins t v ok = ap (worlds_in t) (full v ok) ∙ fresh_in t

    objects_there : (n : ℕ) → n < object_count → IsTrue (has new.arena (first_object n))
    objects_there n lt = subst (λ (m : Objects). IsTrue (has m (first_object n))) (sym done.arena) (below_there mid object_count building (first_object n) refl lt)

    written : (t : Table) → Grows new.texts t → map (place_in t) places ≡ properties
    written t g = ap (map (place_in t)) place ∙ (knows t (later t g)).places.are

    own : worlds mid.store ≡ fresh
    own = ap worlds same ∙ is_new.own

    slots_so : (t : Table) → Grows new.texts t → (v : View) → IsTrue (new.store.admits v) → worlds_in t (new.store.full v) ≡ first_full
    slots_so t g v ok =
        (done.carries t t g (Grows-refl t) v ok (known t v ok)).worlds
        ∙ ap (worlds_after (writes_of (map (place_in t) places)) first_world) (begins t v ok)
        ∙ ap (λ (ps : List Property). worlds_after (writes_of ps) first_world (one finite.empty)) (written t g)
        ∙ slots_after properties

    works : IsTrue (not new.store.spent)
    works = ap not (done.spent ∙ ap (λ (m : Meaning). m.spent) same) ∙ is_new.works

-- ---- on the way

pub knows_here : (a b : Table) (k : Known) → b ≡ a → ((t : Table) → Grows a t → Knows t k) → (t : Table) → Grows b t → Knows t k
knows_here a b k e f t g = f t (subst (λ (x : Table). Grows x t) e g)

pub names_here : (a b : Table) (k : Known) (ids : List TextId) → b ≡ a → ((t : Table) → Grows a t → declared_in t k ≡ map (text_in t) ids) → (t : Table) → Grows b t → declared_in t k ≡ map (text_in t) ids
names_here a b k ids e f t g = f t (subst (λ (x : Table). Grows x t) e g)

pub places_here : (t : Table) (k : Known) (places : List Place) → places ≡ k.places.items → Knows t k → Holds (IsThere t) places
places_here t k places e knows = subst (Holds (IsThere t)) (sym e) knows.places.there

all_within : are_within object_count properties ≡ true
all_within = refl

pub places_within : (t : Table) (k : Known) (places : List Place) → places ≡ k.places.items → Knows t k → are_within object_count (map (place_in t) places) ≡ true
places_within t k places e knows = ap (λ (l : List Place). are_within object_count (map (place_in t) l)) e ∙ ap (are_within object_count) knows.places.are ∙ all_within

pub first_there : (m before : Meaning) → m ≡ before → IsNew before → IsTrue (has_world (worlds m) first_world)
first_there m before e new = subst (λ F. IsTrue (has_world F first_world)) (sym (ap worlds e ∙ new.own)) fresh_first

pub made_from_nothing : (t : Table) (declared : List Text) (h mid : Parts) (now bs : List Blueprint) → h.arena ≡ finite.empty → now ≡ bs → arena_in t mid.arena ≡ with_objects (arena_in t h.arena) (built_from declared 0 now) → arena_in t mid.arena ≡ with_objects finite.empty (built_from declared 0 bs)
made_from_nothing t declared h mid now bs none e made =
    made
    ∙ ap (λ (a : Arena). with_objects a (built_from declared 0 now)) (ap (arena_in t) none ∙ empty_arena)
    ∙ ap (λ (l : List Blueprint). with_objects finite.empty (built_from declared 0 l)) e
  where
    empty_arena : arena_in t finite.empty ≡ finite.empty
    empty_arena = ap (λ es. finite.from_entries {R = obj_cmp} (map (λ e. (e.0, entry_in t e.1)) es)) (empty_entries obj_cmp)
