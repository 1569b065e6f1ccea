-- What stands under the names of an object.
use Rattle.std.proofs.Common.{◌≡◌, ℕ, zero, suc, ◌+◌, ◌<◌, ◌≤◌, true, List, [], ◌∷◌, ◌++◌, Option, Some, length, get_or, take, refl, sym, ap, ◌∙◌, subst, arith, append_assoc}
use Rattle.std.specs.Prelude.{map, filter}
use Rattle.std.proofs.lemmas.List.{map-append, map_more, take_all, length-map}
use Rattle.std.proofs.lemmas.List.Elements.{filter-append}
use Rattle.wjs_base.specs.declared.ids.ObjId.{ObjId}
use Rattle.wjs_base.specs.declared.values.Name.{Name}
use Rattle.wjs_base.specs.declared.values.Value.{Value as NumberedValue}
use Rattle.wjs_base.specs.Spelling.{IsName}
use Rattle.wjs_base.specs.Text.{Table}
use Rattle.wjs_arena.specs.declared.object.Flags.{Flags}
use Rattle.wjs_arena.specs.Entries.{Objects}
use Rattle.wjs_by_content.specs.Renamed.{Holds}
use Rattle.wjs_store.specs.State.{same_object}
use Rattle.wjs_by_content.specs.Values.{Text, Value, whole}
use Rattle.wjs_by_content.specs.Tables.{name_in, value_in, knows_name}
use Rattle.wjs_heap.specs.Heap.{HasValue}
use Rattle.wjs_props.proofs.SpelledNames.{holds_more}
use Rattle.wjs_meaning.specs.Start.{Property}
use Rattle.wjs_heap_steps.proofs.Making.{number_there}
use Rattle.wjs_start.specs.Blueprints.{length_part}
use Rattle.wjs_start.specs.Names.{IsNameOf, AreNamesOf}
use Rattle.wjs_start.specs.Flags.{IsFlagged, IsFixed, flags_among}
use Rattle.wjs_start.specs.Known.{Knows, ValueIs, IsThere, TellsPlaces, place_in}
use Rattle.wjs_start.specs.declared.known.Place.{Place}
use Rattle.wjs_start.specs.declared.known.Known.{Known}

pub holds_at : {A : Type 0} (P : A → Type 0) (xs : List A) (i : ℕ) (d : A) → i < length xs → Holds P xs → P (get_or xs i d)
holds_at P [] i d lt h = absurd (omega (arith, lt))
holds_at P (x ∷ xs) zero d lt h = h.0
holds_at P (x ∷ xs) (suc i) d lt h = holds_at P xs i d (omega (arith, lt)) h.1

-- one more name with attributes
flag_more : (t : Table) (xs : List (Name × Flags)) (ys : List (Text × Flags)) (n : Name) (u : Text) (f : Flags) → IsFlagged t xs ys → IsName t n → name_in t n ≡ u → IsFlagged t (xs ++ (n, f) ∷ []) (ys ++ (u, f) ∷ [])
flag_more t xs ys n u f h is spells = record {
  there = holds_more (λ (e : Name × Flags). IsName t e.0) xs (n, f) h.there is;
  are = map-append (λ (e : Name × Flags). (name_in t e.0, e.1)) xs ((n, f) ∷ []) ∙ ap (λ l. l ++ (name_in t n, f) ∷ []) h.are ∙ ap (λ (x : Text). ys ++ (x, f) ∷ []) spells;
}

-- one more value
fixed_more : (t : Table) (arena : Objects) (xs : List (Name × NumberedValue)) (ys : List (Text × Value)) (n : Name) (u : Text) (v : NumberedValue) (w : Value) → IsFixed t arena xs ys → IsNameOf t n u → HasValue t arena v → value_in t v ≡ w → IsFixed t arena (xs ++ (n, v) ∷ []) (ys ++ (u, w) ∷ [])
fixed_more t arena xs ys n u v w h is has e = record {
  there = holds_more (λ (x : Name × NumberedValue). IsName t x.0 × HasValue t arena x.1) xs (n, v) h.there (is.there, has);
  are = map-append (λ (x : Name × NumberedValue). (name_in t x.0, value_in t x.1)) xs ((n, v) ∷ []) ∙ ap (λ l. l ++ (name_in t n, value_in t v) ∷ []) h.are ∙ (λ i. ys ++ (is.spells i, e i) ∷ []);
}

pub length_added : (t : Table) (arena : Objects) (k : Known) (fixed new : List (Name × NumberedValue)) (v : NumberedValue) (n : ℕ) (o : Option ℕ) (before : List (Text × Value)) → o ≡ Some n → new ≡ fixed ++ (k.length, v) ∷ [] → ValueIs t v (whole n) → Knows t k → IsFixed t arena fixed before → IsFixed t arena new (before ++ length_part o)
length_added t arena k fixed new v n o before oe e is knows h =
    subst (λ (p : Option ℕ). IsFixed t arena new (before ++ length_part p)) (sym oe)
    (subst (λ (l : List (Name × NumberedValue)). IsFixed t arena l (before ++ length_part (Some n))) (sym e) (fixed_more t arena fixed before k.length _ v (whole n) h knows.length (number_there t t arena v n is.is) is.is))

-- ---- names with the same attributes

get-map : {A B : Type 0} (f : A → B) (xs : List A) (i : ℕ) (d : A) → get_or (map f xs) i (f d) ≡ f (get_or xs i d)
get-map f [] i d = refl
get-map f (x ∷ xs) zero d = refl
get-map f (x ∷ xs) (suc i) d = get-map f xs i d

module _ (t : Table) (names : List Name) (texts : List Text) (a : Flags) (is : AreNamesOf t names texts) where
  abbrev with : Text → Text × Flags
  with name = (name, a)

  as_many : length texts ≡ length names
  as_many = ap length (sym is.spell) ∙ length-map names (name_in t)

  pub flags_on : (flags new : List (Name × Flags)) (before : List (Text × Flags)) (i : ℕ) (d : Name) → i < length names → new ≡ flags ++ (get_or names i d, a) ∷ [] → IsFlagged t flags (before ++ map (λ (name : Text). (name, a)) (take i texts)) → IsFlagged t new (before ++ map (λ (name : Text). (name, a)) (take (i + 1) texts))
  flags_on flags new before i d lt e h =
      let there = holds_at (IsName t) names i d lt is.there in
      let spells : name_in t (get_or names i d) ≡ get_or texts i (name_in t d) = sym (get-map (name_in t) names i d) ∙ ap (λ (l : List Text). get_or l i (name_in t d)) is.spell in
      let more = flag_more t flags (before ++ map with (take i texts)) (get_or names i d) (get_or texts i (name_in t d)) a h there spells in
      let all : before ++ map with (take (i + 1) texts) ≡ before ++ map with (take i texts) ++ (get_or texts i (name_in t d), a) ∷ [] = ap (λ l. before ++ l) (map_more with texts i (name_in t d) (omega (arith, lt, as_many))) ∙ sym (append_assoc before (map with (take i texts)) ((get_or texts i (name_in t d), a) ∷ [])) in
      subst (λ l. IsFlagged t new l) (sym all) (subst (λ (l : List (Name × Flags)). IsFlagged t l (before ++ map with (take i texts) ++ (get_or texts i (name_in t d), a) ∷ [])) (sym e) more)

  pub flags_all : (flags : List (Name × Flags)) (before : List (Text × Flags)) (i : ℕ) → length names ≤ i → IsFlagged t flags (before ++ map (λ (name : Text). (name, a)) (take i texts)) → IsFlagged t flags (before ++ map (λ (name : Text). (name, a)) texts)
  flags_all flags before i le h = subst (λ (l : List Text). IsFlagged t flags (before ++ map with l)) (take_all i texts (omega (arith, le, as_many))) h

-- ---- slots

among-append : (ps qs : List Property) (o : ObjId) (declared : List Text) → flags_among (ps ++ qs) o declared ≡ flags_among ps o declared ++ flags_among qs o declared
among-append ps qs o declared =
    ap (map _) (filter-append (λ (p : Property). same_object (p.at).object o) ps qs)
    ∙ map-append _ (filter (λ (p : Property). same_object (p.at).object o) ps) (filter (λ (p : Property). same_object (p.at).object o) qs)

-- one slot more
pub slots_on : (t : Table) (places : List Place) (i : ℕ) (p : Place) (flags new : List (Name × Flags)) (o : ObjId) (declared : List Text) → i < length places → p ≡ get_or places i p → Holds (IsThere t) places → TellsPlaces t places
    → ((before : List (Text × Flags)) → IsThere t p → knows_name t (p.slot).name ≡ true → IsFlagged t flags before → IsFlagged t new (before ++ flags_among (place_in t p ∷ []) o declared))
    → IsFlagged t flags (flags_among (map (place_in t) (take i places)) o declared) → IsFlagged t new (flags_among (map (place_in t) (take (i + 1) places)) o declared)
slots_on t places i p flags new o declared lt e there tells f h =
    let all : flags_among (map (place_in t) (take (i + 1) places)) o declared ≡ flags_among (map (place_in t) (take i places)) o declared ++ flags_among (place_in t p ∷ []) o declared =
    ap (λ (l : List Property). flags_among l o declared) (map_more (place_in t) places i p lt ∙ ap (λ (q : Place). map (place_in t) (take i places) ++ place_in t q ∷ []) (sym e)) ∙ among-append (map (place_in t) (take i places)) (place_in t p ∷ []) o declared in
    let here = subst (IsThere t) (sym e) (holds_at (IsThere t) places i p lt there) in
    let known = subst (λ (q : Place). knows_name t (q.slot).name ≡ true) (sym e) (holds_at (λ (q : Place). knows_name t (q.slot).name ≡ true) places i p lt tells) in
    subst (λ l. IsFlagged t new l) (sym all) (f (flags_among (map (place_in t) (take i places)) o declared) here known h)

pub slots_all : (t : Table) (places : List Place) (i : ℕ) (flags : List (Name × Flags)) (o : ObjId) (declared : List Text) → length places ≤ i → IsFlagged t flags (flags_among (map (place_in t) (take i places)) o declared) → IsFlagged t flags (flags_among (map (place_in t) places) o declared)
slots_all t places i flags o declared le h = subst (λ (l : List Place). IsFlagged t flags (flags_among (map (place_in t) l) o declared)) (take_all i places le) h

pub flags_same : (t : Table) (flags : List (Name × Flags)) (ps qs : List Property) (o : ObjId) (xs ys : List Text) → ps ≡ qs → xs ≡ ys → IsFlagged t flags (flags_among ps o xs) → IsFlagged t flags (flags_among qs o ys)
flags_same t flags ps qs o xs ys e d h = subst (λ (l : List Property). IsFlagged t flags (flags_among l o ys)) e (subst (λ (l : List Text). IsFlagged t flags (flags_among ps o l)) d h)
