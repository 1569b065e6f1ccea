-- The elements past a new length go.
use Rattle.std.proofs.Common.{◌≡◌, ℕ, zero, suc, ◌+◌, ◌-◌, ◌<◌, ◌≤◌, Bool, true, false, ◌&&◌, List, [], ◌∷◌, Option, None, Some, refl, sym, ap, ◌∙◌, subst, filter, map as each, cond, IsTrue, arith, length, drop}
use Rattle.std.specs.Prelude.{nat_le, nat_lt, is_none, slice_get}
use Rattle.std.specs.Option.{option_map}
use Rattle.std.proofs.lemmas.Bool.{and_parts, true≢false, le-leb, leb-true, false_from_ne_true}
use Rattle.std.proofs.lemmas.List.{drop_more, drop_all}
use Rattle.std.proofs.lemmas.Option.{slice_get_within, get_or_from_slice_get}
use Rattle.wjs_base.specs.declared.ids.ObjId.{ObjId}
use Rattle.wjs_base.specs.declared.ids.TextId.{TextId}
use Rattle.wjs_base.specs.declared.ids.WorldId.{WorldId}
use Rattle.wjs_base.specs.declared.values.Content.{Content}
use Rattle.wjs_base.specs.declared.values.Name.{Name}
use Rattle.wjs_base.specs.declared.values.Name.TheVariants as name
use Rattle.wjs_base.specs.declared.values.Value.{Value as NumberedValue}
use Rattle.wjs_base.specs.Order as numbered
use Rattle.wjs_base.specs.Spelling.{IsName, greatest_index}
use Rattle.wjs_base.specs.Text.{Table, Grows, IsTable}
use Rattle.wjs_base.proofs.TextLaws.{Grows-IsName, Grows-trans}
use Rattle.wjs_store.specs.State.{has_world}
use Rattle.wjs_store.specs.Meaning.{worlds}
use Rattle.wjs_store.specs.Shown.{content_of, slots_of}
use Rattle.wjs_arena.specs.Entries as entries
use Rattle.wjs_by_content.specs.Ascends.{Ascends}
use Rattle.wjs_by_content.specs.Renamed.{Holds}
use Rattle.wjs_by_content.specs.Values.{Text, Value}
use Rattle.wjs_by_content.specs.Names.{Slot, slot, index_of, index_name}
use Rattle.wjs_by_content.specs.Indices.{index_again}
use Rattle.wjs_by_content.specs.Plans.{Plan, Gives, Reads, Writes, Lists, then_plan}
use Rattle.wjs_by_content.specs.Tables.{name_in, text_in, value_in, slot_in, content_in, knows_name, knows_text}
use Rattle.wjs_by_content.specs.Worlds.{in_order, listing}
use Rattle.wjs_by_content.proofs.Growth.{name_grows}
use Rattle.wjs_by_content.proofs.Known.{name_known}
use Rattle.wjs_heap.specs.Heap.{Parts, IsHeap, Performs}
use Rattle.wjs_heap.specs.Means.{nothing}
use Rattle.wjs_by_content.specs.Properties as plan
use Rattle.wjs_by_content.specs.Properties.{is_index_within}
use Rattle.wjs_heap.proofs.Turns.{performs_nothing, performs_then, performs_same}
use Rattle.wjs_props.proofs.Listed.{passing_same}

-- ---- one by one

-- what follows the read of an element
after_found : ℕ → ObjId → Plan (Unit {0}) → Option Value → Plan (Unit {0})
after_found n o rest found = elim found [ None ↦ rest | Some v ↦ Writes (slot o (index_name n)) None rest ]

after_found_then : (n : ℕ) (o : ObjId) (rest : Plan (Unit {0})) (found : Option Value) → after_found n o rest found ≡ then_plan (after_found n o (Gives tt) found) (λ u. rest)
unfolding after_found
after_found_then n o rest None = refl
after_found_then n o rest (Some v) = refl

-- the first element, and then the others
each_next : (k n : ℕ) (o : ObjId) → plan.cut_each (suc k) n o ≡ then_plan (plan.cut_each 1 n o) (λ u. plan.cut_each k (n + 1) o)
unfolding after_found
each_next k n o = λ i. Reads (slot o (index_name n)) (λ found. after_found_then n o (plan.cut_each k (n + 1) o) found i)

module _ (w : WorldId) (o : ObjId) (n : ℕ) (small : n ≤ greatest_index) (old mid : Parts) (c : Content) where
  module _ (read : Performs w (λ t. Reads (slot_in t (record { object = o; name = name.Index n })) Gives) (λ t. content_in t c) old mid) where
    pub one_absent : content_of c ≡ None → Performs w (λ t. plan.cut_each 1 n o) (λ t. nothing) old mid
    unfolding after_found
    one_absent is = performs_then w (λ t. Reads (slot o (index_name n)) Gives) (λ t. after_found n o (Gives tt)) (λ t. content_in t c) (λ t. nothing) old mid mid read
        (performs_same w (λ t. Gives nothing) _ (λ t. nothing) (λ t. nothing) mid mid
        (λ t g. sym (ap (λ r. after_found n o (Gives tt) (option_map (value_in t) r)) is)) (λ t g. refl)
        (performs_nothing w (λ t. nothing) mid read.heap))

    pub one_present : (v : NumberedValue) → content_of c ≡ Some v → (new : Parts) → Performs w (λ t. Writes (slot_in t (record { object = o; name = name.Index n })) None (Gives nothing)) (λ t. nothing) mid new
        → Performs w (λ t. plan.cut_each 1 n o) (λ t. nothing) old new
    unfolding after_found
    one_present v is new wrote = performs_then w (λ t. Reads (slot o (index_name n)) Gives) (λ t. after_found n o (Gives tt)) (λ t. content_in t c) (λ t. nothing) old mid new read
        (performs_same w _ _ (λ t. nothing) (λ t. nothing) mid new
        (λ t g. sym (ap (λ r. after_found n o (Gives tt) (option_map (value_in t) r)) is)) (λ t g. refl) wrote)

-- elements from `from` on are gone, up to `at`: what takes the rest away takes all away
pub record IsCutting (w : WorldId) (o : ObjId) (from to : ℕ) (old now : Parts) (at : ℕ) : Type 0 where
  pub heap : IsHeap now
  pub world : IsTrue (has_world (worlds now.store) w)
  pub there : IsTrue (entries.has now.arena o)
  pub rest : (new : Parts) → Performs w (λ t. plan.cut_each (to - at) at o) (λ t. nothing) now new → Performs w (λ t. plan.cut_each (to - from) from o) (λ t. nothing) old new

pub cut_begins : (w : WorldId) (o : ObjId) (from to : ℕ) (h : Parts) → IsHeap h → IsTrue (has_world (worlds h.store) w) → IsTrue (entries.has h.arena o) → IsCutting w o from to h h from
cut_begins w o from to h heap world there = record { heap = heap; world = world; there = there; rest = λ new f. f }

there_still : (o : ObjId) (a b : entries.Objects) → b ≡ a → IsTrue (entries.has a o) → IsTrue (entries.has b o)
there_still o a b e h = subst (λ (z : entries.Objects). IsTrue (entries.has z o)) (sym e) h

module _ (w : WorldId) (o : ObjId) (from to : ℕ) (old now : Parts) (at : ℕ) (so : IsCutting w o from to old now at) where
  pub cut_goes_on : (mid : Parts) → at < to → Performs w (λ t. plan.cut_each 1 at o) (λ t. nothing) now mid → IsCutting w o from to old mid (at + 1)
  cut_goes_on mid less one = record {
    heap = one.heap;
    world = one.still_there w so.world;
    there = there_still o now.arena mid.arena one.arena so.there;
    rest = λ new f. so.rest new (performs_same w _ _ (λ t. nothing) (λ t. nothing) now new
        (λ t g. sym (ap (λ k. plan.cut_each k at o) count ∙ each_next (to - (at + 1)) at o)) (λ t g. refl)
        (performs_then w (λ t. plan.cut_each 1 at o) (λ t u. plan.cut_each (to - (at + 1)) (at + 1) o) (λ t. nothing) (λ t. nothing) now mid new one f));
  }
    where
      count : to - at ≡ suc (to - (at + 1))
      count = omega (arith, less)

  pub cut_ends : to ≤ at → Performs w (λ t. plan.cut_each (to - from) from o) (λ t. nothing) old now
  cut_ends past = so.rest now (performs_same w (λ t. Gives nothing) _ (λ t. nothing) (λ t. nothing) now now
      (λ t g. sym (ap (λ k. plan.cut_each k at o) none)) (λ t g. refl) (performs_nothing w (λ t. nothing) now so.heap))
    where
      none : to - at ≡ 0
      none = omega (arith, past)

-- ---- of a listing

listed_if : Text → ObjId → Plan (Unit {0}) → Bool → Plan (Unit {0})
listed_if x o rest b = elim b [ true ↦ Writes (slot o x) None rest | false ↦ rest ]

listed_if_then : (x : Text) (o : ObjId) (rest : Plan (Unit {0})) (b : Bool) → listed_if x o rest b ≡ then_plan (listed_if x o (Gives tt) b) (λ u. rest)
unfolding listed_if
listed_if_then x o rest true = refl
listed_if_then x o rest false = refl

module _ (n m : ℕ) (o : ObjId) where
  within : Text → Bool
  within x = is_index_within n m (index_of x)

  -- the first name, and then the others
  listed_next : (x : Text) (xs : List Text) → plan.cut_listed (x ∷ xs) n m o ≡ then_plan (plan.cut_listed (x ∷ []) n m o) (λ u. plan.cut_listed xs n m o)
  unfolding listed_if
  listed_next x xs = listed_if_then x o (plan.cut_listed xs n m o) (is_index_within n m (index_of x))

  -- each is written absent
  all_absent : List Text → Plan (Unit {0})
  all_absent [] = Gives tt
  all_absent (x ∷ xs) = Writes (slot o x) None (all_absent xs)

  -- only those within count
  listed_within : (xs : List Text) → plan.cut_listed xs n m o ≡ all_absent (filter within xs)
  unfolding all_absent within listed_if
  listed_within [] = refl
  listed_within (x ∷ xs) = ap (λ rest. listed_if x o rest (within x)) (listed_within xs) ∙ by (within x)
    where
      by : (b : Bool) → listed_if x o (all_absent (filter within xs)) b ≡ all_absent (cond b (x ∷ filter within xs) (filter within xs))
      by true = refl
      by false = refl

  filter_names : (ss : List Slot) → filter within (each (λ s. s.name) ss) ≡ each (λ s. s.name) (filter (λ s. is_index_within n m (index_of s.name)) ss)
  unfolding within
  filter_names [] = refl
  filter_names (s ∷ ss) = by (within s.name) (filter_names ss)
    where
      p : Slot → Bool
      p u = is_index_within n m (index_of u.name)

      by : (b : Bool) → filter within (each (λ s. s.name) ss) ≡ each (λ s. s.name) (filter p ss) → cond b (s.name ∷ filter within (each (λ s. s.name) ss)) (filter within (each (λ s. s.name) ss)) ≡ each (λ s. s.name) (cond b (s ∷ filter p ss) (filter p ss))
      by true e = ap (λ xs. s.name ∷ xs) e
      by false e = e

  names_again : (t : Table) (ns : List Name) → each (λ s. s.name) (each (slot_in t) (slots_of o ns)) ≡ each (name_in t) ns
  names_again t [] = refl
  names_again t (x ∷ ns) = ap (λ xs. name_in t x ∷ xs) (names_again t ns)

  -- in the order of the store the same elements go in the same order
  listing_cuts : (t : Table) (ns : List Name) → Holds (λ x. knows_name t x ≡ true) ns → Ascends numbered.slot_cmp (slots_of o ns) → plan.cut_listed (listing t o ns) n m o ≡ plan.cut_listed (each (name_in t) ns) n m o
  listing_cuts t ns k h =
      listed_within (listing t o ns)
      ∙ ap all_absent (filter_names (in_order (each (slot_in t) (slots_of o ns))) ∙ ap (each (λ s. s.name)) (passing_same t o (is_index_within n m) refl ns k h) ∙ sym (filter_names (each (slot_in t) (slots_of o ns))) ∙ ap (filter within) (names_again t ns))
      ∙ sym (listed_within (each (name_in t) ns))

-- names that are there are known
pub names_known : (texts t : Table) → IsTable texts → Grows texts t → (ns : List Name) → Holds (IsName texts) ns → Holds (λ x. knows_name t x ≡ true) ns
names_known texts t table g [] h = tt
names_known texts t table g (x ∷ ns) h = ((name_grows texts t g x (name_known texts table x h.0)).0, names_known texts t table g ns h.1)

pub names_stay : (old new : Table) → Grows old new → (ns : List Name) → Holds (IsName old) ns → Holds (IsName new) ns
names_stay old new g [] h = tt
names_stay old new g (x ∷ ns) h = (Grows-IsName old new x g h.0, names_stay old new g ns h.1)

-- the listing, and what it cuts
pub listed_cut : (w : WorldId) (o : ObjId) (n m : ℕ) (ns : List Name) (old mid new : Parts) → Performs w (λ t. Lists o Gives) (λ t. listing t o ns) old mid → Holds (IsName mid.texts) ns → Ascends numbered.slot_cmp (slots_of o ns)
    → Performs w (λ t. plan.cut_listed (each (name_in t) ns) n m o) (λ t. nothing) mid new → Performs w (λ t. Lists o (λ names. plan.cut_listed names n m o)) (λ t. nothing) old new
listed_cut w o n m ns old mid new lists names rises cuts =
    performs_then w (λ t. Lists o Gives) (λ t names. plan.cut_listed names n m o) (λ t. listing t o ns) (λ t. nothing) old mid new lists
    (performs_same w _ _ (λ t. nothing) (λ t. nothing) mid new
    (λ t g. sym (listing_cuts n m o t ns (names_known mid.texts t lists.heap.table (Grows-trans mid.texts new.texts t cuts.texts g) ns names) rises)) (λ t g. refl) cuts)

-- ---- one name

module _ (n m : ℕ) (texts t : Table) (table : IsTable texts) (g : Grows texts t) where
  -- a text is no element
  text_not_within : (id : TextId) → IsName texts (name.Text id) → is_index_within n m (index_of (text_in t id)) ≡ false
  text_not_within id is = none_not_within (index_of (text_in t id)) (and_parts (knows_text t id) (is_none (index_of (text_in t id))) (name_grows texts t g (name.Text id) (name_known texts table (name.Text id) is)).0).1
    where
      none_not_within : (x : Option ℕ) → is_none x ≡ true → is_index_within n m x ≡ false
      none_not_within None e = refl
      none_not_within (Some k) e = absurd (true≢false (sym e))

  pub other_not_within : (x : Name) → IsName texts x → ((i : ℕ) → x ≡ name.Index i → ⊥) → is_index_within n m (index_of (name_in t x)) ≡ false
  other_not_within (name.Index i) is other = absurd (other i refl)
  other_not_within (name.Text id) is other = text_not_within id is

pub index_small : (texts : Table) (x : Name) (i : ℕ) → x ≡ name.Index i → IsName texts x → i ≤ greatest_index
index_small texts x i e is = subst (IsName texts) e is

-- an index is within where it is from n to before m
pub index_is_within : (n m : ℕ) (t : Table) (x : Name) (i : ℕ) → x ≡ name.Index i → i ≤ greatest_index → is_index_within n m (index_of (name_in t x)) ≡ (nat_le n i && nat_lt i m)
index_is_within n m t x i e small = ap (λ (y : Name). is_index_within n m (index_of (name_in t y))) e ∙ ap (is_index_within n m) (index_again i small)

module _ (w : WorldId) (o : ObjId) (x : Name) (n m : ℕ) (old : Parts) where
  pub name_stays_put : IsHeap old → ((t : Table) → Grows old.texts t → is_index_within n m (index_of (name_in t x)) ≡ false) → Performs w (λ t. plan.cut_listed (name_in t x ∷ []) n m o) (λ t. nothing) old old
  unfolding listed_if
  name_stays_put heap out = performs_same w (λ t. Gives nothing) _ (λ t. nothing) (λ t. nothing) old old
      (λ t g. sym (ap (listed_if (name_in t x) o (Gives tt)) (out t g))) (λ t g. refl) (performs_nothing w (λ t. nothing) old heap)

  name_goes : (new : Parts) → ((t : Table) → is_index_within n m (index_of (name_in t x)) ≡ true) → Performs w (λ t. Writes (slot_in t (record { object = o; name = x })) None (Gives nothing)) (λ t. nothing) old new
      → Performs w (λ t. plan.cut_listed (name_in t x ∷ []) n m o) (λ t. nothing) old new
  unfolding listed_if
  name_goes new inside wrote = performs_same w _ _ (λ t. nothing) (λ t. nothing) old new
      (λ t g. sym (ap (listed_if (name_in t x) o (Gives tt)) (inside t))) (λ t g. refl) wrote

  -- by the name that was handed in
  pub name_goes_as : (y : Name) → x ≡ y → (new : Parts) → ((t : Table) → is_index_within n m (index_of (name_in t x)) ≡ true) → Performs w (λ t. Writes (slot_in t (record { object = o; name = y })) None (Gives nothing)) (λ t. nothing) old new
      → Performs w (λ t. plan.cut_listed (name_in t x ∷ []) n m o) (λ t. nothing) old new
  name_goes_as y e new inside wrote = name_goes new inside (subst (λ (z : Name). Performs w (λ t. Writes (slot_in t (record { object = o; name = z })) None (Gives nothing)) (λ t. nothing) old new) (sym e) wrote)

-- ---- name by name

holds_at : {A : Type 0} (Q : A → Type 0) (xs : List A) (k : ℕ) (x : A) → Holds Q xs → slice_get xs k ≡ Some x → Q x
holds_at Q [] k x h e = cc
holds_at Q (y ∷ xs) zero x h e = let q : y ≡ x = cc in subst Q q h.0
holds_at Q (y ∷ xs) (suc k) x h e = holds_at Q xs k x h.1 e

pub drop_next : {A : Type 0} (xs : List A) (k : ℕ) (x : A) → slice_get xs k ≡ Some x → drop k xs ≡ x ∷ drop (k + 1) xs
drop_next xs k x e = drop_more xs k x (slice_get_within xs k x e) ∙ ap (λ y. y ∷ drop (k + 1) xs) (get_or_from_slice_get xs k x x e)

-- the names before a place are done: what does the rest does all
pub record IsNaming (w : WorldId) (o : ObjId) (names : List Name) (n m : ℕ) (old now : Parts) (place : ℕ) : Type 0 where
  pub heap : IsHeap now
  pub world : IsTrue (has_world (worlds now.store) w)
  pub there : IsTrue (entries.has now.arena o)
  pub named : Holds (IsName now.texts) names
  pub rest : (new : Parts) → Performs w (λ t. plan.cut_listed (each (name_in t) (drop place names)) n m o) (λ t. nothing) now new → Performs w (λ t. plan.cut_listed (each (name_in t) names) n m o) (λ t. nothing) old new

pub naming_begins : (w : WorldId) (o : ObjId) (names : List Name) (n m : ℕ) (h : Parts) → IsHeap h → IsTrue (has_world (worlds h.store) w) → IsTrue (entries.has h.arena o) → Holds (IsName h.texts) names → IsNaming w o names n m h h 0
naming_begins w o names n m h heap world there is = record { heap = heap; world = world; there = there; named = is; rest = λ new f. f }

module _ (w : WorldId) (o : ObjId) (names : List Name) (n m : ℕ) (old now : Parts) (place : ℕ) (so : IsNaming w o names n m old now place) where
  pub name_there : (x : Name) → slice_get names place ≡ Some x → IsName now.texts x
  name_there x at = holds_at (IsName now.texts) names place x so.named at

  pub naming_goes_on : (mid : Parts) (x : Name) → slice_get names place ≡ Some x → Performs w (λ t. plan.cut_listed (name_in t x ∷ []) n m o) (λ t. nothing) now mid → IsNaming w o names n m old mid (place + 1)
  naming_goes_on mid x at one = record {
    heap = one.heap;
    world = one.still_there w so.world;
    there = there_still o now.arena mid.arena one.arena so.there;
    named = names_stay now.texts mid.texts one.texts names so.named;
    rest = λ new f. so.rest new (performs_same w _ _ (λ t. nothing) (λ t. nothing) now new
        (λ t g. sym (ap (λ xs. plan.cut_listed (each (name_in t) xs) n m o) (drop_next names place x at) ∙ listed_next n m o (name_in t x) (each (name_in t) (drop (place + 1) names)))) (λ t g. refl)
        (performs_then w (λ t. plan.cut_listed (name_in t x ∷ []) n m o) (λ t u. plan.cut_listed (each (name_in t) (drop (place + 1) names)) n m o) (λ t. nothing) (λ t. nothing) now mid new one f));
  }

  pub naming_ends : length names ≤ place → Performs w (λ t. plan.cut_listed (each (name_in t) names) n m o) (λ t. nothing) old now
  naming_ends past = so.rest now (performs_same w (λ t. Gives nothing) _ (λ t. nothing) (λ t. nothing) now now
      (λ t g. sym (ap (λ xs. plan.cut_listed (each (name_in t) xs) n m o) (drop_all place names past))) (λ t g. refl) (performs_nothing w (λ t. nothing) now so.heap))

-- ---- few or many

cut_by : ℕ → ℕ → ObjId → Bool → Plan (Unit {0})
cut_by n m o few = elim few [ true ↦ plan.cut_each (m - n) n o | false ↦ Lists o (λ names. plan.cut_listed names n m o) ]

pub cut_few : (w : WorldId) (o : ObjId) (n m : ℕ) (old new : Parts) → m - n ≤ 64 → Performs w (λ t. plan.cut_each (m - n) n o) (λ t. nothing) old new → Performs w (λ t. plan.cut n m o) (λ t. nothing) old new
unfolding cut_by
cut_few w o n m old new few f = performs_same w _ _ (λ t. nothing) (λ t. nothing) old new (λ t g. sym (ap (cut_by n m o) (le-leb (m - n) 64 few))) (λ t g. refl) f

pub cut_many : (w : WorldId) (o : ObjId) (n m : ℕ) (old new : Parts) → 64 < m - n → Performs w (λ t. Lists o (λ names. plan.cut_listed names n m o)) (λ t. nothing) old new → Performs w (λ t. plan.cut n m o) (λ t. nothing) old new
unfolding cut_by
cut_many w o n m old new many f = performs_same w _ _ (λ t. nothing) (λ t. nothing) old new (λ t g. sym (ap (cut_by n m o) (false_from_ne_true (nat_le (m - n) 64) (λ e. let few = leb-true (m - n) 64 e in omega (arith, few, many))))) (λ t g. refl) f
