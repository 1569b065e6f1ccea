-- [[Put]].
use Rattle.std.proofs.Common.{◌≡◌, ℕ, ◌+◌, ◌≤◌, ◌<◌, [], Bool, true, false, Option, None, Some, refl, sym, ap, ◌∙◌, subst, IsTrue, IfSome, arith}
use Rattle.std.specs.Prelude.{nat_lt, is_some, is_none}
use Rattle.std.specs.Option.{option_map, option_map_or}
use Rattle.std.specs.FinMap as map
use Rattle.std.specs.Char.{digit_value}
use Rattle.std.specs.Str.Parse.{AllDigits}
use Rattle.std.proofs.lemmas.Fmt.{decimal_is_IsNumeral}
use Rattle.std.proofs.lemmas.Bool.{and_parts, true≢false, lt-ltb, ltb-true, false_from_ne_true}
use Rattle.wjs_base.specs.declared.ids.ObjId.{ObjId}
use Rattle.wjs_base.specs.declared.ids.TextId.{TextId}
use Rattle.wjs_base.specs.declared.ids.WorldId.{WorldId}
use Rattle.wjs_base.specs.declared.values.Content.{Content}
use Rattle.wjs_base.specs.declared.values.Name.{Name}
use Rattle.wjs_base.specs.declared.values.Name.TheVariants as name
use Rattle.wjs_base.specs.declared.values.Slot.{Slot as NumberedSlot}
use Rattle.wjs_base.specs.declared.values.Value.{Value as NumberedValue}
use Rattle.wjs_base.specs.declared.values.Value.TheVariants as value
use Rattle.wjs_base.specs.Spelling.{IsName, greatest_index}
use Rattle.wjs_base.specs.Text.{Table, Grows, IsTable, Denotes}
use Rattle.wjs_base.proofs.TextLaws.{Grows-IsName, Denotes-Has, Grows-trans}
use Rattle.wjs_props.proofs.InOrder.{none_of}
use Rattle.wjs_arena.specs.declared.class.Class.{Class}
use Rattle.wjs_arena.specs.declared.class.Class.TheVariants as class
use Rattle.wjs_arena.specs.declared.object.Object.{Object as NumberedObject}
use Rattle.wjs_arena.specs.Chains as numbered
use Rattle.wjs_arena.specs.Entries.{Objects, Entry as NumberedEntry}
use Rattle.wjs_arena.specs.Entries as entries
use Rattle.wjs_by_content.specs.Values.{Text, Value, whole, same_text, text_Decides}
use Rattle.wjs_by_content.specs.Names.{Slot, slot, length_name, index_of, index_name}
use Rattle.wjs_by_content.specs.Indices.{index_again}
use Rattle.wjs_by_content.specs.Objects.{Entry, object_of, is_array, is_array_class}
use Rattle.wjs_by_content.specs.Plans.{Plan, Gives, Reads, Writes, then_plan}
use Rattle.wjs_by_content.specs.Tables.{name_in, text_in, value_in, slot_in, content_in, entry_in, arena_in, knows_text}
use Rattle.wjs_by_content.proofs.ArenaMaps.{object_found}
use Rattle.wjs_by_content.proofs.Growth.{name_grows}
use Rattle.wjs_by_content.proofs.Known.{name_known, text_is}
use Rattle.wjs_by_content.specs.declared.answers.PutAnswer.{PutAnswer}
use Rattle.wjs_by_content.specs.declared.answers.PutAnswer.TheVariants.{Done, Ignored, BadLength}
use Rattle.wjs_heap.specs.Heap.{Parts, HasValue, HasSlot, IsHeap, Performs}
use Rattle.wjs_heap.specs.Means.{nothing}
use Rattle.wjs_by_content.specs.Properties as plan
use Rattle.wjs_heap.proofs.Turns.{performs_nothing, performs_then, performs_same}
use Rattle.wjs_props.proofs.ByContent.{puttable_in}
use Rattle.wjs_props.proofs.Cutting.{index_small}

-- a name spells the same in a table that has grown
spells_still : (texts t : Table) → IsTable texts → Grows texts t → (n : Name) → IsName texts n → (x : Text) → name_in texts n ≡ x → name_in t n ≡ x
spells_still texts t table g n is x e = (name_grows texts t g n (name_known texts table n is)).1 ∙ e

-- a plan that gives what is known
gives_same : {A : Type 0} (w : WorldId) (p : Table → Plan A) (a : A) (h : Parts) → IsHeap h → ((t : Table) → Grows h.texts t → p t ≡ Gives a) → Performs w p (λ t. a) h h
gives_same w p a h heap e = performs_same w (λ t. Gives a) p (λ t. a) (λ t. a) h h (λ t g. sym (e t g)) (λ t g. refl) (performs_nothing w (λ t. a) h heap)

-- a write, and then an answer
pub wrote_gives : {A : Type 0} (w : WorldId) (s : Table → Slot) (c : Table → Option Value) (a : A) (old new : Parts) → Performs w (λ t. Writes (s t) (c t) (Gives nothing)) (λ t. nothing) old new → Performs w (λ t. Writes (s t) (c t) (Gives a)) (λ t. a) old new
wrote_gives w s c a old new f = performs_then w (λ t. Writes (s t) (c t) (Gives nothing)) (λ t u. Gives a) (λ t. nothing) (λ t. a) old new new f (performs_nothing w (λ t. a) new f.heap)

-- a slot is there still
pub slot_after : (a b : Parts) (s : NumberedSlot) → Grows a.texts b.texts → b.arena ≡ a.arena → IsTrue (entries.has a.arena s.object) → IsName a.texts s.name → HasSlot b.texts b.arena s
slot_after a b s g same there is = record { object = subst (λ (z : Objects). IsTrue (entries.has z s.object)) (sym same) there; name = Grows-IsName a.texts b.texts s.name g is }

-- a number names nothing
pub number_there : (texts : Table) (arena : Objects) (v : NumberedValue) (n : ℕ) → ((t : Table) → value_in t v ≡ whole n) → HasValue texts arena v
number_there texts arena value.Undefined n e = tt
number_there texts arena value.Null n e = tt
number_there texts arena (value.Bool b) n e = tt
number_there texts arena (value.Number x) n e = tt
number_there texts arena (value.Text id) n e = let q = e [] in cc
number_there texts arena (value.Object o) n e = let q = e [] in cc

-- ---- an index

after_length : ObjId → ℕ → Value → Bool → Plan PutAnswer
after_length o i v below = elim below [ true ↦ Gives Done | false ↦ Writes (slot o length_name) (Some (whole (i + 1))) (Gives Done) ]

after_read : ObjId → ℕ → Value → ℕ → Plan PutAnswer
after_read o i v m = Writes (slot o (index_name i)) (Some v) (after_length o i v (nat_lt i m))

module _ (w : WorldId) (s : NumberedSlot) (i : ℕ) (v : NumberedValue) (h0 h1 h2 : Parts) (heap : IsHeap h0) (is : IsName h0.texts s.name) (spells : name_in h0.texts s.name ≡ length_name) (c : Content) (m : ℕ) (length : (t : Table) → plan.length_of (content_in t c) ≡ m)
    (read : Performs w (λ t. Reads (slot_in t s) Gives) (λ t. content_in t c) h0 h1)
    (wrote : Performs w (λ t. Writes (slot_in t (record { object = s.object; name = name.Index i })) (Some (value_in t v)) (Gives nothing)) (λ t. nothing) h1 h2) where
  element_put : (h3 : Parts) → Performs w (λ t. after_length s.object i (value_in t v) (nat_lt i m)) (λ t. Done) h2 h3 → Performs w (λ t. plan.put_index s.object i (value_in t v)) (λ t. Done) h0 h3
  unfolding after_length after_read
  element_put h3 last =
      let then_wrote : Performs w (λ t. after_read s.object i (value_in t v) m) (λ t. Done) h1 h3 = performs_then w (λ t. Writes (slot s.object (index_name i)) (Some (value_in t v)) (Gives nothing)) (λ t u. after_length s.object i (value_in t v) (nat_lt i m)) (λ t. nothing) (λ t. Done) h1 h2 h3 wrote last in
      let all = performs_then w (λ t. Reads (slot_in t s) Gives) (λ t found. after_read s.object i (value_in t v) (plan.length_of found)) (λ t. content_in t c) (λ t. Done) h0 h1 h3 read
      (performs_same w _ _ (λ t. Done) (λ t. Done) h1 h3 (λ t g. ap (after_read s.object i (value_in t v)) (sym (length t))) (λ t g. refl) then_wrote) in
      performs_same w _ _ (λ t. Done) (λ t. Done) h0 h3
      (λ t g. ap (λ (x : Text). Reads (slot s.object x) (λ found. after_read s.object i (value_in t v) (plan.length_of found))) (spells_still h0.texts t heap.table (Grows-trans h0.texts h3.texts t all.texts g) s.name is length_name spells))
      (λ t g. refl) all

  pub put_below : i < m → Performs w (λ t. plan.put_index s.object i (value_in t v)) (λ t. Done) h0 h2
  unfolding after_length
  put_below less = element_put h2 (gives_same w (λ t. after_length s.object i (value_in t v) (nat_lt i m)) Done h2 wrote.heap (λ t g. ap (after_length s.object i (value_in t v)) (lt-ltb i m less)))

  pub put_past : m ≤ i → (h3 : Parts) (greater : NumberedValue) → ((t : Table) → value_in t greater ≡ whole (i + 1)) → Performs w (λ t. Writes (slot_in t s) (Some (value_in t greater)) (Gives nothing)) (λ t. nothing) h2 h3 → Performs w (λ t. plan.put_index s.object i (value_in t v)) (λ t. Done) h0 h3
  unfolding after_length
  put_past past h3 greater is_greater longer = element_put h3 (performs_same w _ _ (λ t. Done) (λ t. Done) h2 h3
      (λ t g.
      let g' = Grows-trans h0.texts h3.texts t (Grows-trans h0.texts h1.texts h3.texts read.texts (Grows-trans h1.texts h2.texts h3.texts wrote.texts longer.texts)) g in
      let n = spells_still h0.texts t heap.table g' s.name is length_name spells in
      (λ j. Writes (slot s.object (n j)) (Some (is_greater t j)) (Gives Done)) ∙ sym (ap (after_length s.object i (value_in t v)) (false_from_ne_true (nat_lt i m) (λ e. let less = ltb-true i m e in omega (arith, less, past)))))
      (λ t g. refl)
      (wrote_gives w (λ t. slot_in t s) (λ t. Some (value_in t greater)) Done h2 h3 longer))

-- ---- a length

after_old : ObjId → ℕ → ℕ → Plan PutAnswer
after_old o n m = then_plan (plan.cut n m o) (λ done. Writes (slot o length_name) (Some (whole n)) (Gives Done))

pub length_put : (w : WorldId) (s : NumberedSlot) (n : ℕ) (h0 h1 h2 h3 : Parts) → IsHeap h0 → IsName h0.texts s.name → name_in h0.texts s.name ≡ length_name → (c : Content) (m : ℕ) → ((t : Table) → plan.length_of (content_in t c) ≡ m)
    → Performs w (λ t. Reads (slot_in t s) Gives) (λ t. content_in t c) h0 h1 → Performs w (λ t. plan.cut n m s.object) (λ t. nothing) h1 h2
    → (shorter : NumberedValue) → ((t : Table) → value_in t shorter ≡ whole n) → Performs w (λ t. Writes (slot_in t s) (Some (value_in t shorter)) (Gives nothing)) (λ t. nothing) h2 h3
    → Performs w (λ t. plan.put_length s.object (Some n)) (λ t. Done) h0 h3
unfolding after_old
length_put w s n h0 h1 h2 h3 heap is spells c m length read cut shorter is_shorter wrote =
    let spelt : (t : Table) → Grows h3.texts t → name_in t s.name ≡ length_name = λ t g. spells_still h0.texts t heap.table (Grows-trans h0.texts h3.texts t (Grows-trans h0.texts h1.texts h3.texts read.texts (Grows-trans h1.texts h2.texts h3.texts cut.texts wrote.texts)) g) s.name is length_name spells in
    let last : Performs w (λ t. Writes (slot s.object length_name) (Some (whole n)) (Gives Done)) (λ t. Done) h2 h3 =
    performs_same w _ _ (λ t. Done) (λ t. Done) h2 h3 (λ t g j. Writes (slot s.object (spelt t g j)) (Some (is_shorter t j)) (Gives Done)) (λ t g. refl) (wrote_gives w (λ t. slot_in t s) (λ t. Some (value_in t shorter)) Done h2 h3 wrote) in
    let then_cut : Performs w (λ t. after_old s.object n m) (λ t. Done) h1 h3 = performs_then w (λ t. plan.cut n m s.object) (λ t done. Writes (slot s.object length_name) (Some (whole n)) (Gives Done)) (λ t. nothing) (λ t. Done) h1 h2 h3 cut last in
    let all = performs_then w (λ t. Reads (slot_in t s) Gives) (λ t found. after_old s.object n (plan.length_of found)) (λ t. content_in t c) (λ t. Done) h0 h1 h3 read
    (performs_same w _ _ (λ t. Done) (λ t. Done) h1 h3 (λ t g. ap (after_old s.object n) (sym (length t))) (λ t g. refl) then_cut) in
    performs_same w _ _ (λ t. Done) (λ t. Done) h0 h3 (λ t g. ap (λ (x : Text). Reads (slot s.object x) (λ found. after_old s.object n (plan.length_of found))) (spelt t g)) (λ t g. refl) all

-- ---- a name of an Array

text_of_array : ObjId → Text → Value → Bool → Plan PutAnswer
text_of_array o x v b = elim b [ true ↦ plan.put_length o (plan.length_of_value v) | false ↦ plan.put_slot o x v ]

in_array : ObjId → Text → Value → Option ℕ → Plan PutAnswer
in_array o x v i = elim i [ Some i ↦ plan.put_index o i v | None ↦ elim (same_text x length_name) [ true ↦ plan.put_length o (plan.length_of_value v) | false ↦ plan.put_slot o x v ] ]

-- a text that is a name spells no index
no_index : (texts t : Table) → IsTable texts → Grows texts t → (id : TextId) → IsName texts (name.Text id) → index_of (text_in t id) ≡ None
no_index texts t table g id is = none_of (index_of (text_in t id)) (and_parts (knows_text t id) (is_none (index_of (text_in t id))) (name_grows texts t g (name.Text id) (name_known texts table (name.Text id) is)).0).1

pub text_handed : (texts : Table) (x : Name) (id : TextId) → x ≡ name.Text id → IsName texts x → IsName texts (name.Text id)
text_handed texts x id e is = subst (IsName texts) e is

-- a text that passes the test is `length`
pub spells_length : (texts : Table) (id : TextId) → same_text (text_in texts id) length_name ≡ true → text_in texts id ≡ length_name
spells_length texts id test = (text_Decides (text_in texts id) length_name).0 test

module _ (w : WorldId) (o : ObjId) (v : NumberedValue) (old new : Parts) (a : PutAnswer) (heap : IsHeap old) where
  array_index : (i : ℕ) → i ≤ greatest_index → Performs w (λ t. plan.put_index o i (value_in t v)) (λ t. a) old new → Performs w (λ t. plan.put_in_array o (index_name i) (value_in t v)) (λ t. a) old new
  unfolding in_array
  array_index i small f = performs_same w _ _ (λ t. a) (λ t. a) old new (λ t g. sym (ap (in_array o (index_name i) (value_in t v)) (index_again i small))) (λ t g. refl) f

  array_text : (id : TextId) → IsName old.texts (name.Text id) → (b : Bool) → same_text (text_in old.texts id) length_name ≡ b
      → Performs w (λ t. text_of_array o (text_in t id) (value_in t v) b) (λ t. a) old new → Performs w (λ t. plan.put_in_array o (text_in t id) (value_in t v)) (λ t. a) old new
  unfolding in_array text_of_array
  array_text id is b test f = performs_same w _ _ (λ t. a) (λ t. a) old new
      (λ t g.
      let g' = Grows-trans old.texts new.texts t f.texts g in
      let same : text_in t id ≡ text_in old.texts id = (name_grows old.texts t g' (name.Text id) (name_known old.texts heap.table (name.Text id) is)).1 in
      sym (ap (in_array o (text_in t id) (value_in t v)) (no_index old.texts t heap.table g' id is) ∙ ap (text_of_array o (text_in t id) (value_in t v)) (ap (λ (x : Text). same_text x length_name) same ∙ test)))
      (λ t g. refl) f

  array_other : (id : TextId) → IsName old.texts (name.Text id) → same_text (text_in old.texts id) length_name ≡ false
      → Performs w (λ t. plan.put_slot o (text_in t id) (value_in t v)) (λ t. a) old new → Performs w (λ t. plan.put_in_array o (text_in t id) (value_in t v)) (λ t. a) old new
  unfolding text_of_array
  array_other id is test f = array_text id is false test f

  array_length : (id : TextId) → IsName old.texts (name.Text id) → same_text (text_in old.texts id) length_name ≡ true → (n : Option ℕ) → ((t : Table) → plan.length_of_value (value_in t v) ≡ n)
      → Performs w (λ t. plan.put_length o n) (λ t. a) old new → Performs w (λ t. plan.put_in_array o (text_in t id) (value_in t v)) (λ t. a) old new
  unfolding text_of_array
  array_length id is test n length f = array_text id is true test (performs_same w _ _ (λ t. a) (λ t. a) old new (λ t g. ap (plan.put_length o) (sym (length t))) (λ t g. refl) f)

  -- by the name that was handed in
  handed : (x y : Name) → x ≡ y → Performs w (λ t. plan.put_in_array o (name_in t y) (value_in t v)) (λ t. a) old new → Performs w (λ t. plan.put_in_array o (name_in t x) (value_in t v)) (λ t. a) old new
  handed x y e f = subst (λ (z : Name). Performs w (λ t. plan.put_in_array o (name_in t z) (value_in t v)) (λ t. a) old new) (sym e) f

  pub index_handed : (x : Name) (i : ℕ) → x ≡ name.Index i → IsName old.texts x → Performs w (λ t. plan.put_index o i (value_in t v)) (λ t. a) old new → Performs w (λ t. plan.put_in_array o (name_in t x) (value_in t v)) (λ t. a) old new
  index_handed x i e is f = handed x (name.Index i) e (array_index i (index_small old.texts x i e is) f)

  pub other_handed : (x : Name) (id : TextId) → x ≡ name.Text id → IsName old.texts x → same_text (text_in old.texts id) length_name ≡ false
      → Performs w (λ t. plan.put_slot o (text_in t id) (value_in t v)) (λ t. a) old new → Performs w (λ t. plan.put_in_array o (name_in t x) (value_in t v)) (λ t. a) old new
  other_handed x id e is test f = handed x (name.Text id) e (array_other id (text_handed old.texts x id e is) test f)

  pub length_handed : (x : Name) (id : TextId) → x ≡ name.Text id → IsName old.texts x → same_text (text_in old.texts id) length_name ≡ true → (n : Option ℕ) → ((t : Table) → plan.length_of_value (value_in t v) ≡ n)
      → Performs w (λ t. plan.put_length o n) (λ t. a) old new → Performs w (λ t. plan.put_in_array o (name_in t x) (value_in t v)) (λ t. a) old new
  length_handed x id e is test n length f = handed x (name.Text id) e (array_length id (text_handed old.texts x id e is) test n length f)

  -- ---- any object

  puts_as : (x : Name) → Bool → Bool → Table → Plan PutAnswer
  puts_as x puttable array t = elim puttable [
    | false ↦ Gives Ignored
    | true ↦ elim array [ true ↦ plan.put_in_array o (name_in t x) (value_in t v) | false ↦ plan.put_slot o (name_in t x) (value_in t v) ]
  ]

  put_as : (x : Name) → IsName old.texts x → (p q : Bool) → numbered.is_puttable old.arena o x ≡ p → ((t : Table) → is_array (arena_in t old.arena) o ≡ q)
      → Performs w (puts_as x p q) (λ t. a) old new → Performs w (λ t. plan.put (arena_in t old.arena) o (name_in t x) (value_in t v)) (λ t. a) old new
  unfolding puts_as
  put_as x is p q puttable array f = performs_same w _ _ (λ t. a) (λ t. a) old new
      (λ t g. let e = puttable_in old heap t (Grows-trans old.texts new.texts t f.texts g) o x is ∙ puttable in sym (λ i. puts_as x (e i) (array t i) t))
      (λ t g. refl) f

  pub put_array : (x : Name) → IsName old.texts x → numbered.is_puttable old.arena o x ≡ true → ((t : Table) → is_array (arena_in t old.arena) o ≡ true)
      → Performs w (λ t. plan.put_in_array o (name_in t x) (value_in t v)) (λ t. a) old new → Performs w (λ t. plan.put (arena_in t old.arena) o (name_in t x) (value_in t v)) (λ t. a) old new
  unfolding puts_as
  put_array x is puttable array f = put_as x is true true puttable array f

  pub put_other : (x : Name) → IsName old.texts x → numbered.is_puttable old.arena o x ≡ true → ((t : Table) → is_array (arena_in t old.arena) o ≡ false)
      → Performs w (λ t. plan.put_slot o (name_in t x) (value_in t v)) (λ t. a) old new → Performs w (λ t. plan.put (arena_in t old.arena) o (name_in t x) (value_in t v)) (λ t. a) old new
  unfolding puts_as
  put_other x is puttable array f = put_as x is true false puttable array f

pub bad_length : (w : WorldId) (o : ObjId) (h : Parts) → IsHeap h → Performs w (λ t. plan.put_length o None) (λ t. BadLength) h h
bad_length w o h heap = performs_nothing w (λ t. BadLength) h heap

pub put_ignored : (w : WorldId) (o : ObjId) (v : NumberedValue) (x : Name) (h : Parts) → IsHeap h → IsName h.texts x → numbered.is_puttable h.arena o x ≡ false → Performs w (λ t. plan.put (arena_in t h.arena) o (name_in t x) (value_in t v)) (λ t. Ignored) h h
put_ignored w o v x h heap is e = gives_same w (λ t. plan.put (arena_in t h.arena) o (name_in t x) (value_in t v)) Ignored h heap
    (λ t g. ap (λ p. elim p [ false ↦ Gives Ignored | true ↦ elim (is_array (arena_in t h.arena) o) [ true ↦ plan.put_in_array o (name_in t x) (value_in t v) | false ↦ plan.put_slot o (name_in t x) (value_in t v) ] ]) (puttable_in h heap t g o x is ∙ e))

-- ---- an Array by content is one by number

pub array_in : (t : Table) (m : Objects) (o : ObjId) (x : NumberedObject) → IsTrue (entries.has m o) → IfSome (map.get m o) (λ (e : NumberedEntry). x ≡ e.object) → is_array (arena_in t m) o ≡ is_array_class x.class
array_in t m o x there is = ap (λ (r : Option Entry). is_array_class (option_map_or (λ (e : Entry). e.object) r (object_of class.Plain None)).class) (object_found t m o) ∙ by (map.get m o) there is
  where
    by : (r : Option NumberedEntry) → IsTrue (is_some r) → IfSome r (λ (e : NumberedEntry). x ≡ e.object) → is_array_class (option_map_or (λ (e : Entry). e.object) (option_map (entry_in t) r) (object_of class.Plain None)).class ≡ is_array_class x.class
    by None there is = cc
    by (Some e) there is = ap (λ (z : NumberedObject). is_array_class z.class) (sym is)

pub no_array : (k : Class) → (k ≡ class.Array → ⊥) → is_array_class k ≡ false
no_array class.Array other = absurd (other refl)
no_array class.Plain other = refl
no_array class.Function other = refl
no_array class.Text other = refl
no_array class.Bool other = refl
no_array class.Number other = refl
no_array class.Fault other = refl
no_array class.World other = refl
no_array class.Math other = refl
no_array class.Arguments other = refl
no_array class.Global other = refl
no_array class.Scope other = refl

-- ---- `length` is a name

no_digits : (n : ℕ) → n ≤ greatest_index → length_name ≡ index_name n → ⊥
no_digits n small e =
    let digits : AllDigits 10 length_name = subst (AllDigits 10) (sym e) (decimal_is_IsNumeral n (omega (arith, small))).0.1 in
    true≢false (sym (lt-ltb (digit_value 108) 10 digits.0))

pub length_is_name : (texts : Table) (id : TextId) → Denotes texts id length_name → IsName texts (name.Text id)
length_is_name texts id is = (
  Denotes-Has texts id length_name is,
  λ n small at. no_digits n small (sym (text_is texts id length_name is) ∙ text_is texts id (index_name n) at),
)
