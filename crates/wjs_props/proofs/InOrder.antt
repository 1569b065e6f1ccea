-- A sorted listing is the listing by content.
use Rattle.std.proofs.Common.{◌≡◌, ℕ, ◌+◌, ◌≤◌, Bool, true, false, cond, T, List, [], ◌∷◌, Option, None, Some, refl, sym, ap, ◌∙◌, map as each, Ordering, IsPermutation, arith}
use Rattle.std.specs.Prelude.{is_some, is_none, unwrap_or, if◌then◌else◌}
use Rattle.std.specs.declared.cmp.Ordering.TheVariants.{Less, Equal, Greater}
use Rattle.std.specs.Cmp.{Equal-is, tied_itself}
use Rattle.std.specs.Cmp.Lexicographic.{slice_cmp, nat_list_cmp_total}
use Rattle.std.specs.List.Sorted.{IsSorted}
use Rattle.std.specs.Ordering.{eq_by_cmp, is_lt, nat_cmp, ordering_then}
use Rattle.std.specs.FinMap as map
use Rattle.std.specs.FinMap.{nat_cmp-IsAntisymmetric}
use Rattle.std.specs.FinMap.Entries.{below_all}
use Rattle.std.proofs.lemmas.Bool.{and_parts, leb-true, true≢false}
use Rattle.std.proofs.lemmas.List.Sums.{sum_by-cons}
use Rattle.std.proofs.lemmas.List.Sorted.{IsPermutation-map, sum_by-IsPermutation}
use Rattle.wjs_base.specs.declared.ids.ObjId.{ObjId}
use Rattle.wjs_base.specs.declared.ids.TextId.{TextId}
use Rattle.wjs_base.specs.declared.values.Name.{Name}
use Rattle.wjs_base.specs.declared.values.Name.TheVariants as name
use Rattle.wjs_base.specs.declared.values.Slot.{Slot as NumberedSlot}
use Rattle.wjs_base.specs.Order as numbered
use Rattle.wjs_base.specs.Spelling.{IsName, greatest_index, spelling_cmp, units_of}
use Rattle.wjs_base.specs.Spelling as spelling
use Rattle.wjs_base.specs.Text.{Table, Grows, IsTable}
use Rattle.wjs_base.proofs.Booleans.{left_true, right_true}
use Rattle.wjs_store.specs.Shown.{slots_of}
use Rattle.wjs_by_content.specs.Ascends.{tagged, Ascends}
use Rattle.wjs_by_content.specs.Renamed.{Holds}
use Rattle.wjs_by_content.specs.Values.{Text}
use Rattle.wjs_by_content.specs.Names.{Slot, slot, slot_cmp, slot_total, slot_exact, name_cmp, text_cmp, index_of, index_name}
use Rattle.wjs_by_content.specs.Indices.{index_again}
use Rattle.wjs_by_content.specs.Tables.{name_in, text_in, slot_in, knows_text, knows_name}
use Rattle.wjs_by_content.specs.Telling.{names_tell}
use Rattle.wjs_by_content.specs.Worlds.{in_order, listing}
use Rattle.wjs_by_content.proofs.Growth.{name_grows}
use Rattle.wjs_by_content.proofs.Known.{name_known}
use Rattle.wjs_by_content.proofs.Listings.{ordered}
use Rattle.wjs_props.proofs.Sorting.{sorted_map, sorted_ascends, times}

-- ---- the order of names by number is that of their contents

-- how names compare, by the indices that they spell
compared : Text → Text → Option ℕ → Option ℕ → Ordering
compared a b x y = ordering_then (nat_cmp (if is_some x then 0 else 1) (if is_some y then 0 else 1)) (ordering_then (nat_cmp (unwrap_or x 0) (unwrap_or y 0)) (text_cmp a b))

pub none_of : (x : Option ℕ) → is_none x ≡ true → x ≡ None
none_of None e = refl
none_of (Some n) e = absurd (true≢false (sym e))

same_index : (i j : ℕ) → ordering_then (nat_cmp i j) (text_cmp (index_name i) (index_name j)) ≡ ordering_then (nat_cmp i j) Equal
same_index i j = by (nat_cmp i j) refl
  where
    by : (c : Ordering) → nat_cmp i j ≡ c → ordering_then c (text_cmp (index_name i) (index_name j)) ≡ ordering_then c Equal
    by Less e = refl
    by Equal e = ap (λ k. text_cmp (index_name i) (index_name k)) (sym (nat_cmp-IsAntisymmetric i j e)) ∙ tied_itself nat_list_cmp_total (index_name i)
    by Greater e = refl

module _ (t : Table) where
  spells_none : (id : TextId) → knows_name t (name.Text id) ≡ true → index_of (text_in t id) ≡ None
  spells_none id k = none_of (index_of (text_in t id)) (and_parts (knows_text t id) (is_none (index_of (text_in t id))) k).1

  compared_in : (a b : Name) → knows_name t a ≡ true → knows_name t b ≡ true → name_cmp (name_in t a) (name_in t b) ≡ spelling_cmp t a b
  unfolding compared
  compared_in (name.Index i) (name.Index j) k l =
      let e : index_of (index_name i) ≡ Some i = index_again i (leb-true i greatest_index k) in
      let f : index_of (index_name j) ≡ Some j = index_again j (leb-true j greatest_index l) in
      (λ m. compared (index_name i) (index_name j) (e m) (f m)) ∙ same_index i j
  compared_in (name.Index i) (name.Text b) k l =
      let e : index_of (index_name i) ≡ Some i = index_again i (leb-true i greatest_index k) in
      let f = spells_none b l in
      λ m. compared (index_name i) (text_in t b) (e m) (f m)
  compared_in (name.Text a) (name.Index j) k l =
      let e = spells_none a k in
      let f : index_of (index_name j) ≡ Some j = index_again j (leb-true j greatest_index l) in
      λ m. compared (text_in t a) (index_name j) (e m) (f m)
  compared_in (name.Text a) (name.Text b) k l =
      let e = spells_none a k in
      let f = spells_none b l in
      λ m. compared (text_in t a) (text_in t b) (e m) (f m)

module _ (texts t : Table) (table : IsTable texts) (g : Grows texts t) where
  knows : (n : Name) → IsName texts n → knows_name t n ≡ true
  knows n is = (name_grows texts t g n (name_known texts table n is)).0

  units_stay : (n : Name) → IsName texts n → units_of t n ≡ units_of texts n
  units_stay (name.Index i) is = refl
  units_stay (name.Text id) is = (name_grows texts t g (name.Text id) (name_known texts table (name.Text id) is)).1

  spelling_stays : (a b : Name) → IsName texts a → IsName texts b → spelling_cmp t a b ≡ spelling_cmp texts a b
  spelling_stays a b is so =
      let e = units_stay a is in
      let f = units_stay b so in
      λ m. ordering_then (nat_cmp (numbered.kind_of a) (numbered.kind_of b)) (ordering_then (nat_cmp (spelling.index_of a) (spelling.index_of b)) (slice_cmp nat_cmp (e m) (f m)))

  module _ (o : ObjId) where
    -- the slot of a name
    abbrev pub slot_at : Name → Slot
    slot_at n = slot o (name_in t n)

    less_alike : (a b : Name) → IsName texts a → IsName texts b → is_lt (slot_cmp (slot_at a) (slot_at b)) ≡ is_lt (spelling_cmp texts a b)
    less_alike a b is so =
        ap (λ c. is_lt (ordering_then c (name_cmp (name_in t a) (name_in t b)))) (tied_itself numbered.obj_total o)
        ∙ ap is_lt (compared_in t a b (knows a is) (knows b so) ∙ spelling_stays a b is so)

    -- ---- each name stands once

    equal_not_less : (c : Ordering) → c ≡ Equal → T (is_lt c) → ⊥
    equal_not_less Less e h = cc
    equal_not_less Equal e h = h
    equal_not_less Greater e h = cc

    as_slot : Name → NumberedSlot
    as_slot n = record { object = o; name = n }

    apart : (a b : Name) → IsName texts a → IsName texts b → T (is_lt (numbered.slot_cmp (as_slot a) (as_slot b))) → eq_by_cmp slot_cmp (slot_at a) (slot_at b) ≡ true → ⊥
    unfolding as_slot
    apart a b is so less tied =
        let same : slot_at a ≡ slot_at b = slot_exact (slot_at a) (slot_at b) ((Equal-is (slot_cmp (slot_at a) (slot_at b))).0 tied) in
        let one : a ≡ b = names_tell t a b (knows a is) (knows b so) (λ m. (same m).name) in
        equal_not_less (numbered.slot_cmp (as_slot a) (as_slot b)) (ap (λ (n : Name). numbered.slot_cmp (as_slot a) (as_slot n)) (sym one) ∙ tied_itself numbered.slot_total (as_slot a)) less

    never : (a : Name) → IsName texts a → (ns : List Name) → Holds (IsName texts) ns → T (below_all numbered.slot_cmp (as_slot a) (tagged (slots_of o ns))) → times slot_cmp (slot_at a) (each slot_at ns) ≡ 0
    unfolding as_slot
    never a is [] h below = refl
    never a is (n ∷ ns) h below = by (eq_by_cmp slot_cmp (slot_at a) (slot_at n)) refl (never a is ns h.1 (right_true (is_lt (numbered.slot_cmp (as_slot a) (as_slot n))) (below_all numbered.slot_cmp (as_slot a) (tagged (slots_of o ns))) below))
      where
        counted : times slot_cmp (slot_at a) (each slot_at (n ∷ ns)) ≡ cond (eq_by_cmp slot_cmp (slot_at a) (slot_at n)) 1 0 + times slot_cmp (slot_at a) (each slot_at ns)
        counted = sum_by-cons (λ z. cond (eq_by_cmp slot_cmp (slot_at a) z) 1 0) (slot_at n) (each slot_at ns)

        by : (b : Bool) → eq_by_cmp slot_cmp (slot_at a) (slot_at n) ≡ b → times slot_cmp (slot_at a) (each slot_at ns) ≡ 0 → times slot_cmp (slot_at a) (each slot_at (n ∷ ns)) ≡ 0
        by true e later = absurd (apart a n is h.0 (left_true (is_lt (numbered.slot_cmp (as_slot a) (as_slot n))) (below_all numbered.slot_cmp (as_slot a) (tagged (slots_of o ns))) below) e)
        by false e later = let none = ap (λ (b : Bool). cond b 1 0 + times slot_cmp (slot_at a) (each slot_at ns)) e in omega (arith, counted, none, later)

    once : (ns : List Name) → Holds (IsName texts) ns → Ascends numbered.slot_cmp (slots_of o ns) → (q : Slot) → times slot_cmp q (each slot_at ns) ≤ 1
    unfolding as_slot
    once [] h up q = omega arith
    once (n ∷ ns) h up q = by (eq_by_cmp slot_cmp q (slot_at n)) refl (once ns h.1 (right_true (below_all numbered.slot_cmp (as_slot n) (tagged (slots_of o ns))) (map.is_sorted numbered.slot_cmp (tagged (slots_of o ns))) up) q)
      where
        counted : times slot_cmp q (each slot_at (n ∷ ns)) ≡ cond (eq_by_cmp slot_cmp q (slot_at n)) 1 0 + times slot_cmp q (each slot_at ns)
        counted = sum_by-cons (λ z. cond (eq_by_cmp slot_cmp q z) 1 0) (slot_at n) (each slot_at ns)

        none : times slot_cmp (slot_at n) (each slot_at ns) ≡ 0
        none = never n h.0 ns h.1 (left_true (below_all numbered.slot_cmp (as_slot n) (tagged (slots_of o ns))) (map.is_sorted numbered.slot_cmp (tagged (slots_of o ns))) up)

        by : (b : Bool) → eq_by_cmp slot_cmp q (slot_at n) ≡ b → times slot_cmp q (each slot_at ns) ≤ 1 → times slot_cmp q (each slot_at (n ∷ ns)) ≤ 1
        by true e later =
            let same : q ≡ slot_at n = slot_exact q (slot_at n) ((Equal-is (slot_cmp q (slot_at n))).0 e) in
            let zero' : times slot_cmp q (each slot_at ns) ≡ 0 = ap (λ (z : Slot). times slot_cmp z (each slot_at ns)) same ∙ none in
            let one = ap (λ (b : Bool). cond b 1 0 + times slot_cmp q (each slot_at ns)) e in
            omega (arith, counted, one, zero')
        by false e later = let out = ap (λ (b : Bool). cond b 1 0 + times slot_cmp q (each slot_at ns)) e in omega (arith, counted, out, later)

    -- ---- the listing

    slots_are : (ns : List Name) → each (slot_in t) (slots_of o ns) ≡ each slot_at ns
    slots_are [] = refl
    slots_are (n ∷ ns) = ap (λ xs. slot_at n ∷ xs) (slots_are ns)

    names_are : (ns : List Name) → each (λ (s : Slot). s.name) (each slot_at ns) ≡ each (name_in t) ns
    names_are [] = refl
    names_are (n ∷ ns) = ap (λ xs. name_in t n ∷ xs) (names_are ns)

    -- the names in the order of contents are the listing's
    pub listing_is : (ns order : List Name) → Holds (IsName texts) ns → Ascends numbered.slot_cmp (slots_of o ns) → IsPermutation ns order → Holds (IsName texts) order → IsSorted (spelling_cmp texts) order → listing t o ns ≡ each (name_in t) order
    listing_is ns order h up moved k sorted =
        let p = IsPermutation-map slot_at ns order moved in
        let s : IsSorted slot_cmp (each slot_at order) = sorted_map slot_at (IsName texts) (λ a b. is_lt (spelling_cmp texts a b)) (λ a b. is_lt (slot_cmp a b)) less_alike order k sorted in
        let ascends = sorted_ascends slot_cmp slot_total (each slot_at order) s (λ q. let few = once ns h up q in let same = sum_by-IsPermutation (λ z. cond (eq_by_cmp slot_cmp q z) 1 0) (each slot_at ns) (each slot_at order) p in omega (arith, few, same)) in
        ap (λ ss. each (λ (s : Slot). s.name) (in_order ss)) (slots_are ns)
        ∙ ap (each (λ (s : Slot). s.name)) (ordered (each slot_at ns) (each slot_at order) ascends p)
        ∙ names_are order
