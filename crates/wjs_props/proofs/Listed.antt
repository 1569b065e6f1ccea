-- What a listing lists: names that are there, ascending; the indices among them come in the order of contents.
use Rattle.std.proofs.Common.{◌≡◌, ℕ, Bool, true, false, cond, ◌&&◌, T, List, [], ◌∷◌, Option, None, Some, refl, sym, ap, ◌∙◌, subst, filter, map as each, Ordering}
use Rattle.std.specs.Prelude.{is_some, is_none, unwrap_or, if◌then◌else◌}
use Rattle.std.specs.declared.cmp.Ordering.TheVariants.{Less, Equal, Greater}
use Rattle.std.specs.List.{list_any}
use Rattle.std.specs.Option.{option_map_or, option_and_then}
use Rattle.std.specs.Ordering.{eq_by_cmp, is_lt, nat_cmp, ordering_then}
use Rattle.std.specs.FinMap as map
use Rattle.std.specs.FinMap.{FinMap}
use Rattle.std.specs.FinMap.Entries.{below_all, same_entries}
use Rattle.std.proofs.lemmas.Bool.{and_parts, leb-true, true≢false}
use Rattle.wjs_base.specs.declared.ids.ObjId.{ObjId}
use Rattle.wjs_base.specs.declared.ids.TextId.{TextId}
use Rattle.wjs_base.specs.declared.ids.WorldId.{WorldId}
use Rattle.wjs_base.specs.declared.values.Name.{Name}
use Rattle.wjs_base.specs.declared.values.Name.TheVariants as name
use Rattle.wjs_base.specs.declared.values.Slot.{Slot as NumberedSlot}
use Rattle.wjs_base.specs.declared.values.Value.{Value as NumberedValue}
use Rattle.wjs_base.specs.Order as numbered
use Rattle.wjs_base.specs.Spelling.{IsName, greatest_index}
use Rattle.wjs_base.specs.Text.{Table}
use Rattle.wjs_base.proofs.Booleans.{left_true, right_true, both_true}
use Rattle.wjs_store.specs.Naming.{plain}
use Rattle.wjs_store.specs.State.{World, find_world, content_at, same_object, slots_in, slots_at}
use Rattle.wjs_store.specs.Meaning.{Worlds}
use Rattle.wjs_store.specs.Shown.{slots_of}
use Rattle.wjs_store.proofs.Ascending.{firsts, untagged, find_tag, ascends_filter, any_passing}
use Rattle.wjs_by_content.specs.Ascends.{tagged, Ascends}
use Rattle.wjs_by_content.specs.Renamed.{Holds}
use Rattle.wjs_by_content.proofs.RenamedKnown.{entries_hold}
use Rattle.wjs_by_content.specs.Values.{Text}
use Rattle.wjs_by_content.specs.Names.{Slot, slot, slot_cmp, slot_total, slot_exact, text_cmp, index_of, index_name}
use Rattle.wjs_by_content.specs.Indices.{index_again}
use Rattle.wjs_by_content.specs.Tables.{name_in, text_in, slot_in, knows_text, knows_name}
use Rattle.wjs_by_content.specs.Worlds.{in_order}

-- ---- each listed slot is there

holds_passing : {K X : Type 0} (Q : K → Type 0) (p : K → Bool) (es : List (K × X)) → Holds (λ e. Q e.0) es → Holds Q (filter p (firsts es))
holds_passing Q p [] h = tt
holds_passing Q p (e ∷ es) h = by (p e.0) (holds_passing Q p es h.1)
  where
    by : (b : Bool) → Holds Q (filter p (firsts es)) → Holds Q (cond b (e.0 ∷ filter p (firsts es)) (filter p (firsts es)))
    by true r = (h.0, r)
    by false r = r

module _ (F : Worlds) (w : WorldId) (o : ObjId) (Q : NumberedSlot → Type 0) (there : (s : NumberedSlot) (v : NumberedValue) → content_at F w s ≡ Some v → Q s) where
  found_hold : (r : Option (World plain)) → find_world F w ≡ r → Holds Q (option_map_or (slots_in o) r [])
  found_hold None e = tt
  found_hold (Some x) e = holds_passing Q (λ s. same_object (plain.object s) o) (map.entries x.copy)
      (entries_hold plain.total plain.exact (λ s v. Q s) x.copy (λ s v q. there s v (ap (option_and_then (λ (y : World plain). map.get y.copy s)) e ∙ q)))

  -- what is present is there, and so is what is listed
  pub listed_hold : Holds Q (slots_at F w o)
  listed_hold = found_hold (find_world F w) refl

pub names_hold : (texts : Table) (o : ObjId) (names : List Name) → Holds (λ s. IsName texts s.name) (slots_of o names) → Holds (IsName texts) names
names_hold texts o [] h = tt
names_hold texts o (n ∷ ns) h = (h.0, names_hold texts o ns h.1)

-- ---- indices come in the order of contents

less_still : (X Y Z : Ordering) → T (is_lt (ordering_then X Y)) → T (is_lt (ordering_then X (ordering_then Y Z)))
less_still Less Y Z h = tt
less_still Equal Less Z h = tt
less_still Equal Equal Z h = absurd h
less_still Equal Greater Z h = absurd h
less_still Greater Y Z h = absurd h

none_fails : (p : Option ℕ → Bool) → p None ≡ false → (x : Option ℕ) → is_none x ≡ true → p x ≡ true → ⊥
none_fails p out None e q = true≢false (sym q ∙ out)
none_fails p out (Some n) e q = true≢false (sym e)

-- how two slots of an object compare, by what their names spell
compared : ObjId → Text → Text → Option ℕ → Option ℕ → Ordering
compared o a b x y = ordering_then (numbered.obj_cmp o o) (ordering_then (nat_cmp (if is_some x then 0 else 1) (if is_some y then 0 else 1)) (ordering_then (nat_cmp (unwrap_or x 0) (unwrap_or y 0)) (text_cmp a b)))

module _ (t : Table) (o : ObjId) (p : Option ℕ → Bool) (out : p None ≡ false) where
  no_text : (id : TextId) → knows_name t (name.Text id) ≡ true → p (index_of (text_in t id)) ≡ true → ⊥
  no_text id k q = none_fails p out (index_of (text_in t id)) (and_parts (knows_text t id) (is_none (index_of (text_in t id))) k).1 q

  -- a slot whose name is such an index
  abbrev pub passes : Slot → Bool
  passes s = p (index_of s.name)

  less_in : (a b : Name) → knows_name t a ≡ true → knows_name t b ≡ true → p (index_of (name_in t a)) ≡ true → p (index_of (name_in t b)) ≡ true
      → T (is_lt (numbered.slot_cmp (record { object = o; name = a }) (record { object = o; name = b }))) → T (is_lt (slot_cmp (slot o (name_in t a)) (slot o (name_in t b))))
  unfolding compared
  less_in (name.Index i) (name.Index j) k l q r h =
      let e : index_of (index_name i) ≡ Some i = index_again i (leb-true i greatest_index k) in
      let f : index_of (index_name j) ≡ Some j = index_again j (leb-true j greatest_index l) in
      subst (λ c. T (is_lt c)) (sym (λ m. compared o (index_name i) (index_name j) (e m) (f m))) (less_still (numbered.obj_cmp o o) (nat_cmp i j) (text_cmp (index_name i) (index_name j)) h)
  less_in (name.Text a) (name.Index j) k l q r h = absurd (no_text a k q)
  less_in (name.Text a) (name.Text b) k l q r h = absurd (no_text a k q)
  less_in (name.Index i) (name.Text b) k l q r h = absurd (no_text b l r)

  below_in : (a : Name) → knows_name t a ≡ true → p (index_of (name_in t a)) ≡ true → (ns : List Name) → Holds (λ n. knows_name t n ≡ true) ns
      → T (below_all numbered.slot_cmp (record { object = o; name = a }) (tagged (slots_of o ns))) → T (below_all slot_cmp (slot o (name_in t a)) (tagged (filter passes (each (slot_in t) (slots_of o ns)))))
  below_in a k q [] l h = tt
  below_in a k q (n ∷ ns) l h = by (p (index_of (name_in t n))) refl (below_in a k q ns l.1 (right_true (is_lt (numbered.slot_cmp (record { object = o; name = a }) (record { object = o; name = n }))) (below_all numbered.slot_cmp (record { object = o; name = a }) (tagged (slots_of o ns))) h))
    where
      later : List Slot
      later = filter passes (each (slot_in t) (slots_of o ns))

      by : (b : Bool) → p (index_of (name_in t n)) ≡ b → T (below_all slot_cmp (slot o (name_in t a)) (tagged later)) → T (below_all slot_cmp (slot o (name_in t a)) (tagged (cond b (slot o (name_in t n) ∷ later) later)))
      by true e r = both_true (is_lt (slot_cmp (slot o (name_in t a)) (slot o (name_in t n)))) (below_all slot_cmp (slot o (name_in t a)) (tagged later))
          (less_in a n k l.0 q e (left_true (is_lt (numbered.slot_cmp (record { object = o; name = a }) (record { object = o; name = n }))) (below_all numbered.slot_cmp (record { object = o; name = a }) (tagged (slots_of o ns))) h)) r
      by false e r = r

  ascends_in : (ns : List Name) → Holds (λ n. knows_name t n ≡ true) ns → Ascends numbered.slot_cmp (slots_of o ns) → Ascends slot_cmp (filter passes (each (slot_in t) (slots_of o ns)))
  ascends_in [] k h = tt
  ascends_in (n ∷ ns) k h = by (p (index_of (name_in t n))) refl (ascends_in ns k.1 (right_true (below_all numbered.slot_cmp (record { object = o; name = n }) (tagged (slots_of o ns))) (map.is_sorted numbered.slot_cmp (tagged (slots_of o ns))) h))
    where
      later : List Slot
      later = filter passes (each (slot_in t) (slots_of o ns))

      by : (b : Bool) → p (index_of (name_in t n)) ≡ b → Ascends slot_cmp later → Ascends slot_cmp (cond b (slot o (name_in t n) ∷ later) later)
      by true e r = both_true (below_all slot_cmp (slot o (name_in t n)) (tagged later)) (map.is_sorted slot_cmp (tagged later))
          (below_in n k.0 e ns k.1 (left_true (below_all numbered.slot_cmp (record { object = o; name = n }) (tagged (slots_of o ns))) (map.is_sorted numbered.slot_cmp (tagged (slots_of o ns))) h)) r
      by false e r = r

  -- the same of the listing in order
  pub passing_same : (ns : List Name) → Holds (λ n. knows_name t n ≡ true) ns → Ascends numbered.slot_cmp (slots_of o ns) → filter passes (in_order (each (slot_in t) (slots_of o ns))) ≡ filter passes (each (slot_in t) (slots_of o ns))
  passing_same ns k h =
      sym (untagged (filter passes (map.keys m)))
      ∙ ap firsts (same_entries slot_cmp slot_total slot_exact (tagged (filter passes (map.keys m))) (tagged (filter passes ss)) (ascends_filter slot_cmp passes (map.entries m) (map.entries_sorted m)) (ascends_in ns k h) (λ q.
      find_tag slot_cmp q (filter passes (map.keys m)) ∙ ap (λ c. cond c (Some tt) None) (there q) ∙ sym (find_tag slot_cmp q (filter passes ss))))
      ∙ untagged (filter passes ss)
    where
      ss : List Slot
      ss = each (slot_in t) (slots_of o ns)

      m : FinMap slot_cmp (Unit {0})
      m = map.from_entries {R = slot_cmp} (tagged ss)

      some_of : (b : Bool) → is_some (cond b (Some tt) (let none : Option (Unit {0}) = None in none)) ≡ b
      some_of true = refl
      some_of false = refl

      kept : (q : Slot) → list_any (eq_by_cmp slot_cmp q) (map.keys m) ≡ list_any (eq_by_cmp slot_cmp q) ss
      kept q = sym (map.contains_key-keys m q) ∙ ap is_some (map.get-from_entries slot_total (tagged ss) q ∙ find_tag slot_cmp q ss) ∙ some_of (list_any (eq_by_cmp slot_cmp q) ss)

      there : (q : Slot) → list_any (eq_by_cmp slot_cmp q) (filter passes (map.keys m)) ≡ list_any (eq_by_cmp slot_cmp q) (filter passes ss)
      there q = any_passing slot_cmp slot_exact passes q (map.keys m) ∙ ap (λ c. passes q && c) (kept q) ∙ sym (any_passing slot_cmp slot_exact passes q ss)
