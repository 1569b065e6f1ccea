-- The visits of a listing, object by object.
use Rattle.std.proofs.Common.{◌≡◌, ℕ, ◌+◌, Bool, true, false, cond, not, ◌||◌, List, [], ◌∷◌, ◌++◌, Option, None, Some, refl, sym, ap, ◌∙◌, subst, filter, map as each, drop, IsTrue, append_assoc}
use Rattle.std.specs.Prelude.{is_some, slice_get, IfSome}
use Rattle.std.specs.BTreeSet.{BTreeSet}
use Rattle.std.specs.List.{list_any}
use Rattle.std.specs.Option.{option_map, option_map_or}
use Rattle.std.specs.Ordering.{eq_by_cmp, is_eq}
use Rattle.std.specs.Cmp.{Equal-is, tied_itself}
use Rattle.std.specs.FinMap as map
use Rattle.wjs_base.specs.declared.ids.ObjId.{ObjId}
use Rattle.wjs_base.specs.declared.values.Name.{Name}
use Rattle.wjs_base.specs.declared.values.Value.{Value as NumberedValue}
use Rattle.wjs_base.specs.Order.{name_cmp, name_exact, name_total}
use Rattle.wjs_base.specs.Spelling.{IsName}
use Rattle.wjs_base.specs.Text.{Table, Grows}
use Rattle.wjs_base.proofs.Booleans.{same_answer}
use Rattle.wjs_by_content.specs.Renamed.{Holds}
use Rattle.wjs_arena.specs.declared.class.Class.TheVariants as class
use Rattle.wjs_arena.specs.declared.object.Flags.{Flags}
use Rattle.wjs_arena.specs.declared.object.Object.{Object}
use Rattle.wjs_arena.specs.AtName.{same_name}
use Rattle.wjs_arena.specs.Chains as numbered
use Rattle.wjs_arena.specs.Chains.{flags_in}
use Rattle.wjs_arena.specs.Entries.{Entry as NumberedEntry}
use Rattle.wjs_arena.specs.Entries as entries
use Rattle.wjs_by_content.specs.Values.{same_text}
use Rattle.wjs_by_content.specs.Names.{slot}
use Rattle.wjs_by_content.specs.Objects.{Entry, object_of, object_at, is_hidden}
use Rattle.wjs_by_content.specs.Tables.{name_in, value_in, under_in, entry_in, arena_in}
use Rattle.wjs_by_content.proofs.ArenaMaps.{object_found}
use Rattle.wjs_by_content.proofs.Fixed.{same_names}
use Rattle.wjs_props.specs.declared.visits.Visit.{Visit}
use Rattle.wjs_heap.specs.Heap.{Parts, HasValue, IsHeap}
use Rattle.wjs_props.specs.Listing.{is_in, is_among, names_under, visit_of, visits_of}
use Rattle.wjs_props.specs.Visits.{visits_in}
use Rattle.wjs_props.proofs.ByContent.{name_itself, name_tied, name_knows, flags_same}
use Rattle.wjs_props.proofs.Cutting.{drop_next}

-- ---- of one object, name by name

module _ (o : ObjId) (p q : Name → Bool) where
  visits_next : (x : Name) (xs : List Name) → visits_of o p q (x ∷ xs) ≡ visits_of o p q (x ∷ []) ++ visits_of o p q xs
  visits_next x xs = by (not (p x || q x))
    where
      later : List Name
      later = filter (λ n. not (p n || q n)) xs

      by : (b : Bool) → each (visit_of o) (cond b (x ∷ later) later) ≡ each (visit_of o) (cond b (x ∷ []) []) ++ each (visit_of o) later
      by true = refl
      by false = refl

  -- a place further
  pub visited_further : (old now new : List Visit) (names : List Name) (place : ℕ) (x : Name) → slice_get names place ≡ Some x
      → now ++ visits_of o p q (drop place names) ≡ old ++ visits_of o p q names → new ≡ now ++ visits_of o p q (x ∷ [])
      → new ++ visits_of o p q (drop (place + 1) names) ≡ old ++ visits_of o p q names
  visited_further old now new names place x at so more =
      ap (λ vs. vs ++ visits_of o p q (drop (place + 1) names)) more
      ∙ append_assoc now (visits_of o p q (x ∷ [])) (visits_of o p q (drop (place + 1) names))
      ∙ ap (λ vs. now ++ vs) (sym (visits_next x (drop (place + 1) names)))
      ∙ ap (λ xs. now ++ visits_of o p q xs) (sym (drop_next names place x at))
      ∙ so

-- ---- of one object, by content

-- names tie exactly where they are one, in this order too
tie_as : (n x : Name) → eq_by_cmp name_cmp n x ≡ same_name n x
tie_as n x = same_answer (eq_by_cmp name_cmp n x) (same_name n x)
    (λ h. let e : n ≡ x = name_exact n x ((Equal-is (name_cmp n x)).0 h) in ap (λ (y : Name). same_name n y) (sym e) ∙ name_itself n)
    (λ h. let e : n ≡ x = name_tied n x h in ap (λ (y : Name). is_eq (name_cmp n y)) (sym e) ∙ ap is_eq (tied_itself name_total n))

module _ {A B : Type 0} (f : A → B) (H : A → Type 0) (p : B → Bool) (q : A → Bool) (same : (a : A) → H a → p (f a) ≡ q a) where
  filter_each : (xs : List A) → Holds H xs → filter p (each f xs) ≡ each f (filter q xs)
  filter_each [] h = refl
  filter_each (x ∷ xs) h = ap (λ b. cond b (f x ∷ filter p (each f xs)) (filter p (each f xs))) (same x h.0) ∙ by (q x) (filter_each xs h.1)
    where
      by : (b : Bool) → filter p (each f xs) ≡ each f (filter q xs) → cond b (f x ∷ filter p (each f xs)) (filter p (each f xs)) ≡ each f (cond b (x ∷ filter q xs) (filter q xs))
      by true e = ap (λ ys. f x ∷ ys) e
      by false e = e

visits_are : (t : Table) (o : ObjId) (names : List Name) → visits_in t (each (visit_of o) names) ≡ each (slot o) (each (name_in t) names)
visits_are t o [] = refl
visits_are t o (n ∷ ns) = ap (λ ss. slot o (name_in t n) ∷ ss) (visits_are t o ns)

names_first : (t : Table) (xs : List (Name × NumberedValue)) → each (λ x. x.0) (under_in t (value_in t) xs) ≡ each (name_in t) (names_under xs)
names_first t [] = refl
names_first t (x ∷ xs) = ap (λ ns. name_in t x.0 ∷ ns) (names_first t xs)

module _ (h : Parts) (heap : IsHeap h) (o : ObjId) (x : Object) (there : IsTrue (entries.has h.arena o)) (is : IfSome (map.get h.arena o) (λ (e : NumberedEntry). x ≡ e.object)) where
  flags_of : (n : Name) → numbered.flags h.arena o n ≡ flags_in x n
  flags_of n = at (map.get h.arena o) there is
    where
      at : (r : Option NumberedEntry) → is_some r ≡ true → IfSome r (λ (e : NumberedEntry). x ≡ e.object) → option_map_or (λ (e : NumberedEntry). flags_in e.object n) r (record { hidden = false; kept = false }) ≡ flags_in x n
      at None t i = cc
      at (Some e) t i = ap (λ (y : Object). flags_in y n) (sym i)

  pub fixed_names : (t : Table) → each (λ e. e.0) (object_at (arena_in t h.arena) o).fixed ≡ each (name_in t) (names_under x.fixed)
  fixed_names t =
      ap (λ (r : Option Entry). each (λ e. e.0) (option_map_or (λ (e : Entry). e.object) r (object_of class.Plain None)).fixed) (object_found t h.arena o)
      ∙ at (map.get h.arena o) there is
    where
      at : (r : Option NumberedEntry) → is_some r ≡ true → IfSome r (λ (e : NumberedEntry). x ≡ e.object) → each (λ e. e.0) (option_map_or (λ (e : Entry). e.object) (option_map (entry_in t) r) (object_of class.Plain None)).fixed ≡ each (name_in t) (names_under x.fixed)
      at None k i = cc
      at (Some e) k i = names_first t e.object.fixed ∙ ap (λ (y : Object). each (name_in t) (names_under y.fixed)) (sym i)

  pub fixed_are_names : Holds (IsName h.texts) (names_under x.fixed)
  fixed_are_names = at (map.get h.arena o) there is (λ e q. (heap.objects o e q).fixed)
    where
      first : (xs : List (Name × NumberedValue)) → Holds (λ e. IsName h.texts e.0 × HasValue h.texts h.arena e.1) xs → Holds (IsName h.texts) (names_under xs)
      first [] k = tt
      first (y ∷ ys) k = (k.0.0, first ys k.1)

      at : (r : Option NumberedEntry) → is_some r ≡ true → IfSome r (λ (e : NumberedEntry). x ≡ e.object) → ((e : NumberedEntry) → r ≡ Some e → Holds (λ z. IsName h.texts z.0 × HasValue h.texts h.arena z.1) e.object.fixed) → Holds (IsName h.texts) (names_under x.fixed)
      at None t i held = cc
      at (Some e) t i held = subst (λ (y : Object). Holds (IsName h.texts) (names_under y.fixed)) (sym i) (first e.object.fixed (held e refl))

  module _ (t : Table) (g : Grows h.texts t) (passed : List Name) (seen : BTreeSet Name) (named : Holds (IsName h.texts) passed) (are : (n : Name) → is_in seen n ≡ is_among passed n) where
    any_in : (n : Name) → IsName h.texts n → (ms : List Name) → Holds (IsName h.texts) ms → list_any (same_text (name_in t n)) (each (name_in t) ms) ≡ is_among ms n
    any_in n i [] k = refl
    any_in n i (m ∷ ms) k =
        ap (λ b. b || list_any (same_text (name_in t n)) (each (name_in t) ms)) (same_names t n m (name_knows h heap t g n i) (name_knows h heap t g m k.0) ∙ sym (tie_as n m))
        ∙ ap (λ b. eq_by_cmp name_cmp n m || b) (any_in n i ms k.1)

    passes : (n : Name) → IsName h.texts n → not (is_hidden (arena_in t h.arena) o (name_in t n) || list_any (same_text (name_in t n)) (each (name_in t) passed)) ≡ not ((flags_in x n).hidden || is_in seen n)
    passes n i =
        let hidden : is_hidden (arena_in t h.arena) o (name_in t n) ≡ (flags_in x n).hidden = ap (λ (f : Flags). f.hidden) (flags_same h heap t g o n i ∙ flags_of n) in
        let before : list_any (same_text (name_in t n)) (each (name_in t) passed) ≡ is_in seen n = any_in n i passed named ∙ sym (are n) in
        λ k. not (hidden k || before k)

    -- the visits are the plan's
    pub visited_are : (order : List Name) → Holds (IsName h.texts) order
        → visits_in t (visits_of o (λ n. (flags_in x n).hidden) (is_in seen) order) ≡ each (slot o) (filter (λ n. not (is_hidden (arena_in t h.arena) o n || list_any (same_text n) (each (name_in t) passed))) (each (name_in t) order))
    visited_are order k =
        visits_are t o (filter (λ n. not ((flags_in x n).hidden || is_in seen n)) order)
        ∙ ap (each (slot o)) (sym (filter_each (name_in t) (IsName h.texts) (λ n. not (is_hidden (arena_in t h.arena) o n || list_any (same_text n) (each (name_in t) passed))) (λ n. not ((flags_in x n).hidden || is_in seen n)) passes order k))
