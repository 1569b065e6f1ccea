-- Rows, by what is kept at each slot.
use Rattle.std.proofs.Common.{◌≡◌, Bool, true, false, cond, ◌&&◌, List, [], ◌∷◌, length, refl, ap, sym, ◌∙◌, subst, Option, None, Some, suc, T, arith, map as each}
use Rattle.std.specs.Option.{option_map, option_map_or}
use Rattle.std.specs.Ordering.{eq_by_cmp, is_lt}
use Rattle.std.specs.Map.{lookup_entry}
use Rattle.std.specs.FinMap as map
use Rattle.std.specs.FinMap.{FinMap}
use Rattle.std.specs.FinMap.Entries.{below_all, is_sorted, find}
use Rattle.wjs_base.specs.declared.values.Slot.{Slot}
use Rattle.wjs_base.specs.Order.{slot_cmp, slot_total, slot_exact}
use Rattle.wjs_base.proofs.Options.{map_cond}
use Rattle.wjs_store.proofs.Marks.{key_is}
use Rattle.wjs_layers.specs.declared.maps.Row.{Row}
use Rattle.wjs_layers.specs.declared.compact.ShortContent.{ShortContent}
use Rattle.wjs_layers.specs.Marks.{reads_in, writes_in, has_written}
use Rattle.wjs_layers.specs.Keyed.{entry_by, rows_by}
use Rattle.wjs_layers.specs.Shorts.{row_first, at_first}

-- a branch at a key commutes with what is made of each key's value
keyed : {V : Type 0} (f : Slot → V → Row) (q s : Slot) (v : V) (o : Option V) → option_map (f q) (cond (eq_by_cmp slot_cmp q s) (Some v) o) ≡ cond (eq_by_cmp slot_cmp q s) (Some (f s v)) (option_map (f q) o)
keyed f q s v o =
    map_cond (f q) (eq_by_cmp slot_cmp q s) v o
    ∙ same_branch (eq_by_cmp slot_cmp q s) (f q v) (f s v) (option_map (f q) o) (λ e. ap (λ k. f k v) (key_is slot_exact q s e))
  where
    same_branch : (b : Bool) (x y : Row) (u : Option Row) → (b ≡ true → x ≡ y) → cond b (Some x) u ≡ cond b (Some y) u
    same_branch true x y u e = ap Some (e refl)
    same_branch false x y u e = refl

module _ {V : Type 0} (f : Slot → V → Row) where
  below_same : (s : Slot) (es : List (Slot × V)) → below_all slot_cmp s (each (entry_by f) es) ≡ below_all slot_cmp s es
  below_same s [] = refl
  below_same s (e ∷ es) = ap (λ b. is_lt (slot_cmp s e.0) && b) (below_same s es)

  sorted_same : (es : List (Slot × V)) → is_sorted slot_cmp (each (entry_by f) es) ≡ is_sorted slot_cmp es
  sorted_same [] = refl
  sorted_same (e ∷ es) = ap (λ b. b && is_sorted slot_cmp (each (entry_by f) es)) (below_same e.0 es) ∙ ap (λ b. below_all slot_cmp e.0 es && b) (sorted_same es)

  rows_entries : (m : FinMap slot_cmp V) → map.entries (rows_by f m) ≡ each (entry_by f) (map.entries m)
  unfolding rows_by
  rows_entries m = map.entries-from_sorted slot_cmp (each (entry_by f) (map.entries m)) (subst T (sym (sorted_same (map.entries m))) (map.entries_sorted m))

  find_with : (q : Slot) (es : List (Slot × V)) → find slot_cmp q (each (entry_by f) es) ≡ option_map (f q) (find slot_cmp q es)
  find_with q [] = refl
  find_with q (e ∷ es) = ap (cond (eq_by_cmp slot_cmp q e.0) (Some (f e.0 e.1))) (find_with q es) ∙ sym (keyed f q e.0 e.1 (find slot_cmp q es))

  pub rows_get : (m : FinMap slot_cmp V) (q : Slot) → map.get (rows_by f m) q ≡ option_map (f q) (map.get m q)
  rows_get m q = map.get-entries (rows_by f m) q ∙ ap (find slot_cmp q) (rows_entries m) ∙ find_with q (map.entries m) ∙ ap (option_map (f q)) (sym (map.get-entries m q))

  pub rows_empty : rows_by f map.empty ≡ map.empty
  rows_empty = map.same_map slot_total slot_exact _ _ (λ q. rows_get map.empty q ∙ ap (option_map (f q)) (map.get-empty slot_cmp q) ∙ sym (map.get-empty slot_cmp q))

  none_cond : {A : Type 0} (g : V → A) (b : Bool) (o : Option V) → option_map g (cond b None o) ≡ cond b None (option_map g o)
  none_cond g true o = refl
  none_cond g false o = refl

  pub rows_remove : (m : FinMap slot_cmp V) (s : Slot) → rows_by f (map.remove m s) ≡ map.remove (rows_by f m) s
  rows_remove m s = map.same_map slot_total slot_exact _ _ (λ q.
      rows_get (map.remove m s) q
      ∙ ap (option_map (f q)) (map.get-remove slot_total m s q)
      ∙ none_cond (f q) (eq_by_cmp slot_cmp q s) (map.get m q)
      ∙ ap (cond (eq_by_cmp slot_cmp q s) None) (sym (rows_get m q))
      ∙ sym (map.get-remove slot_total (rows_by f m) s q))

  same_length : (es : List (Slot × V)) → length (each (entry_by f) es) ≡ length es
  same_length [] = refl
  same_length (e ∷ es) = ap suc (same_length es)

  pub rows_length : (m : FinMap slot_cmp V) → length (map.entries (rows_by f m)) ≡ length (map.entries m)
  rows_length m = ap length (rows_entries m) ∙ same_length (map.entries m)

  entry_cond : (b : Bool) (e : Slot × V) (o : Option (Slot × V)) → cond b (Some (entry_by f e)) (option_map (entry_by f) o) ≡ option_map (entry_by f) (cond b (Some e) o)
  entry_cond true e o = refl
  entry_cond false e o = refl

  lookup_with : (p : Slot → Bool) (es : List (Slot × V)) → lookup_entry p (each (entry_by f) es) ≡ option_map (entry_by f) (lookup_entry p es)
  lookup_with p [] = refl
  lookup_with p (e ∷ es) = ap (cond (p e.0) (Some (entry_by f e))) (lookup_with p es) ∙ entry_cond (p e.0) e (lookup_entry p es)

  pub rows_lookup : (p : Slot → Bool) (m : FinMap slot_cmp V) → lookup_entry p (map.entries (rows_by f m)) ≡ option_map (entry_by f) (lookup_entry p (map.entries m))
  rows_lookup p m = ap (lookup_entry p) (rows_entries m) ∙ lookup_with p (map.entries m)

-- a row is put in, where elsewhere the same is made of what is kept
pub rows_put : {V : Type 0} (f g : Slot → V → Row) (m : FinMap slot_cmp V) (s : Slot) (v : V) → ((q : Slot) (w : V) → eq_by_cmp slot_cmp q s ≡ false → g q w ≡ f q w) → rows_by g (map.insert m s v) ≡ map.insert (rows_by f m) s (g s v)
rows_put {V} f g m s v same = map.same_map slot_total slot_exact _ _ (λ q.
    rows_get g (map.insert m s v) q
    ∙ ap (option_map (g q)) (map.get-insert slot_total m s v q)
    ∙ keyed g q s v (map.get m q)
    ∙ else_branch (eq_by_cmp slot_cmp q s) (option_map (g q) (map.get m q)) (option_map (f q) (map.get m q)) (λ e. same_map q e (map.get m q))
    ∙ ap (cond (eq_by_cmp slot_cmp q s) (Some (g s v))) (sym (rows_get f m q))
    ∙ sym (map.get-insert slot_total (rows_by f m) s (g s v) q))
  where
    same_map : (q : Slot) → eq_by_cmp slot_cmp q s ≡ false → (o : Option V) → option_map (g q) o ≡ option_map (f q) o
    same_map q e None = refl
    same_map q e (Some w) = ap Some (same q w e)

    else_branch : (b : Bool) (x y : Option Row) → (b ≡ false → x ≡ y) → cond b (Some (g s v)) x ≡ cond b (Some (g s v)) y
    else_branch true x y e = refl
    else_branch false x y e = e refl

pub rows_insert : {V : Type 0} (f : Slot → V → Row) (m : FinMap slot_cmp V) (s : Slot) (v : V) → rows_by f (map.insert m s v) ≡ map.insert (rows_by f m) s (f s v)
rows_insert f m s v = rows_put f f m s v (λ q w e. refl)

-- no row of the first world has a mark
reads_none : (es : List (Slot × ShortContent)) → reads_in (each (entry_by at_first) es) ≡ 0
reads_none [] = refl
reads_none (e ∷ es) = let h : reads_in (each (entry_by at_first) es) ≡ 0 = reads_none es in omega arith

writes_none : (es : List (Slot × ShortContent)) → writes_in (each (entry_by at_first) es) ≡ 0
writes_none [] = refl
writes_none (e ∷ es) = let h : writes_in (each (entry_by at_first) es) ≡ 0 = writes_none es in omega arith

pub first_reads : (m : FinMap slot_cmp ShortContent) → reads_in (map.entries (rows_by at_first m)) ≡ 0
first_reads m = ap reads_in (rows_entries at_first m) ∙ reads_none (map.entries m)

pub first_writes : (m : FinMap slot_cmp ShortContent) → writes_in (map.entries (rows_by at_first m)) ≡ 0
first_writes m = ap writes_in (rows_entries at_first m) ∙ writes_none (map.entries m)

unwritten : (o : Option ShortContent) → option_map_or (λ (row : Row). row.written) (option_map row_first o) false ≡ false
unwritten None = refl
unwritten (Some v) = refl

pub first_unwritten : (m : FinMap slot_cmp ShortContent) (q : Slot) → has_written (rows_by at_first m) q ≡ false
first_unwritten m q = ap (λ o. option_map_or (λ (row : Row). row.written) o false) (rows_get at_first m q) ∙ unwritten (map.get m q)
