-- A tree map, seen as the finite map of its entries.
use Rattle.std.proofs.Common.{◌≡◌, cond, List, [], ◌∷◌, length, None, Some, refl, ap, sym, ◌∙◌}
use Rattle.std.specs.List.{AllByRecursion}
use Rattle.std.specs.List.Sorted.{IsStrictlySortedBy}
use Rattle.std.specs.declared.cmp.Ordering.{Ordering}
use Rattle.std.specs.declared.cmp.Ordering.TheVariants.{Less}
use Rattle.std.specs.Ordering.{eq_by_cmp}
use Rattle.std.specs.Cmp.{IsTotalOrder, eq_by_cmp_equiv, Equal-is}
use Rattle.std.specs.FinMap as map
use Rattle.std.specs.FinMap.{IsAntisymmetric}
use Rattle.std.specs.FinMap.Entries.{put, by_order}
use Rattle.std.specs.Map.{lookup, keys_of}
use Rattle.std.specs.BTreeMap as tree
use Rattle.std.specs.BTreeMap.{BTreeMap, is_at}
use Rattle.std.proofs.lemmas.List.{nil_from_length}
use Rattle.std.proofs.lemmas.Map.Keys.{sorted_head, sorted_tail}
use Rattle.wjs_base.proofs.Booleans.{by_bool}

pub find_lookup : {K V : Type 0} (R : K → K → Ordering) (es : List (K × V)) (q : K) → map.find R q es ≡ lookup (is_at (R q)) es
find_lookup R [] q = refl
find_lookup R (e ∷ es) q = ap (cond (is_at (R q) e.0) (Some e.1)) (find_lookup R es q)

module _ {K V : Type 0} {R : K → K → Ordering} (total : IsTotalOrder R) where
  -- what the finite map has at a key
  pub get_tree : (m : BTreeMap K V) (q : K) → map.get (map.from_entries {R = R} m.entries) q ≡ tree.get R m q
  get_tree m q = map.get-from_entries total m.entries q ∙ find_lookup R m.entries q

  module _ (exact : IsAntisymmetric R) where
    -- one entry was set
    pub insert_tree : (m n : BTreeMap K V) (k : K) (v : V) → ((q : K) → tree.get R n q ≡ cond (is_at (R k) q) (Some v) (tree.get R m q)) → map.from_entries {R = R} n.entries ≡ map.insert (map.from_entries m.entries) k v
    insert_tree m n k v h = map.same_map total exact _ _ (λ q.
        get_tree n q ∙ h q ∙ ap (λ b. cond b (Some v) (tree.get R m q)) ((eq_by_cmp_equiv total).symm k q)
        ∙ sym (map.get-insert total (map.from_entries m.entries) k v q ∙ ap (cond (eq_by_cmp R q k) (Some v)) (get_tree m q)))

    -- what was put at a new key and taken out again leaves nothing
    pub put_and_taken : (m : map.FinMap R V) (k : K) (v : V) → map.get m k ≡ None → map.remove (map.insert m k v) k ≡ m
    put_and_taken m k v none = map.same_map total exact _ _ (λ q.
        let e = map.get-remove total (map.insert m k v) k q ∙ ap (cond (eq_by_cmp R q k) None) (map.get-insert total m k v q) in
        by_bool (eq_by_cmp R q k)
        (λ t. e ∙ ap (λ b. cond b None (cond b (Some v) (map.get m q))) t ∙ sym (ap (map.get m) (exact q k ((Equal-is (R q k)).0 t)) ∙ none))
        (λ f. e ∙ ap (λ b. cond b None (cond b (Some v) (map.get m q))) f))

    -- one entry was taken out
    pub remove_tree : (m n : BTreeMap K V) (k : K) → ((q : K) → tree.get R n q ≡ cond (is_at (R k) q) None (tree.get R m q)) → map.from_entries {R = R} n.entries ≡ map.remove (map.from_entries m.entries) k
    remove_tree m n k h = map.same_map total exact _ _ (λ q.
        get_tree n q ∙ h q ∙ ap (λ b. cond b None (tree.get R m q)) ((eq_by_cmp_equiv total).symm k q)
        ∙ sym (map.get-remove total (map.from_entries m.entries) k q ∙ ap (cond (eq_by_cmp R q k) None) (get_tree m q)))

  put_first : (k : K) (v : V) (es : List (K × V)) → AllByRecursion (λ y. R k y ≡ Less) (keys_of es) → put R k v es ≡ (k, v) ∷ es
  put_first k v [] h = refl
  put_first k v (e ∷ es) h = ap (λ o. by_order o ((k, v) ∷ e ∷ es) ((e.0, v) ∷ es) (e ∷ put R k v es)) h.0

  -- entries in order are the map's
  pub entries_tree : (es : List (K × V)) → IsStrictlySortedBy R (keys_of es) → map.entries (map.from_entries {R = R} es) ≡ es
  entries_tree [] h = nil_from_length _ (sym (map.len-entries (map.empty {R = R})) ∙ map.len-empty R V)
  entries_tree (e ∷ es) h =
      map.entries-insert total (map.from_entries es) e.0 e.1
      ∙ ap (put R e.0 e.1) (entries_tree es (sorted_tail R e.0 (keys_of es) h))
      ∙ put_first e.0 e.1 es (sorted_head R e.0 (keys_of es) h)

  pub len_tree : (es : List (K × V)) → IsStrictlySortedBy R (keys_of es) → map.len (map.from_entries {R = R} es) ≡ length es
  len_tree es h = map.len-entries (map.from_entries es) ∙ ap length (entries_tree es h)
