-- A list in order, seen as a finite map.
use Rattle.std.proofs.Common.{◌≡◌, Bool, true, false, cond, not, T, List, [], ◌∷◌, arith, length, None, refl, ap, sym, ◌∙◌, subst}
use Rattle.std.specs.declared.cmp.Ordering.{Ordering}
use Rattle.std.specs.Ordering.{is_eq, eq_by_cmp}
use Rattle.std.specs.Cmp.{IsTotalOrder, eq_by_cmp_equiv, alike_right}
use Rattle.std.specs.FinMap as map
use Rattle.std.specs.FinMap.{FinMap, IsAntisymmetric}
use Rattle.std.specs.FinMap.Entries.{put, find, is_sorted, is_sorted-put, is_sorted-where_key, find-where_key, same_entries}
use Rattle.wjs_names.specs.Lists.{without}

turned : {A : Type 0} (b : Bool) (x y : A) → cond (not b) x y ≡ cond b y x
turned true x y = refl
turned false x y = refl

module _ {K V : Type 0} {R : K → K → Ordering} (total : IsTotalOrder R) where
  pub find_without : (k : K) (es : List (K × V)) (q : K) → find R q (without R k es) ≡ cond (eq_by_cmp R q k) None (find R q es)
  find_without k es q =
      find-where_key R (λ x. not (eq_by_cmp R k x)) q (λ x t. ap (λ r. not (is_eq r)) (sym (alike_right total q x k t))) es
      ∙ turned (eq_by_cmp R k q) (find R q es) None
      ∙ ap (λ b. cond b None (find R q es)) ((eq_by_cmp_equiv total).symm k q)

  pub sorted_put : (es fs : List (K × V)) (k : K) (v : V) → T (is_sorted R es) → fs ≡ put R k v es → T (is_sorted R fs)
  sorted_put es fs k v h e = subst (λ (l : List (K × V)). T (is_sorted R l)) (sym e) (is_sorted-put R total k v es h)

  pub sorted_without : (es fs : List (K × V)) (k : K) → T (is_sorted R es) → fs ≡ without R k es → T (is_sorted R fs)
  sorted_without es fs k h e = subst (λ (l : List (K × V)). T (is_sorted R l)) (sym e) (is_sorted-where_key R (λ x. not (eq_by_cmp R k x)) es h)

  pub set_sorted : (es fs : List (K × V)) (k : K) (v : V) → T (is_sorted R es) → fs ≡ put R k v es → map.from_sorted {R = R} fs ≡ map.insert (map.from_sorted es) k v
  set_sorted es fs k v h e = map.same_entries_map (map.from_sorted {R = R} fs) (map.insert (map.from_sorted es) k v)
      (map.entries-from_sorted R fs (sorted_put es fs k v h e) ∙ e ∙ ap (put R k v) (sym (map.entries-from_sorted R es h)) ∙ sym (map.entries-insert total (map.from_sorted es) k v))

  pub remove_sorted : IsAntisymmetric R → (es fs : List (K × V)) (k : K) → T (is_sorted R es) → fs ≡ without R k es → map.from_sorted {R = R} fs ≡ map.remove (map.from_sorted es) k
  remove_sorted exact es fs k h e = map.same_map total exact (map.from_sorted {R = R} fs) (map.remove (map.from_sorted es) k) (λ q.
      map.get-from_sorted R fs q (sorted_without es fs k h e)
      ∙ ap (find R q) e
      ∙ find_without k es q
      ∙ sym (map.get-remove total (map.from_sorted es) k q ∙ ap (cond (eq_by_cmp R q k) None) (map.get-from_sorted R es q h)))

-- a map of no entries
pub empty_sorted : {K V : Type 0} (R : K → K → Ordering) (es : List (K × V)) → es ≡ [] → map.from_sorted {R = R} es ≡ map.empty
empty_sorted R es e = map.empty_of_len (map.from_sorted es) (map.len-entries (map.from_sorted es) ∙ ap (λ l. length (map.entries (map.from_sorted {R = R} l))) e ∙ ap length (map.entries-from_sorted R [] tt))

-- the entries of a map with one taken out
pub entries_removed : {K V : Type 0} {R : K → K → Ordering} → IsTotalOrder R → IsAntisymmetric R → (m n : FinMap R V) (k : K) → n ≡ map.remove m k → map.entries n ≡ without R k (map.entries m)
entries_removed {R = R} total exact m n k e =
    same_entries R total exact (map.entries n) (without R k (map.entries m)) (map.entries_sorted n) (sorted_without total (map.entries m) (without R k (map.entries m)) k (map.entries_sorted m) refl) (λ q.
    sym (map.get-entries n q)
    ∙ ap (λ x. map.get x q) e
    ∙ map.get-remove total m k q
    ∙ ap (cond (eq_by_cmp R q k) None) (map.get-entries m q)
    ∙ sym (find_without total k (map.entries m) q))

pub entries_none : {K V : Type 0} (R : K → K → Ordering) (m : FinMap R V) → m ≡ map.empty → map.entries m ≡ []
entries_none {V = V} R m e = no_items (map.entries m) (sym (map.len-entries m) ∙ ap map.len e ∙ map.len-empty R V)
  where
    no_items : {A : Type 0} (xs : List A) → length xs ≡ 0 → xs ≡ []
    no_items [] h = refl
    no_items (x ∷ xs) h = absurd (omega arith)

pub entries_either : {K V : Type 0} {R : K → K → Ordering} (b : Bool) (m n : FinMap R V) (es : List (K × V)) → map.entries m ≡ es → map.entries (cond b m n) ≡ cond b es (map.entries n)
entries_either true m n es e = e
entries_either false m n es e = refl
