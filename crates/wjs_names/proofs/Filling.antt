-- Rows are put where there are none.
use Rattle.std.proofs.Common.{◌≡◌, ◌≤◌, ◌<◌, T, List, [], ◌∷◌, length, refl, ap, sym, ◌∙◌, arith}
use Rattle.std.specs.Prelude.{fold, slice_index_or}
use Rattle.std.specs.declared.cmp.Ordering.{Ordering}
use Rattle.std.specs.Cmp.{IsTotalOrder}
use Rattle.std.specs.FinMap as map
use Rattle.std.specs.FinMap.{FinMap}
use Rattle.std.specs.FinMap.Entries.{put, is_sorted, is_sorted-put}
use Rattle.wjs_names.proofs.Sorted.{set_sorted}

module _ {K V : Type 0} {R : K → K → Ordering} (total : IsTotalOrder R) where
  -- one after another
  abbrev all : List (K × V) → FinMap R V → FinMap R V
  all rows m = fold (λ n row. map.insert n row.0 row.1) m rows

  abbrev all_put : List (K × V) → List (K × V) → List (K × V)
  all_put rows es = fold (λ fs row. put R row.0 row.1 fs) es rows

  pub sorted_all : (rows es : List (K × V)) → T (is_sorted R es) → T (is_sorted R (all_put rows es))
  sorted_all [] es s = s
  sorted_all (r ∷ rs) es s = sorted_all rs (put R r.0 r.1 es) (is_sorted-put R total r.0 r.1 es s)

  pub map_all : (rows es : List (K × V)) → T (is_sorted R es) → map.from_sorted {R = R} (all_put rows es) ≡ all rows (map.from_sorted es)
  map_all [] es s = refl
  map_all (r ∷ rs) es s =
      map_all rs (put R r.0 r.1 es) (is_sorted-put R total r.0 r.1 es s)
      ∙ ap (all rs) (set_sorted total es (put R r.0 r.1 es) r.0 r.1 s refl)

-- ---- lists of known length, by their elements

module _ {A : Type 0} where
  pub one_read : (xs : List A) (x : A) → 1 ≤ length xs → length xs < 2 → x ≡ slice_index_or xs 0 x → xs ≡ x ∷ []
  one_read [] x least less is = absurd (omega arith)
  one_read (y ∷ []) x least less is = ap (λ z. z ∷ []) (sym is)
  one_read (y ∷ z ∷ xs) x least less is = absurd (omega arith)

  pub two_read : (xs : List A) (x y : A) → 2 ≤ length xs → length xs < 3 → x ≡ slice_index_or xs 0 x → y ≡ slice_index_or xs 1 y → xs ≡ x ∷ y ∷ []
  two_read [] x y least less first second = absurd (omega arith)
  two_read (a ∷ xs) x y least less first second = λ i. sym first i ∷ one_read xs y (omega arith) (omega arith) second i

  pub three_read : (xs : List A) (x y z : A) → 3 ≤ length xs → length xs < 4 → x ≡ slice_index_or xs 0 x → y ≡ slice_index_or xs 1 y → z ≡ slice_index_or xs 2 z → xs ≡ x ∷ y ∷ z ∷ []
  three_read [] x y z least less first second third = absurd (omega arith)
  three_read (a ∷ xs) x y z least less first second third = λ i. sym first i ∷ two_read xs y z (omega arith) (omega arith) second third i

  pub four_read : (xs : List A) (x y z u : A) → 4 ≤ length xs → length xs < 5 → x ≡ slice_index_or xs 0 x → y ≡ slice_index_or xs 1 y → z ≡ slice_index_or xs 2 z → u ≡ slice_index_or xs 3 u → xs ≡ x ∷ y ∷ z ∷ u ∷ []
  four_read [] x y z u least less first second third fourth = absurd (omega arith)
  four_read (a ∷ xs) x y z u least less first second third fourth = λ i. sym first i ∷ three_read xs y z u (omega arith) (omega arith) second third fourth i
