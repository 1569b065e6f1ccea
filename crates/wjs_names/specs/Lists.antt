-- Lists of entries in the order of their keys.
use Rattle.std.specs.Prelude.{ℕ, ◌+◌, not, T, List, [], ◌∷◌, Result, Ok, Err}
use Rattle.std.specs.declared.cmp.Ordering.{Ordering}
use Rattle.std.specs.Ordering.{eq_by_cmp}
use Rattle.std.specs.FinMap.Entries.{by_order, where_key, is_sorted}

module _ {K V : Type 0} (R : K → K → Ordering) where
  -- where the key k stands in a list, or would stand, whose first entry has the place i
  abbrev pub seek : K → ℕ → List (K × V) → Result ℕ ℕ
  seek k i [] = Err i
  seek k i (e ∷ es) = by_order (R k e.0) (Err i) (Ok i) (seek k (i + 1) es)

  -- the entries with other keys than k
  abbrev pub without : K → List (K × V) → List (K × V)
  without k = where_key R (λ x. not (eq_by_cmp R k x))

  -- the keys strictly rise
  abbrev pub IsInOrder : List (K × V) → Type 0
  IsInOrder es = T (is_sorted R es)
