-- The least of the keys that pass a test.
use Rattle.std.specs.Prelude.{◌≡◌, Bool, true, false, cond, Option, None, Some, is_some, MatchOption}
use Rattle.std.specs.declared.cmp.Ordering.{Ordering}
use Rattle.std.specs.Ordering.{is_lt}
use Rattle.wjs_base.specs.declared.values.Name.{Name}
use Rattle.wjs_base.specs.Order.{name_cmp}

-- the entry, if there is one, is the least whose key passes, where `get` gives the value at a key
abbrev pub IsLeast : {K V : Type 0} → (K → K → Ordering) → (K → Option V) → (K → Bool) → Option (K × V) → Type 0
IsLeast {K} R get passes first =
    MatchOption first
    ((k : K) → passes k ≡ true → get k ≡ None)
    (λ e. (passes e.0 ≡ true) × (get e.0 ≡ Some e.1) × ((k : K) → passes k ≡ true → is_some (get k) ≡ true → is_lt (R k e.0) ≡ false))

-- the entry with the lesser key
abbrev pub lesser_entry : {K V : Type 0} → (K → K → Ordering) → Option (K × V) → Option (K × V) → Option (K × V)
lesser_entry R None other = other
lesser_entry R (Some one) None = Some one
lesser_entry R (Some one) (Some other) = cond (is_lt (R other.0 one.0)) (Some other) (Some one)

-- whether a name comes after the one that was passed, if one was
abbrev pub comes_past : Option Name → Name → Bool
comes_past None name = true
comes_past (Some passed) name = is_lt (name_cmp passed name)
