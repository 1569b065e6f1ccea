-- Which keys stand at or after a key, in the keys' order.
use Rattle.std.specs.Prelude.{Bool}
use Rattle.std.specs.declared.cmp.Ordering.{Ordering}
use Rattle.std.specs.Ordering.{is_le, is_lt}

-- q is at the key k or after it
abbrev pub is_from : {K : Type 0} → (K → K → Ordering) → K → K → Bool
is_from cmp k q = is_le (cmp k q)

-- q is greater than the key k
abbrev pub is_after : {K : Type 0} → (K → K → Ordering) → K → K → Bool
is_after cmp k q = is_lt (cmp k q)
