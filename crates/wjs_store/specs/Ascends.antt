-- Lists in strictly ascending order.
use Rattle.std.specs.Prelude.{List, map as each}
use Rattle.std.specs.declared.cmp.Ordering.{Ordering}
use Rattle.std.specs.FinMap as map
use Rattle.std.proofs.Common.{T}

abbrev pub tagged : {J : Type 0} → List J → List (J × Unit {0})
tagged ss = each (λ s. (s, tt)) ss

-- each element is below all that follow
abbrev pub Ascends : {J : Type 0} → (J → J → Ordering) → List J → Type 0
Ascends S ss = T (map.is_sorted S (tagged ss))
