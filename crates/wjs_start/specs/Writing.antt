-- The slots of the first world are written.
use Rattle.std.specs.Prelude.{ℕ, Bool, true, ◌&&◌, ◌==◌, nat_lt, List, [], ◌∷◌, Some}
use Rattle.wjs_base.specs.declared.ids.ObjId.{ObjId}
use Rattle.wjs_by_content.specs.Values.{Value, Object}
use Rattle.wjs_by_content.specs.Plans.{Plan, Gives, Writes, then_plan}
use Rattle.wjs_heap.specs.Means.{nothing}
use Rattle.wjs_meaning.specs.Start.{Property}

-- each slot gets its value, the last one first
abbrev pub writes_of : List Property → Plan (Unit {0})
writes_of [] = Gives nothing
writes_of (p ∷ ps) = then_plan (writes_of ps) (λ done. Writes p.at (Some p.value) (Gives nothing))

-- an object of owner 0 with a number below n
abbrev pub is_below : ℕ → ObjId → Bool
is_below n o = (o.owner == 0) && nat_lt o.serial n

-- so is the value, if it is an object
abbrev pub is_value_below : ℕ → Value → Bool
is_value_below n (Object o) = is_below n o
is_value_below n v = true

abbrev pub is_within : ℕ → Property → Bool
is_within n p = is_below n (p.at).object && is_value_below n p.value

abbrev pub are_within : ℕ → List Property → Bool
are_within n [] = true
are_within n (p ∷ ps) = is_within n p && are_within n ps
