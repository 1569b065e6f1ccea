-- The world for which a value stands.
use Rattle.std.specs.Prelude.{true, false, Option, None, Some}
use Rattle.wjs_base.specs.declared.ids.WorldId.{WorldId}
use Rattle.wjs_by_content.specs.Values.{Value, Object}
use Rattle.wjs_by_content.specs.Objects.{object_at}
use Rattle.wjs_meaning.specs.Deeds.{Act, Do, Look, HasWorld}

-- where there is one, whether it is there
abbrev pub found_then : Option WorldId → (Option WorldId → Act) → Act
found_then None go = go None
found_then (Some w) go = Do (HasWorld w) (λ has. elim has [ true ↦ go (Some w) | false ↦ go None ])

-- the world of a value, if it is there
abbrev pub world_then : Value → (Option WorldId → Act) → Act
world_then (Object o) go = Do Look (λ arena. found_then (object_at arena o).world go)
world_then v go = go None
