-- What a receiver holds.
use Rattle.wjs_by_content.specs.Values.{Value, Object}
use Rattle.wjs_by_content.specs.Objects.{object_at}
use Rattle.wjs_meaning.specs.Deeds.{Act, Do, Look}

-- of a wrapper its primitive, and what follows it; another value is itself
abbrev pub primitive_then : Value → (Value → Act) → Act
primitive_then (Object o) go = Do Look (λ arena. go (object_at arena o).primitive)
primitive_then v go = go v
