-- A store that means the same under every view and has nothing beside its worlds.
use Rattle.std.specs.Prelude.{Bool, true, false, [], ◌∷◌, None}
use Rattle.std.specs.FinMap as map
use Rattle.wjs_base.specs.declared.ids.WorldId.{WorldId}
use Rattle.wjs_store.specs.Meaning.{Meaning, Worlds}

abbrev pub fixed : Worlds → Bool → Meaning
fixed F spent = record { full = λ _. F; admits = λ _. true; own = map.empty; told = None; around = []; spent = spent }

-- a first world of this number alone
abbrev pub begun : WorldId → Worlds
begun id = record { id = id; parent = None; strict = false; copy = map.empty; first = map.empty; written = map.empty; closed = map.empty } ∷ []

-- owner 0's
abbrev pub fresh : Worlds
fresh = begun (record { owner = 0; serial = 0 })
