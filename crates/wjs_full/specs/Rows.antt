-- What the rows of `FullStore` stand for.
use Rattle.std.specs.Prelude.{ℕ, List, map as each, reverse, Option, slice_get}
use Rattle.std.specs.Option.{option_map, option_and_then}
use Rattle.wjs_full.specs.declared.rows.Row.{Row}
use Rattle.wjs_store.specs.Naming.{plain}
use Rattle.wjs_store.specs.State.{World, State}

abbrev pub world_in : Row → World plain
world_in r = record { id = r.id; parent = r.parent; strict = r.strict; copy = r.copy; first = r.first; written = r.written; closed = r.closed }

-- the newest first, where the rows stand in the order of sprouting
unfoldable pub worlds_in : List Row → State plain
worlds_in rows = reverse (each world_in rows)

-- the worlds at two places
unfoldable pub worlds_at : List Row → ℕ × ℕ → Option (World plain × World plain)
worlds_at rows e = option_and_then (λ (x : Row). option_map (λ (y : Row). (world_in x, world_in y)) (slice_get rows e.1)) (slice_get rows e.0)
