-- What a session means. It is a world in a shared store, and an inner store whose first world has the same number. The worlds
-- of the session are those of the inner store; what its first world holds is told by the shared world, and where that has
-- touched nothing by the view.
use Rattle.std.specs.Prelude.{◌≡◌, Bool, false, ◌&&◌, ◌||◌, List, map as each, None, Some, is_none, unwrap_or}
use Rattle.std.specs.Option.{option_map_or}
use Rattle.std.specs.FinMap as map
use Rattle.wjs_base.specs.declared.ids.WorldId.{WorldId}
use Rattle.wjs_base.specs.declared.values.Slot.{Slot}
use Rattle.wjs_base.specs.Same.{same_value}
use Rattle.wjs_store.specs.Naming.{plain}
use Rattle.wjs_store.specs.State.{World, find_world, is_touched, same_content, fault_in, at_world}
use Rattle.wjs_store.specs.Shown.{first_of}
use Rattle.wjs_store.specs.Meaning.{Meaning, View, Worlds, PlainAct, PlainReply}
pub use Rattle.wjs_layers.specs.Reset.{has_child}
use Rattle.wjs_session.specs.Filled.{filled}
use Rattle.wjs_session.specs.Along.{own_of}

-- a world without parent that holds this
abbrev pub holding : WorldId → View → World plain
holding i m = record { id = i; parent = None; strict = false; copy = m; first = map.empty; written = map.empty; closed = map.empty }

-- the world of this number, and one that holds nothing where there is none
abbrev pub world_at : Worlds → WorldId → World plain
world_at F i = unwrap_or (find_world F i) (holding i map.empty)

-- what the first world holds
abbrev pub first_copy : Worlds → View
first_copy F = option_map_or (λ i. (world_at F i).copy) (first_of F) map.empty

-- ---- of the shared world x, and the inner worlds G

-- what x holds under a view: its own content where it is touched, else the view's
abbrev pub outer : World plain → View → View
outer x v = filled (is_touched x) x.copy v

-- whether the inner first world has what x holds in a slot that x has touched
abbrev pub settled : World plain → Worlds → Slot → Bool
settled x G s = is_touched x s && same_content same_value (map.get (first_copy G) s) (map.get x.copy s)

-- an inner world holds in settled slots what it holds, and elsewhere what x holds
abbrev pub widened : World plain → Worlds → View → World plain → World plain
widened x G v y = record y { copy = filled (settled x G) y.copy (outer x v) }

abbrev pub full_of : World plain → Worlds → View → Worlds
full_of x G v = each (widened x G v) G

-- the check of x passes over a first world that holds the view
unfoldable pub passes : World plain → View → Bool
passes x v = is_none (fault_in x (holding x.id v))

-- what x takes a first world to hold
unfoldable pub owned : World plain → View → View
owned x base = own_of x base

-- the worlds without what the world i holds and without its marks
abbrev pub around_of : Worlds → WorldId → Worlds
around_of F i = at_world i (λ y. record y { copy = map.empty; first = map.empty; written = map.empty; closed = map.empty }) F

-- ---- a session on the world i of the shared worlds F, with the inner worlds G
abbrev pub session : Worlds → WorldId → Worlds → List (PlainAct × PlainReply) → Bool → Meaning
session F i G told spent = record {
  full = full_of (world_at F i) G;
  admits = λ v. spent || passes (world_at F i) v;
  own = owned (world_at F i) (first_copy F);
  told = Some told;
  around = around_of F i;
  spent = spent;
}
