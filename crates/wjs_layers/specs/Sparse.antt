-- What the rows of the worlds stand for.
use Rattle.std.specs.Prelude.{◌≡◌, ℕ, ◌+◌, ◌<◌, true, not, cond, ◌||◌, List, [], ◌∷◌, length, fold, Option, None, Some, is_some, slice_get}
use Rattle.std.specs.Option.{option_map, option_map_or, option_and_then}
use Rattle.std.specs.FinMap as map
use Rattle.std.specs.FinMap.{FinMap}
use Rattle.wjs_base.specs.declared.ids.WorldId.{WorldId}
use Rattle.wjs_base.specs.declared.values.Slot.{Slot}
use Rattle.wjs_base.specs.declared.values.Value.{Value}
use Rattle.wjs_base.specs.Order.{slot_cmp, obj_cmp}
use Rattle.wjs_store.specs.Naming.{plain}
use Rattle.wjs_store.specs.State.{World, State, KeySet, put, find_world, same_world, after_read}
use Rattle.wjs_store.specs.Reached.{IsReached}
use Rattle.wjs_store.specs.Shown.{content_of}
use Rattle.wjs_layers.specs.declared.maps.Row.{Row}
use Rattle.wjs_layers.specs.declared.layer.Spot.{Spot}
use Rattle.wjs_layers.specs.declared.layer.Layer.{Layer}

-- ---- a row

-- what the slot holds
abbrev pub now_of : Row → Option Value
now_of row = content_of row.now

-- the recorded read, if there is one
abbrev pub read_of : Row → Option (Option Value)
read_of row = option_map content_of row.read

-- the mark of writing
abbrev pub mark_of : Row → Option (Unit {0})
mark_of row = cond row.written (Some tt) None

-- ---- the worlds

-- a map with what f gives of each row at its slot
abbrev pub laid : {V : Type 0} → (Row → Option V) → FinMap slot_cmp V → List (Slot × Row) → FinMap slot_cmp V
laid f m [] = m
laid f m (e ∷ es) = put (laid f m es) e.0 (f e.1)

-- without the slots of closed objects
abbrev pub unclosed : KeySet obj_cmp → FinMap slot_cmp Value → FinMap slot_cmp Value
unclosed closed m = map.retain_keys m (λ (s : Slot). not (map.contains_key closed s.object))

abbrev pub copy_at : State plain → WorldId → FinMap slot_cmp Value
copy_at F i = option_map_or (λ (x : World plain). x.copy) (find_world F i) map.empty

-- a slot holds what its row says; else it is absent where its object is closed; else it holds what it holds in the parent
abbrev pub copy_of : Layer → State plain → FinMap slot_cmp Value
copy_of r F = laid now_of (unclosed r.closed (option_map_or (λ (a : Spot). copy_at F a.world) r.above map.empty)) (map.entries r.rows)

abbrev pub world_of : Layer → State plain → World plain
world_of r F = record {
  id = r.id;
  parent = option_map (λ (a : Spot). a.world) r.above;
  strict = r.strict;
  copy = copy_of r F;
  first = laid read_of map.empty (map.entries r.rows);
  written = laid mark_of map.empty (map.entries r.rows);
  closed = r.closed;
}

-- the full state of layers in the order of sprouting
unfoldable pub full_of : List Layer → State plain
full_of layers = fold (λ F r. world_of r F ∷ F) [] layers

-- ---- the rows are exactly the marks

-- how many worlds are older
unfoldable pub place_of : State plain → WorldId → Option ℕ
place_of [] i = None
place_of (x ∷ older) i = cond (same_world x.id i) (Some (length older)) (place_of older i)

-- the layer r keeps of the world x its marks and what is marked; of the first world, its present slots
pub record Keeps (r : Layer) (x : World plain) : Type 0 where
  pub id : x.id ≡ r.id
  pub parent : x.parent ≡ option_map (λ (a : Spot). a.world) r.above
  pub strict : x.strict ≡ r.strict
  pub closed : x.closed ≡ r.closed
  pub first : (s : Slot) → map.get x.first s ≡ option_and_then read_of (map.get r.rows s)
  pub written : (s : Slot) → map.get x.written s ≡ option_and_then mark_of (map.get r.rows s)
  pub now : (s : Slot) (row : Row) → map.get r.rows s ≡ Some row → map.get x.copy s ≡ now_of row
  -- in a world with a parent each row is read or written, in the first world none is
  pub marked : (s : Slot) (row : Row) → map.get r.rows s ≡ Some row → (is_some row.read || row.written) ≡ is_some r.above
  -- in the first world each slot with a row is present, and no other is
  pub present : (s : Slot) (row : Row) → r.above ≡ None → map.get r.rows s ≡ Some row → is_some (now_of row) ≡ true
  pub bare : (s : Slot) → r.above ≡ None → map.get r.rows s ≡ None → map.get x.copy s ≡ None

-- each world is kept by the layer at its place, which knows its parent's place
pub record AreKept (layers : List Layer) (F : State plain) : Type 0 where
  pub many : length layers ≡ length F
  pub at : (w : WorldId) (i : ℕ) (x : World plain) (r : Layer) → place_of F w ≡ Some i → find_world F w ≡ Some x → slice_get layers i ≡ Some r → Keeps r x
  pub up : (w : WorldId) (i : ℕ) (r : Layer) (a : Spot) → place_of F w ≡ Some i → slice_get layers i ≡ Some r → r.above ≡ Some a → (place_of F a.world ≡ Some a.place) × (a.place < i)

-- the rows of a reached state
pub record IsSparse (layers : List Layer) : Type 0 where
  pub reached : IsReached (full_of layers)
  pub kept : AreKept layers (full_of layers)

-- the layers stand for these worlds
pub record StandFor (layers : List Layer) (F : State plain) : Type 0 where
  pub full : full_of layers ≡ F
  pub sparse : IsSparse layers

-- the world stands at this place
abbrev pub IsAt : List Layer → Spot → Type 0
IsAt layers at = place_of (full_of layers) at.world ≡ Some at.place

-- how many worlds are above a world
unfoldable pub depth_of : State plain → WorldId → ℕ
depth_of [] w = 0
depth_of (x ∷ older) w = cond (same_world x.id w) (option_map_or (λ p. depth_of older p + 1) x.parent 0) (depth_of older w)

-- slots are read in a world, one after another
abbrev pub after_reads : WorldId → List Slot → State plain → State plain
after_reads w ss F = fold (λ (G : State plain) (s : Slot). after_read G w s) F ss
