-- What the tables of a layer stand for.
use Rattle.std.specs.Prelude.{false, Option, None, Some}
use Rattle.std.specs.FinMap.{FinMap}
use Rattle.wjs_base.specs.declared.values.Value.{Value}
use Rattle.wjs_base.specs.declared.values.Content.TheVariants.{Present}
use Rattle.wjs_base.specs.Order.{slot_cmp}
use Rattle.wjs_layers.specs.declared.maps.Row.{Row}
use Rattle.wjs_layers.specs.declared.layer.Spot.{Spot}
use Rattle.wjs_layers.specs.declared.layer.Kept.{Kept}
use Rattle.wjs_layers.specs.declared.layer.Kept.TheVariants.{First, Under}
use Rattle.wjs_layers.specs.declared.layer.Layer.TheInside.{Inside}
use Rattle.wjs_layers.specs.Keyed.{rows_by}
use Rattle.wjs_layers.specs.Shape.{Shape}
use Rattle.wjs_layers.specs.Shorts.{at_first}

-- the row of a slot that is present in the first world
abbrev pub row_with : Value → Row
row_with v = record { read = None; now = Present v; written = false }

-- the first world has no parent
abbrev pub above_in : Kept → Option Spot
above_in (First values) = None
above_in (Under above rows) = Some above

abbrev pub rows_in : Kept → FinMap slot_cmp Row
rows_in (First values) = rows_by at_first values
rows_in (Under above rows) = rows

abbrev pub shown : Inside → Shape
shown a = record { id = a.id; above = above_in a.kept; strict = a.strict; rows = rows_in a.kept; closed = a.closed }
