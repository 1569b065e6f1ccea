-- What contracts see of a layer: its rows are one finite map, in whatever table they are.
use Rattle.std.specs.Prelude.{ℕ, Bool, Option, refl}
use Rattle.std.specs.Coded.{Coded, code_by, coded×, coded_ℕ, coded_bool, coded_option}
use Rattle.std.specs.FinMap as map
use Rattle.std.specs.FinMap.{FinMap}
use base.Stored.{coded_unit}
use Rattle.wjs_base.specs.declared.ids.WorldId.{WorldId}
use Rattle.wjs_base.specs.Order.{slot_cmp, obj_cmp}
use Rattle.wjs_store.specs.State.{KeySet}
use Rattle.wjs_layers.specs.declared.maps.Row.{Row}
use Rattle.wjs_layers.specs.declared.layer.Spot.{Spot}
use Rattle.wjs_base.specs.Codes.{coded_slot, coded_object, coded_world}
use Rattle.wjs_layers.specs.Codes.{coded_row}

pub record Shape : Type 0 where
  pub id : WorldId
  pub above : Option Spot
  pub strict : Bool
  pub rows : FinMap slot_cmp Row
  pub closed : KeySet obj_cmp

abbrev pub coded_spot : Coded Spot
coded_spot = code_by (WorldId × ℕ) (coded× coded_world coded_ℕ) (λ a. (a.world, a.place)) (λ p. record { world = p.0; place = p.1 }) (λ _. refl)

abbrev pub coded_shape : Coded Shape
coded_shape =
    code_by (WorldId × (Option Spot × (Bool × (FinMap slot_cmp Row × KeySet obj_cmp))))
    (coded× coded_world (coded× (coded_option coded_spot) (coded× coded_bool (coded× (map.code coded_slot coded_row) (map.code coded_object coded_unit)))))
    (λ r. (r.id, (r.above, (r.strict, (r.rows, r.closed)))))
    (λ p. record { id = p.0; above = p.1.0; strict = p.1.1.0; rows = p.1.1.1.0; closed = p.1.1.1.1 })
    (λ _. refl)
