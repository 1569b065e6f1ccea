-- What the store keeps.
use Rattle.std.specs.Prelude.{◌≡◌, ℕ, ◌<◌, Bool, false, cond, List, length, unwrap_or}
use Rattle.std.specs.Coded.{Coded-set, coded_option, coded_ℕ}
use Rattle.std.specs.Ordering.{nat_cmp}
use Rattle.std.specs.Option.{option_and_then}
use Rattle.std.specs.FinMap as map
use Rattle.std.specs.FinMap.{FinMap}
use Rattle.std.specs.Prelude.{Option}
use Rattle.std.proofs.Props.{props}
use base.Stored.{coded_unit}
use Rattle.wjs_base.specs.contracts.values.Value as value
use Rattle.wjs_base.specs.declared.ids.WorldId.{WorldId}
use Rattle.wjs_base.specs.declared.values.Slot.{Slot}
use Rattle.wjs_base.specs.declared.values.Value.{Value}
use Rattle.wjs_base.specs.Order.{world_cmp, obj_cmp}
use Rattle.wjs_store.specs.Naming.{plain}
use Rattle.wjs_store.specs.State.{World, State, KeySet, with_parent, fault_in, count_of}
use Rattle.wjs_store.specs.Fixed.{fresh}
use Rattle.wjs_store.specs.Kept.{IsReached-prop}
use Rattle.wjs_layers.specs.declared.layer.Layer.{Layer}
use Rattle.wjs_base.specs.Codes.{coded_world, coded_object}
use Rattle.wjs_layers.specs.Sparse.{full_of, place_of, Keeps, AreKept, IsSparse}

-- the number of the first world
abbrev pub first_id : WorldId
first_id = record { owner = 0; serial = 0 }

-- a store that ran out of memory has the first world alone
abbrev pub worlds_of : Bool → List Layer → State plain
worlds_of spent layers = cond spent fresh (full_of layers)

-- the slot that fails the check of a world, where there is one
abbrev pub check_of : State plain → WorldId → Option Slot
check_of F w = option_and_then (λ (e : World plain × World plain). fault_in e.0 e.1) (with_parent F w)

-- the layers are the rows of a reached state, and each world is found by its number
pub record IsStore (layers : List Layer) (places : FinMap world_cmp ℕ) (owners : FinMap nat_cmp ℕ) : Type 0 where
  pub sparse : IsSparse layers
  pub some : 0 < length layers
  pub placed : (w : WorldId) → map.get places w ≡ place_of (full_of layers) w
  pub owned : (o : ℕ) → unwrap_or (map.get owners o) 0 ≡ count_of o (full_of layers)

-- ---- each of these is one fact

value_set : IsSet (Option Value)
value_set = Coded-set (coded_option (value.the_row).coded)

read_set : IsSet (Option (Option Value))
read_set = Coded-set (coded_option (coded_option (value.the_row).coded))

mark_set : IsSet (Option (Unit {0}))
mark_set = Coded-set (coded_option coded_unit)

world_set : IsSet WorldId
world_set = Coded-set coded_world

parent_set : IsSet (Option WorldId)
parent_set = Coded-set (coded_option coded_world)

place_set : IsSet (Option ℕ)
place_set = Coded-set (coded_option coded_ℕ)

closed_set : IsSet (KeySet obj_cmp)
closed_set = Coded-set (map.code coded_object coded_unit)

Keeps-prop : (r : Layer) (x : World plain) → IsProp (Keeps r x)
Keeps-prop r x = hlevel (props, value_set, read_set, mark_set, world_set, parent_set, closed_set)

AreKept-prop : (layers : List Layer) (F : State plain) → IsProp (AreKept layers F)
AreKept-prop layers F = hlevel (props, Keeps-prop, place_set)

IsSparse-prop : (layers : List Layer) → IsProp (IsSparse layers)
IsSparse-prop layers = hlevel (props, IsReached-prop, AreKept-prop)

IsStore-prop : (layers : List Layer) (places : FinMap world_cmp ℕ) (owners : FinMap nat_cmp ℕ) → IsProp (IsStore layers places owners)
IsStore-prop layers places owners = hlevel (props, IsSparse-prop, place_set)

pub store_prop : (spent : Bool) (layers : List Layer) (places : FinMap world_cmp ℕ) (owners : FinMap nat_cmp ℕ) → IsProp (spent ≡ false → IsStore layers places owners)
store_prop spent layers places owners = hlevel (props, IsStore-prop)
