-- The bounds cover what worlds have touched.
use Rattle.std.specs.Prelude.{◌≡◌, ℕ, ◌<◌, Bool, true, false, List, Some}
use Rattle.std.proofs.Props.{props}
use Rattle.wjs_base.specs.declared.ids.WorldId.{WorldId}
use Rattle.wjs_base.specs.declared.values.Slot.{Slot}
use Rattle.wjs_store.specs.Naming.{plain}
use Rattle.wjs_store.specs.State.{World, State, find_world, is_touched}
use Rattle.wjs_overlay.specs.declared.bounds.Bound.{Bound}
use Rattle.wjs_layers.specs.declared.layer.Layer.{Layer}
use Rattle.wjs_overlay.specs.Covers.{covers, IsRising}
use Rattle.wjs_layers.specs.Sparse.{full_of, place_of}

-- each slot that was read, written or listed in a world but the first is one of an object that the bounds cover there
abbrev pub Covered : List Bound → State plain → Type 0
Covered bs F = (w : WorldId) (i : ℕ) (x : World plain) (s : Slot) → place_of F w ≡ Some i → find_world F w ≡ Some x → 0 < i → is_touched x s ≡ true → covers bs i s.object.serial ≡ true

pub record IsCovered (bs : List Bound) (layers : List Layer) : Type 0 where
  pub rising : IsRising bs
  pub touched : Covered bs (full_of layers)

IsCovered-prop : (bs : List Bound) (layers : List Layer) → IsProp (IsCovered bs layers)
IsCovered-prop bs layers = hlevel props

pub covered_prop : (spent : Bool) (bs : List Bound) (layers : List Layer) → IsProp (spent ≡ false → IsCovered bs layers)
covered_prop spent bs layers = hlevel (props, IsCovered-prop)
