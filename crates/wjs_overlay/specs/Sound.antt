-- Why the store is sound.
use Rattle.std.specs.Prelude.{◌≡◌, ℕ, Bool, true, false, not, IsTrue, List, refl}
use Rattle.std.specs.Ordering.{nat_cmp}
use Rattle.std.specs.FinMap.{FinMap}
use Rattle.wjs_base.specs.Order.{world_cmp}
use Rattle.wjs_store.specs.Meaning.{IsSound}
use Rattle.wjs_store.specs.Fixed.{fixed}
use Rattle.wjs_layers.specs.declared.layer.Layer.{Layer}
use Rattle.wjs_overlay.specs.Store.{IsStore, worlds_of}

pub sound_store : (spent : Bool) (layers : List Layer) (places : FinMap world_cmp ℕ) (owners : FinMap nat_cmp ℕ) → (spent ≡ false → IsStore layers places owners) → IsTrue (not spent) → IsSound (fixed (worlds_of spent layers) spent)
sound_store true layers places owners kept h = cc
sound_store false layers places owners kept h = record { admits_own = refl; reached = λ v _. (kept refl).sparse.reached; same_marks = λ v _. refl }
