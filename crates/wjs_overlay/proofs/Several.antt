-- Several slots of one object are written.
use Rattle.std.proofs.Common.{◌≡◌, ℕ, ◌<◌, Bool, true, false, not, List, [], ◌∷◌, Option, Some, refl, sym, ◌∙◌, subst, IsTrue}
use Rattle.std.proofs.lemmas.Bool.{true≢false}
use Rattle.wjs_base.specs.declared.ids.ObjId.{ObjId}
use Rattle.wjs_base.specs.declared.ids.WorldId.{WorldId}
use Rattle.wjs_base.specs.declared.values.Name.{Name}
use Rattle.wjs_base.specs.declared.values.Slot.{Slot}
use Rattle.wjs_base.specs.declared.values.Value.{Value}
use Rattle.wjs_store.specs.Naming.{plain}
use Rattle.wjs_store.specs.State.{State, after_write, write_all}
use Rattle.wjs_store.specs.Fixed.{fixed}
use Rattle.wjs_store.specs.Meaning.{DoesAll, entries_of, writes_of}
use Rattle.wjs_store.proofs.AllAnswered.{writes_fixed}
use Rattle.wjs_layers.specs.declared.layer.Layer.{Layer}
use Rattle.wjs_layers.specs.Sparse.{place_of, full_of}
use Rattle.wjs_overlay.specs.declared.bounds.Bound.{Bound}
use Rattle.wjs_overlay.specs.Covers.{covers}
use Rattle.wjs_overlay.specs.Store.{worlds_of}
use Rattle.wjs_overlay.specs.Touched.{Covered}
use Rattle.wjs_overlay.proofs.StoreLaws.{place_ids, ids_write}
use Rattle.wjs_overlay.proofs.Touching.{covered_write}

-- bounds that cover the object in the world go on covering all worlds
pub covered_rows : (bounds : List Bound) (w : WorldId) (n : ℕ) (o : ObjId) → (0 < n → covers bounds n o.serial ≡ true) → (rows : List (Name × Value)) (F : State plain) → place_of F w ≡ Some n → Covered bounds F → Covered bounds (write_all w (entries_of o rows) F)
covered_rows bounds w n o reached [] F here h = h
covered_rows bounds w n o reached (row ∷ rows) F here h =
    let q : Slot = record { object = o; name = row.0 } in
    let next = after_write F w q (Some row.1) in
    covered_rows bounds w n o reached rows next (place_ids next F w (ids_write F w q (Some row.1)) ∙ here) (covered_write bounds bounds (λ i serial t. t) F w n here q (Some row.1) reached h)

pub answers_rows : (spent : Bool) (layers : List Layer) (G : State plain) (w : WorldId) (es : List (Slot × Option Value)) → spent ≡ false → G ≡ write_all w es (full_of layers)
    → DoesAll (fixed (worlds_of spent layers) spent) (writes_of w es) (fixed G false) × IsTrue (not spent)
answers_rows true layers G w es s e = absurd (true≢false s)
answers_rows false layers G w es s e = (subst (λ (H : State plain). DoesAll (fixed (full_of layers) false) (writes_of w es) (fixed H false)) (sym e) (writes_fixed w es (full_of layers)), refl)
