-- The walks of a check.
use Rattle.std.proofs.Common.{◌≡◌, Bool, true, false, not, ◌&&◌, List, Option, None, Some, is_some, slice_get, refl, ap, sym, ◌∙◌}
use Rattle.std.specs.declared.cmp.Ordering.{Ordering}
use Rattle.std.specs.declared.cmp.Ordering.TheVariants.{Less, Equal, Greater}
use Rattle.std.specs.Ordering.{is_lt, ordering_then, ordering_reverse}
use Rattle.std.specs.Option.{option_map_or, option_and_then}
use Rattle.std.specs.FinMap as map
use Rattle.std.proofs.lemmas.Bool.{true≢false, and_parts, and_from}
use Rattle.std.proofs.lemmas.Option.{same_Some}
use Rattle.wjs_base.specs.declared.ids.ObjId.{ObjId}
use Rattle.wjs_base.specs.declared.ids.WorldId.{WorldId}
use Rattle.wjs_base.specs.declared.values.Slot.{Slot}
use Rattle.wjs_base.specs.Order.{slot_cmp, slot_total, slot_exact, obj_cmp, obj_total, obj_exact, name_cmp}
use Rattle.wjs_base.specs.Same.{same_value, object_Decides}
use Rattle.wjs_base.proofs.Booleans.{by_bool, and_false}
use Rattle.wjs_base.proofs.Options.{by_option, no_none}
use Rattle.wjs_rows.specs.Order.{is_after}
use Rattle.wjs_store.specs.Naming.{plain}
use Rattle.wjs_store.specs.State.{World, find_world, content_at, same_content, same_object, has_row}
use Rattle.wjs_layers.specs.declared.maps.Row.{Row}
use Rattle.wjs_layers.specs.declared.layer.Spot.{Spot}
use Rattle.wjs_layers.specs.declared.layer.Layer.{Layer}
use Rattle.wjs_layers.specs.Sparse.{read_of, full_of, Keeps, IsSparse, IsAt}
use Rattle.wjs_overlay.specs.Check.{IsLeast, differs, is_unseen, object_before}
use Rattle.wjs_layers.specs.Cursor.{is_before, to_come, IsNextSlot}
use Rattle.wjs_layers.proofs.Full.{row_none, row_some}
use Rattle.wjs_layers.proofs.HandLaws.{above_some}
use Rattle.wjs_overlay.proofs.Keyed.{Found, key_of, by_order}

module _ (layers : List Layer) (h : IsSparse layers) (at : Spot) (here : IsAt layers at) (r : Layer) (s : slice_get layers at.place ≡ Some r) (above : WorldId) (x y : World plain) (fx : find_world (full_of layers) at.world ≡ Some x) (fy : find_world (full_of layers) above ≡ Some y) where
  kx : Keeps r x
  kx = h.kept.at at.world at.place x r here fx s

  holds_y : (t : Slot) → content_at (full_of layers) above t ≡ map.get y.copy t
  holds_y t = ap (option_and_then (λ (z : World plain). map.get z.copy t)) fy

  -- ---- reads

  differs_row : (t : Slot) (row : Row) → map.get r.rows t ≡ Some row → differs x y t ≡ option_map_or (λ c. not (same_content same_value c (content_at (full_of layers) above t))) (read_of row) false
  differs_row t row e =
      ap (λ o. option_map_or (λ c. not (same_content same_value c (map.get y.copy t))) o false) (kx.first t ∙ ap (option_and_then read_of) e)
      ∙ ap (λ v. option_map_or (λ c. not (same_content same_value c v)) (read_of row) false) (sym (holds_y t))

  differs_none : (t : Slot) → map.get r.rows t ≡ None → differs x y t ≡ false
  differs_none t e = ap (λ o. option_map_or (λ c. not (same_content same_value c (map.get y.copy t))) o false) (kx.first t ∙ ap (option_and_then read_of) e)

  pub reads_first : (p : Slot → Bool) (d : Option (Slot × Row)) → Found r.rows p d → ((t : Slot) → p t ≡ true) → (t : Slot) → is_before t (key_of d) ≡ true → differs x y t ≡ false
  reads_first p d f all t b = differs_none t (f.gone t (all t) b)

  pub reads_found : (slot : Slot) (row : Row) → map.get r.rows slot ≡ Some row → option_map_or (λ c. not (same_content same_value c (content_at (full_of layers) above slot))) (read_of row) false ≡ true → ((t : Slot) → is_before t (Some slot) ≡ true → differs x y t ≡ false) → IsLeast (differs x y) (Some slot)
  reads_found slot row e d before = record { passes = λ q z. ap (differs x y) (sym (same_Some slot q z)) ∙ differs_row slot row e ∙ d; before = before }

  pub reads_next : (slot : Slot) (row : Row) (d : Option (Slot × Row)) → map.get r.rows slot ≡ Some row → option_map_or (λ c. not (same_content same_value c (content_at (full_of layers) above slot))) (read_of row) false ≡ false → ((t : Slot) → is_before t (Some slot) ≡ true → differs x y t ≡ false) → Found r.rows (is_after slot_cmp slot) d → (t : Slot) → is_before t (key_of d) ≡ true → differs x y t ≡ false
  reads_next slot row d e n before f t b = by_order slot_total slot_exact t slot
      (λ l. before t l)
      (λ is. ap (differs x y) is ∙ differs_row slot row e ∙ n)
      (λ l. differs_none t (f.gone t l b))

  -- ---- slots of a listed object

  module _ (px : is_some x.parent ≡ true) where
    unseen_is : (t : Slot) → is_unseen x y t ≡ (is_some (content_at (full_of layers) above t) && not (is_some (map.get r.rows t)))
    unseen_is t =
        ap (λ b. map.contains_key y.copy t && not b) (by_option (map.get r.rows t)
        (λ e. row_none r x kx t e ∙ sym (ap is_some e))
        (λ row e. row_some r x kx t row (above_some r x kx px) e ∙ sym (ap is_some e)))
        ∙ ap (λ o. is_some o && not (is_some (map.get r.rows t))) (sym (holds_y t))

    unseen_absent : (t : Slot) → content_at (full_of layers) above t ≡ None → is_unseen x y t ≡ false
    unseen_absent t e = ap (λ o. is_some o && not (has_row x t)) (sym (holds_y t) ∙ e)

    module _ (o : ObjId) (passed : Option Slot) (slot : Slot) (n : IsNextSlot (full_of layers) above o passed (Some slot)) (before : (t : Slot) → t.object ≡ o → to_come passed t ≡ false → is_unseen x y t ≡ false) where
      earlier : (t : Slot) → t.object ≡ o → is_lt (slot_cmp t slot) ≡ true → is_unseen x y t ≡ false
      earlier t e l = by_bool (to_come passed t)
          (λ c. unseen_absent t (n.least t e c l))
          (λ c. before t e c)

      pub object_found : (is_some (content_at (full_of layers) above slot) && not (is_some (map.get r.rows slot))) ≡ true → IsLeast (λ (t : Slot). same_object t.object o && is_unseen x y t) (Some slot)
      object_found u = record {
        passes = λ q z. ap (λ (v : Slot). same_object v.object o && is_unseen x y v) (sym (same_Some slot q z)) ∙ and_from (same_object slot.object o) (is_unseen x y slot) ((object_Decides slot.object o).1 (n.on slot refl)) (unseen_is slot ∙ u);
        before = λ t l. by_bool (same_object t.object o)
            (λ e. ap (λ b. same_object t.object o && b) (earlier t ((object_Decides t.object o).0 e) l) ∙ and_false (same_object t.object o))
            (λ e. ap (λ b. b && is_unseen x y t) e);
      }

      pub object_next : (is_some (content_at (full_of layers) above slot) && not (is_some (map.get r.rows slot))) ≡ false → (t : Slot) → t.object ≡ o → to_come (Some slot) t ≡ false → is_unseen x y t ≡ false
      object_next u t e c = by_order slot_total slot_exact t slot
          (λ l. earlier t e l)
          (λ is. ap (is_unseen x y) is ∙ unseen_is slot ∙ u)
          (λ l. absurd (true≢false (sym l ∙ c)))

    -- no slot of the object fails
    pub object_all : (o : ObjId) (passed : Option Slot) → IsNextSlot (full_of layers) above o passed None → ((t : Slot) → t.object ≡ o → to_come passed t ≡ false → is_unseen x y t ≡ false) → IsLeast (λ (t : Slot). same_object t.object o && is_unseen x y t) None
    object_all o passed n before = record {
      passes = λ q z. no_none q z;
      before = λ t l. by_bool (same_object t.object o)
          (λ e.
          let on = (object_Decides t.object o).0 e in
          ap (λ b. same_object t.object o && b) (by_bool (to_come passed t) (λ c. unseen_absent t (n.least t on c refl)) (λ c. before t on c)) ∙ and_false (same_object t.object o))
          (λ e. ap (λ b. b && is_unseen x y t) e);
    }

  -- ---- listed objects

  closed_is : (o : ObjId) → map.contains_key x.closed o ≡ map.contains_key r.closed o
  closed_is o = ap (λ c. map.contains_key c o) kx.closed

  slot_less : (t slot : Slot) (o : ObjId) → slot.object ≡ o → is_lt (obj_cmp o t.object) ≡ true → is_lt (slot_cmp t slot) ≡ true → ⊥
  slot_less t slot o e l k = no_less (obj_cmp t.object o) refl
    where
      no_less : (c : Ordering) → obj_cmp t.object o ≡ c → ⊥
      no_less Less z = true≢false (sym l ∙ ap is_lt (obj_total.antisymm o t.object ∙ ap ordering_reverse z))
      no_less Equal z = true≢false (sym l ∙ ap is_lt (obj_total.antisymm o t.object ∙ ap ordering_reverse z))
      no_less Greater z = true≢false (sym k ∙ ap (λ v. is_lt (ordering_then (obj_cmp t.object v) (name_cmp t.name slot.name))) e ∙ ap (λ c. is_lt (ordering_then c (name_cmp t.name slot.name))) z)

  pub closed_first : (p : ObjId → Bool) (d : Option (ObjId × Unit {0})) → Found r.closed p d → ((o : ObjId) → p o ≡ true) → (t : Slot) → object_before t.object (key_of d) ≡ true → (map.contains_key x.closed t.object && is_unseen x y t) ≡ false
  closed_first p d f all t b = ap (λ c. c && is_unseen x y t) (closed_is t.object ∙ ap is_some (f.gone t.object (all t.object) b))

  module _ (o : ObjId) (there : map.contains_key r.closed o ≡ true) (before : (t : Slot) → object_before t.object (Some o) ≡ true → (map.contains_key x.closed t.object && is_unseen x y t) ≡ false) where
    -- the slots of the object itself
    on_it : (t : Slot) → t.object ≡ o → (same_object t.object o && is_unseen x y t) ≡ false → (map.contains_key x.closed t.object && is_unseen x y t) ≡ false
    on_it t e n = ap (λ b. map.contains_key x.closed t.object && b) (ap (λ b. b && is_unseen x y t) (sym ((object_Decides t.object o).1 e)) ∙ n) ∙ and_false (map.contains_key x.closed t.object)

    pub closed_found : (slot : Slot) → IsLeast (λ (t : Slot). same_object t.object o && is_unseen x y t) (Some slot) → IsLeast (λ (t : Slot). map.contains_key x.closed t.object && is_unseen x y t) (Some slot)
    closed_found slot m =
        let parts = and_parts (same_object slot.object o) (is_unseen x y slot) (m.passes slot refl) in
        let on : slot.object ≡ o = (object_Decides slot.object o).0 parts.0 in
        record {
          passes = λ q z. ap (λ (v : Slot). map.contains_key x.closed v.object && is_unseen x y v) (sym (same_Some slot q z)) ∙ and_from (map.contains_key x.closed slot.object) (is_unseen x y slot) (closed_is slot.object ∙ ap (map.contains_key r.closed) on ∙ there) parts.1;
          before = λ t l. by_order obj_total obj_exact t.object o
              (λ k. before t k)
              (λ e. on_it t e (m.before t l))
              (λ k. absurd (slot_less t slot o on k l));
        }

    pub closed_next : (d : Option (ObjId × Unit {0})) → IsLeast (λ (t : Slot). same_object t.object o && is_unseen x y t) None → Found r.closed (is_after obj_cmp o) d → (t : Slot) → object_before t.object (key_of d) ≡ true → (map.contains_key x.closed t.object && is_unseen x y t) ≡ false
    closed_next d m f t b = by_order obj_total obj_exact t.object o
        (λ k. before t k)
        (λ e. on_it t e (m.before t refl))
        (λ k. ap (λ c. c && is_unseen x y t) (closed_is t.object ∙ ap is_some (f.gone t.object k b)))
