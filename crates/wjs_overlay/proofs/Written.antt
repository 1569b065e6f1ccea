-- The written slots of a world, one after another.
use Rattle.std.proofs.Common.{◌≡◌, ◌+◌, ◌≤◌, Bool, true, false, ◌&&◌, List, Option, None, Some, is_some, slice_get, refl, ap, sym, ◌∙◌}
use Rattle.std.specs.Option.{option_map_or, option_and_then}
use Rattle.std.specs.FinMap as map
use Rattle.std.specs.FinMap.{FinMap}
use Rattle.std.proofs.lemmas.Bool.{true≢false, and_from}
use Rattle.std.proofs.lemmas.Option.{same_Some}
use Rattle.wjs_base.specs.declared.values.Slot.{Slot}
use Rattle.wjs_base.specs.Order.{slot_cmp, slot_total, slot_exact}
use Rattle.wjs_base.proofs.Booleans.{by_bool, and_false}
use Rattle.wjs_base.proofs.Options.{no_none}
use Rattle.wjs_base.proofs.Orders.{not_self}
use Rattle.wjs_store.specs.Naming.{plain}
use Rattle.wjs_store.specs.State.{World}
use Rattle.wjs_layers.specs.declared.maps.Row.{Row}
use Rattle.wjs_layers.specs.declared.layer.Spot.{Spot}
use Rattle.wjs_layers.specs.declared.layer.Layer.{Layer}
use Rattle.wjs_overlay.specs.Check.{IsLeast}
use Rattle.wjs_layers.specs.Cursor.{is_before, to_come, count_passing}
use Rattle.wjs_layers.specs.Marks.{is_written, has_written}
use Rattle.wjs_layers.specs.Sparse.{mark_of, full_of, IsSparse, IsAt}
use Rattle.wjs_overlay.proofs.Counts.{count_lt}
use Rattle.wjs_overlay.proofs.Keyed.{Found, key_of, by_order}
use Rattle.wjs_layers.proofs.Looks.{world_at, keeps_at}
use Rattle.wjs_layers.proofs.Scans.{to_come_on}
use Rattle.wjs_layers.proofs.Full.{mark_by}

module _ (rows : FinMap slot_cmp Row) (after : Option Slot) where
  -- of the slots after the one given, those that were passed aren't written
  pub record Passed (passed : Option Slot) : Type 0 where
    pub later : (s : Slot) → to_come passed s ≡ true → to_come after s ≡ true
    pub before : (s : Slot) → to_come after s ≡ true → to_come passed s ≡ false → has_written rows s ≡ false

  pub passed_none : Passed after
  passed_none = record { later = λ s h. h; before = λ s h n. absurd (true≢false (sym h ∙ n)) }

  written_none : (s : Slot) → map.get rows s ≡ None → has_written rows s ≡ false
  written_none s e = ap (λ o. option_map_or (λ (row : Row). row.written) o false) e

  module _ (passed : Option Slot) (k : Passed passed) (d : Option (Slot × Row)) (f : Found rows (to_come passed) d) where
    -- before the next row no slot is written
    none_before : (t : Slot) → to_come after t ≡ true → is_before t (key_of d) ≡ true → has_written rows t ≡ false
    none_before t a b = by_bool (to_come passed t)
        (λ e. written_none t (f.gone t e b))
        (λ e. k.before t a e)

    fails_before : (t : Slot) → is_before t (key_of d) ≡ true → (has_written rows t && to_come after t) ≡ false
    fails_before t b = by_bool (to_come after t)
        (λ a. ap (λ c. c && to_come after t) (none_before t a b))
        (λ a. ap (λ c. has_written rows t && c) a ∙ and_false (has_written rows t))

  pub written_found : (passed : Option Slot) (k : Passed passed) (slot : Slot) (row : Row) → Found rows (to_come passed) (Some (slot, row)) → row.written ≡ true → IsLeast (λ (s : Slot). has_written rows s && to_come after s) (Some slot)
  written_found passed k slot row f w = record {
    passes = λ s h. ap (λ (v : Slot). has_written rows v && to_come after v) (sym (same_Some slot s h))
        ∙ and_from (has_written rows slot) (to_come after slot)
        (ap (λ o. option_map_or (λ (row : Row). row.written) o false) (f.there (slot, row) refl) ∙ w)
        (k.later slot (f.passes (slot, row) refl));
    before = fails_before passed k (Some (slot, row)) f;
  }

  pub written_next : (passed : Option Slot) (k : Passed passed) (slot : Slot) (row : Row) → Found rows (to_come passed) (Some (slot, row)) → row.written ≡ false → Passed (Some slot)
  written_next passed k slot row f w = record {
    later = λ s h. k.later s (to_come_on passed slot s (f.passes (slot, row) refl) h);
    before = λ s a n. by_order slot_total slot_exact s slot
        (λ l. none_before passed k (Some (slot, row)) f s a l)
        (λ is. ap (has_written rows) is ∙ ap (λ o. option_map_or (λ (row : Row). row.written) o false) (f.there (slot, row) refl) ∙ w)
        (λ l. absurd (true≢false (sym l ∙ n)));
  }

  pub written_end : (passed : Option Slot) (k : Passed passed) → Found rows (to_come passed) None → IsLeast (λ (s : Slot). has_written rows s && to_come after s) None
  written_end passed k f = record { passes = λ s h. no_none s h; before = fails_before passed k None f }

pub fewer_rows : (rows : FinMap slot_cmp Row) (passed : Option Slot) (slot : Slot) (row : Row) → Found rows (to_come passed) (Some (slot, row)) → count_passing (to_come (Some slot)) (map.keys rows) + 1 ≤ count_passing (to_come passed) (map.keys rows)
fewer_rows rows passed slot row f = count_lt slot_exact (to_come passed) (to_come (Some slot)) (map.keys rows) slot
    (λ s h. to_come_on passed slot s (f.passes (slot, row) refl) h)
    (sym (map.contains_key-keys rows slot) ∙ ap is_some (f.there (slot, row) refl))
    (f.passes (slot, row) refl)
    (not_self slot_total slot)

-- ---- the rows' marks are the world's

some_mark : (b : Bool) → b ≡ is_some (mark_by b)
some_mark true = refl
some_mark false = refl

mark_is : (o : Option Row) → option_map_or (λ (row : Row). row.written) o false ≡ is_some (option_and_then mark_of o)
mark_is None = refl
mark_is (Some row) = some_mark row.written

pub written_at : (layers : List Layer) (h : IsSparse layers) (at : Spot) (here : IsAt layers at) (r : Layer) (s : slice_get layers at.place ≡ Some r) (t : Slot) → has_written r.rows t ≡ is_written (full_of layers) at.world t
written_at layers h at here r s t =
    let x = world_at layers h at here r s in
    mark_is (map.get r.rows t) ∙ ap is_some (sym ((keeps_at layers h at here r s).written t)) ∙ ap (λ o. option_map_or (λ (z : World plain). map.contains_key z.written t) o false) (sym x.1)
