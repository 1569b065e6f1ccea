-- The rows of a child world, by what is kept of their slots.
use Rattle.std.proofs.Common.{◌≡◌, true, false, cond, Option, None, Some, refl, ap, sym, ◌∙◌}
use Rattle.std.specs.Option.{option_map, option_map_or}
use Rattle.std.specs.Ordering.{eq_by_cmp, is_eq}
use Rattle.std.specs.Cmp.{tied_itself}
use Rattle.std.specs.FinMap as map
use Rattle.std.specs.FinMap.{FinMap}
use Rattle.wjs_base.specs.declared.values.Slot.{Slot}
use Rattle.wjs_base.specs.declared.values.Content.{Content}
use Rattle.wjs_base.specs.Order.{slot_cmp, slot_total}
use Rattle.wjs_layers.specs.declared.maps.Row.{Row}
use Rattle.wjs_layers.specs.declared.compact.Mark.{Mark}
use Rattle.wjs_layers.specs.declared.compact.Mark.TheVariants as marks
use Rattle.wjs_layers.specs.declared.compact.ShortContent.{ShortContent}
use Rattle.wjs_layers.specs.Keyed.{rows_by, rewritten}
use Rattle.wjs_layers.specs.Shorts.{content_in, apart_of, is_write, read_by, row_in, row_read, row_written}
use Rattle.wjs_layers.proofs.Tables.{rows_get, rows_put}

-- what a row says that its slot holds is what is kept
pub now_kept : (f : ShortContent → Row) → ((s : ShortContent) → (f s).now ≡ content_in s) → (o : Option ShortContent) → option_map content_in o ≡ option_map (λ (row : Row). row.now) (option_map f o)
now_kept f same None = refl
now_kept f same (Some s) = ap Some (sym (same s))

pub row_of_read : (before : FinMap slot_cmp ShortContent) (q : Slot) (s : ShortContent) (read : Content) → s.mark ≡ marks.Read → content_in s ≡ read → row_in before q s ≡ row_read read
row_of_read before q s read m e = λ i. record { read = read_by (m i) (e i) (apart_of before q); now = e i; written = is_write (m i) }

pub row_of_written : (before : FinMap slot_cmp ShortContent) (q : Slot) (s : ShortContent) (mark : Mark) (read : Option Content) (now : Content) → s.mark ≡ mark → content_in s ≡ now
    → ((c : Content) → read_by mark c (apart_of before q) ≡ read) → is_write mark ≡ true → row_in before q s ≡ row_written read now
row_of_written before q s mark read now m e r w =
    let recorded = ap (λ k. read_by k (content_in s) (apart_of before q)) m ∙ r (content_in s) in
    let written = ap is_write m ∙ w in
    λ i. record { read = recorded i; now = e i; written = written i }

-- what is kept apart of one slot says nothing of others
other_row : (before new : FinMap slot_cmp ShortContent) (q : Slot) (s : ShortContent) → map.get new q ≡ map.get before q → row_in new q s ≡ row_in before q s
other_row before new q s e = ap (λ o. record { read = read_by s.mark (content_in s) (option_map content_in o); now = content_in s; written = is_write s.mark }) e

-- what is kept apart
module _ (before new : FinMap slot_cmp ShortContent) (q : Slot) (s : ShortContent) (is : new ≡ map.insert before q s) where
  pub apart_here : apart_of new q ≡ Some (content_in s)
  apart_here = ap (option_map content_in) (ap (λ m. map.get m q) is ∙ map.get-insert slot_total before q s q ∙ ap (λ o. cond (is_eq o) (Some s) (map.get before q)) (tied_itself slot_total q))

  pub apart_other : (t : Slot) → eq_by_cmp slot_cmp t q ≡ false → map.get new t ≡ map.get before t
  apart_other t b = ap (λ m. map.get m t) is ∙ map.get-insert slot_total before q s t ∙ ap (λ d. cond d (Some s) (map.get before t)) b

-- a written row
module _ (before new : FinMap slot_cmp ShortContent) (rows more : FinMap slot_cmp ShortContent) (q : Slot) (s : ShortContent) (others : (t : Slot) → eq_by_cmp slot_cmp t q ≡ false → map.get new t ≡ map.get before t) (is : more ≡ map.insert rows q s) where
  pub put_written : (row : Row) → row_in new q s ≡ row → rows_by (row_in new) more ≡ map.insert (rows_by (row_in before) rows) q row
  put_written row e =
      ap (rows_by (row_in new)) is
      ∙ rows_put (row_in before) (row_in new) rows q s (λ t w b. other_row before new t w (others t b))
      ∙ ap (map.insert (rows_by (row_in before) rows) q) e

  -- over a row
  pub put_over : (kept : ShortContent) (now : Content) → map.get rows q ≡ Some kept → row_in new q s ≡ row_written (row_in before q kept).read now → rows_by (row_in new) more ≡ rewritten (rows_by (row_in before) rows) q now
  put_over kept now there e =
      put_written (row_written (row_in before q kept).read now) e
      ∙ sym (ap (λ o. option_map_or (λ (row : Row). map.insert (rows_by (row_in before) rows) q (row_written row.read now)) o (rows_by (row_in before) rows)) (rows_get (row_in before) rows q ∙ ap (option_map (row_in before q)) there))

-- a slot without a row is not written over
pub none_over : (rows : FinMap slot_cmp Row) (q : Slot) (now : Content) → map.get rows q ≡ None → rows ≡ rewritten rows q now
none_over rows q now e = sym (ap (λ o. option_map_or (λ (row : Row). map.insert rows q (row_written row.read now)) o rows) e)
