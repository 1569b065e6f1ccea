-- Several slots of one object of the first world are set by their values in short.
use Rattle.std.proofs.Common.{◌≡◌, List, [], ◌∷◌, refl, ap, ◌∙◌}
use Rattle.std.specs.FinMap as map
use Rattle.std.specs.FinMap.{FinMap}
use Rattle.wjs_base.specs.declared.ids.ObjId.{ObjId}
use Rattle.wjs_base.specs.declared.values.Content.TheVariants.{Present}
use Rattle.wjs_base.specs.declared.values.Name.{Name}
use Rattle.wjs_base.specs.declared.values.Slot.{Slot}
use Rattle.wjs_base.specs.declared.values.Value.{Value}
use Rattle.wjs_base.specs.Order.{slot_cmp}
use Rattle.wjs_slots.specs.Several.{with_rows_on}
use Rattle.wjs_layers.specs.declared.compact.ShortContent.{ShortContent}
use Rattle.wjs_layers.specs.Keyed.{rows_by}
use Rattle.wjs_layers.specs.Several.{first_rows}
use Rattle.wjs_layers.specs.Shorts.{at_first, content_in}
use Rattle.wjs_layers.specs.Tables.{row_with}
use Rattle.wjs_layers.proofs.Packing.{row_present}
use Rattle.wjs_layers.proofs.Tables.{rows_insert}

-- rows in short set what these rows do
pub record Stand (o : ObjId) (shorts : List (Name × ShortContent)) (rows : List (Name × Value)) : Type 0 where
  pub set : (m : FinMap slot_cmp ShortContent) → rows_by at_first (with_rows_on o shorts m) ≡ first_rows o rows (rows_by at_first m)

pub none : (o : ObjId) → Stand o [] []
none o = record { set = λ m. refl }

pub more : (o : ObjId) (s : Name × ShortContent) (r : Name × Value) (shorts : List (Name × ShortContent)) (rows : List (Name × Value)) → s.0 ≡ r.0 → content_in s.1 ≡ Present r.1 → Stand o shorts rows → Stand o (s ∷ shorts) (r ∷ rows)
more o s r shorts rows n p rest = record {
  set = λ m.
      let slot : Slot = record { object = o; name = s.0 } in
      rest.set (map.insert m slot s.1)
      ∙ ap (first_rows o rows) (rows_insert at_first m slot s.1
      ∙ ap (map.insert (rows_by at_first m) slot) (row_present s.1 r.1 p)
      ∙ ap (λ name. map.insert (rows_by at_first m) (record { object = o; name = name }) (row_with r.1)) n);
}
