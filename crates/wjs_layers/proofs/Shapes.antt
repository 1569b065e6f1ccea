-- What contracts see of a layer, by its fields.
use Rattle.std.proofs.Common.{◌≡◌, ap, sym, ◌∙◌}
use Rattle.std.specs.FinMap as map
use Rattle.std.specs.FinMap.{FinMap}
use Rattle.wjs_base.specs.declared.ids.ObjId.{ObjId}
use Rattle.wjs_base.specs.Order.{slot_cmp, obj_cmp}
use Rattle.wjs_store.specs.State.{KeySet}
use Rattle.wjs_layers.specs.declared.compact.ShortContent.{ShortContent}
use Rattle.wjs_layers.specs.declared.maps.Row.{Row}
use Rattle.wjs_layers.specs.declared.layer.Spot.{Spot}
use Rattle.wjs_layers.specs.declared.layer.Kept.{Kept}
use Rattle.wjs_layers.specs.declared.layer.Kept.TheVariants.{First, Under}
use Rattle.wjs_layers.specs.declared.layer.Layer.{Layer}
use Rattle.wjs_layers.specs.declared.layer.Layer.TheInside.{Inside}
use Rattle.wjs_layers.specs.Moves.{cleared}
use Rattle.wjs_layers.specs.Keyed.{rows_by}
use Rattle.wjs_layers.specs.Shorts.{at_first}
use Rattle.wjs_layers.specs.Tables.{above_in, rows_in, shown}

module _ (a : Inside) (r : Layer) (v : shown a ≡ r) where
  above_shown : above_in a.kept ≡ r.above
  above_shown = ap (λ (l : Layer). l.above) v

  pub rows_first : (m : FinMap slot_cmp ShortContent) → a.kept ≡ First m → rows_by at_first m ≡ r.rows
  rows_first m e = sym (ap rows_in e) ∙ ap (λ (l : Layer). l.rows) v

  pub rows_under : (up : Spot) (m : FinMap slot_cmp Row) → a.kept ≡ Under up m → m ≡ r.rows
  rows_under up m e = sym (ap rows_in e) ∙ ap (λ (l : Layer). l.rows) v

  pub close_shown : (n : KeySet obj_cmp) (o : ObjId) → n ≡ map.insert a.closed o tt → shown (record a { closed = n }) ≡ record r { closed = map.insert r.closed o tt }
  close_shown n o is =
      let closed = is ∙ ap (λ (l : Layer). map.insert l.closed o tt) v in
      λ i. record { id = (v i).id; above = (v i).above; strict = (v i).strict; rows = (v i).rows; closed = closed i }

  pub clear_shown : (k : Kept) (n : KeySet obj_cmp) → above_in k ≡ above_in a.kept → rows_in k ≡ map.empty → n ≡ map.empty → shown (record a { kept = k; closed = n }) ≡ cleared r
  clear_shown k n up rows closed =
      let above = up ∙ above_shown in
      λ i. record { id = (v i).id; above = above i; strict = (v i).strict; rows = rows i; closed = closed i }
