-- Several slots of an object are written.
use Rattle.std.proofs.Common.{◌≡◌, List, [], ◌∷◌, Some, refl, ap, subst}
use Rattle.std.specs.Prelude.{OnOk}
use Rattle.wjs_base.specs.declared.ids.ObjId.{ObjId}
use Rattle.wjs_base.specs.declared.ids.WorldId.{WorldId}
use Rattle.wjs_base.specs.declared.values.Name.{Name}
use Rattle.wjs_base.specs.declared.values.Value.{Value as NumberedValue}
use Rattle.wjs_base.specs.Text.{Table}
use Rattle.wjs_store.specs.Meaning.{Meaning}
use Rattle.wjs_by_content.specs.Names.{Slot}
use Rattle.wjs_by_content.specs.Renamed.{Holds}
use Rattle.wjs_by_content.specs.Values.{Value}
use Rattle.wjs_heap.specs.Heap.{HasValue as HasValueIn}
use Rattle.wjs_heap.specs.Means.{nothing}
use Rattle.wjs_base.specs.Spelling.{IsName}
use Rattle.wjs_props.specs.Several.{writes, rows_in}
use Rattle.wjs_meaning.specs.Deeds.{Act, Do, Write, carry_out, write_all}
use Rattle.wjs_model.specs.declared.config.Config.{Config}
use Rattle.wjs_model.specs.Apart.{IsNear}
use Rattle.wjs_frames.specs.Doing.{Does, DoesFirst}
use Rattle.wjs_frames.specs.Following.{Follows}
use Rattle.wjs_heap_steps.specs.HasRows.{HasRows}
use Rattle.wjs_heap_steps.proofs.Having.{value_here, value_near}
use Rattle.wjs_heap_steps.proofs.NearPlans.{Any, Reaches}
use Rattle.wjs_heap_steps.proofs.NearWorlds.{values_near}

-- as deeds
pub carried_all : (w : WorldId) (es : List (Slot × Value)) (act : Act) → carry_out (writes es) w (λ done. act) ≡ write_all w es act
carried_all w [] act = refl
carried_all w (e ∷ es) act = ap (λ rest. Do (Write w e.0 (Some e.1)) (λ done. rest)) (carried_all w es act)

pub does_rows : {S : Type 0} (meaning : S → Meaning) (w : WorldId) (es : Table → List (Slot × Value)) (old new : Config S) → Does meaning (λ t go. carry_out (writes (es t)) w go) (λ t. nothing) old new → DoesFirst meaning (λ t. write_all w (es t)) old new
does_rows meaning w es old new d = record {
  by = λ act later r h. subst (λ (x : Act). OnOk r (Follows meaning x old later)) (carried_all w (es later.heap.texts) act) (d.by (λ done. act) later r h);
}

module _ {S : Type 0} (c : Config S) where
  -- what they name is in the heap
  pub rows_here : (rows : List (Name × NumberedValue)) → HasRows c rows → Holds (λ row. IsName c.heap.texts row.0 × HasValueIn c.heap.texts c.heap.arena row.1) rows
  rows_here [] h = tt
  rows_here (row ∷ rows) h = ((h.0.0, value_here c row.1 h.0.1), rows_here rows h.1)

  -- and near
  pub rows_reach : (t : Table) (o : ObjId) → IsNear c.apart.items o → (rows : List (Name × NumberedValue)) → HasRows c rows → Reaches (IsNear c.apart.items) (Any (IsNear c.apart.items)) (writes (rows_in t o rows))
  rows_reach t o near [] h = tt
  rows_reach t o near (row ∷ rows) h = ((near, values_near c.apart.items t row.1 (value_near c row.1 h.0.1)), rows_reach t o near rows h.1)
