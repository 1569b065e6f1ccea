use Rattle.std.proofs.Common.{◌≡◌, ◌++◌, drop}
use Rattle.std.specs.Prelude.{map}
use Rattle.wjs_base.specs.declared.ids.ObjId.{ObjId}
use Rattle.wjs_base.specs.Text.{Table, Grows}
use Rattle.wjs_by_content.specs.Tables.{text_in, value_in}
use Rattle.wjs_meaning.specs.Functions.{formal_slots}
use Rattle.wjs_props.specs.Several.{rows_in}
use Rattle.wjs_heap_steps.specs.HasRows.{HasRows}
use Rattle.wjs_variables.proofs.scopes.put_formals.Given as goal

abbrev pub invariant-loop-i : goal.invariant-loop-i
invariant-loop-i g l = record {
  known : HasRows l.config l.rows.items;
  slots : (t : Table) → Grows l.config.heap.texts t → (o : ObjId) →
      rows_in t o l.rows.items ++ formal_slots o (map (text_in t) (drop l.i l.formals)) (map (value_in t) (drop l.i l.values)) ≡ rows_in t o l.fn.rows.items ++ formal_slots o (map (text_in t) l.formals) (map (value_in t) l.values);
}
