-- Values that are there mean the same as texts grow.
use Rattle.std.proofs.Common.{◌≡◌, true}
use Rattle.wjs_base.specs.declared.values.Value.{Value}
use Rattle.wjs_base.specs.Text.{Table, Grows}
use Rattle.wjs_store.specs.Meaning.{Meaning}
use Rattle.wjs_by_content.specs.Tables.{value_in, knows_value}
use Rattle.wjs_by_content.proofs.Growth.{value_grows}
use Rattle.wjs_props.proofs.Actions.{value_knows}
use Rattle.wjs_model.specs.declared.config.Config.{Config}
use Rattle.wjs_heap_steps.proofs.Having.{value_here}
use Rattle.wjs_model.specs.Soundness.{Base, HasValue}

module _ {S : Type 0} (meaning : S → Meaning) (c : Config S) where
  pub knows : (v : Value) → Base meaning c → HasValue c v → knows_value c.heap.texts v ≡ true
  knows v b h = value_knows c.heap.texts c.heap.arena v b.heap.table (value_here c v h)

  pub knows_later : (t : Table) (v : Value) → Base meaning c → HasValue c v → Grows c.heap.texts t → knows_value t v ≡ true
  knows_later t v b h g = (value_grows c.heap.texts t g v (knows v b h)).0

  pub value_stays : (t : Table) (v : Value) → Base meaning c → HasValue c v → Grows c.heap.texts t → value_in t v ≡ value_in c.heap.texts v
  value_stays t v b h g = (value_grows c.heap.texts t g v (knows v b h)).1
