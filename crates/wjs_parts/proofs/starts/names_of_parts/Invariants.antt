use Rattle.std.proofs.Common.{◌≡◌, map, take}
use Rattle.std.specs.Prelude.{All}
use Rattle.wjs_base.specs.Text.{Table, Has, IsTable}
use Rattle.wjs_by_content.specs.Tables.{text_in}
use Rattle.wjs_model.specs.Texts.{KnowsUnit}
use Rattle.wjs_model.specs.Units.{unit_in}
use Rattle.wjs_alone.specs.Opening.{part_names}
use Rattle.wjs_parts.proofs.starts.names_of_parts.Given as goal

abbrev pub invariant-loop-part : goal.invariant-loop-part
invariant-loop-part l = record {
  are : (t : Table) → IsTable t → All (KnowsUnit t) l.parts → map (text_in t) l.names.items ≡ part_names (map (unit_in t) (take l.part-index l.parts));
  found : (t : Table) → All (KnowsUnit t) l.parts → All (Has t) l.names.items;
}
