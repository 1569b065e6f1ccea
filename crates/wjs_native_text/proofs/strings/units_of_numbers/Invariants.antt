use Rattle.std.proofs.Common.{◌≡◌, take}
use Rattle.std.specs.Prelude.{map}
use Rattle.wjs_base.specs.Text.{Table}
use Rattle.wjs_by_content.specs.Tables.{value_in}
use Rattle.wjs_native_text.proofs.Joining.{each_unit}
use Rattle.wjs_native_text.proofs.strings.units_of_numbers.Given as goal

abbrev pub invariant-loop-number : goal.invariant-loop-number
invariant-loop-number l = (t : Table) → each_unit (map (value_in t) (take l.number-index l.numbers)) ≡ l.units.items
