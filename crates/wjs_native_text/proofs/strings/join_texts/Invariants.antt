use Rattle.std.proofs.Common.{◌≡◌, ◌++◌, take}
use Rattle.std.specs.Prelude.{map}
use Rattle.wjs_base.specs.Text.{Table, Grows}
use Rattle.wjs_by_content.specs.Tables.{value_in}
use Rattle.wjs_meaning.specs.NativesOfTexts.{joined}
use Rattle.wjs_native_text.proofs.strings.join_texts.Given as goal

abbrev pub invariant-loop-value : goal.invariant-loop-value
invariant-loop-value g l = (t : Table) → Grows l.config.heap.texts t → l.units.items ≡ l.initial.units.items ++ joined (map (value_in t) (take l.value-index l.values))
