use Rattle.std.proofs.Common.{take, map}
use Rattle.wjs_base.specs.Text.{Table, Grows}
use Rattle.wjs_by_content.specs.Tables.{text_in}
use Rattle.wjs_start.specs.Names.{AreNamesOf}
use Rattle.wjs_start.proofs.names.names_of.Given as goal

abbrev pub invariant-loop-id : goal.invariant-loop-id
invariant-loop-id l = (t : Table) → Grows l.texts t → AreNamesOf t l.names.items (map (text_in t) (take l.id-index l.ids))
