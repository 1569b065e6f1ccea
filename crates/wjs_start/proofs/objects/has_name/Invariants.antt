use Rattle.std.proofs.Common.{◌≡◌, true, map, drop}
use Rattle.wjs_base.specs.Text.{Table}
use Rattle.wjs_by_content.specs.Tables.{name_in, knows_name}
use Rattle.wjs_meaning.specs.Trees.{has_text}
use Rattle.wjs_start.specs.Known.{TellsNames}
use Rattle.wjs_start.proofs.objects.has_name.Given as goal

abbrev pub invariant-loop-other : goal.invariant-loop-other
invariant-loop-other l = (t : Table) → TellsNames t l.names → knows_name t l.name ≡ true → has_text (map (name_in t) l.names) (name_in t l.name) ≡ has_text (map (name_in t) (drop l.other-index l.names)) (name_in t l.name)
