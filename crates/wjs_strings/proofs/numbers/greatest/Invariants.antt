use Rattle.std.proofs.Common.{◌≡◌, fold, map, drop}
use Rattle.wjs_base.specs.Text.{Table}
use Rattle.wjs_by_content.specs.Tables.{value_in}
use Rattle.wjs_meaning.specs.NativesOfTexts.{either, greater_of}
use Rattle.wjs_meaning.specs.NativesOfObjects.{whole_of}
use Rattle.wjs_strings.proofs.numbers.greatest.Given as goal

abbrev pub invariant-loop-value : goal.invariant-loop-value
invariant-loop-value l = (t : Table) → fold (either greater_of) l.best.number (map (value_in t) (drop l.value-index l.others)) ≡ fold (either greater_of) (whole_of (value_in t l.fn.first)) (map (value_in t) l.others)
