use Rattle.std.proofs.Common.{◌≡◌, fold, map, drop}
use Rattle.wjs_base.specs.Text.{Table}
use Rattle.wjs_by_content.specs.Tables.{value_in}
use Rattle.wjs_meaning.specs.NativesOfTexts.{either, lesser_of}
use Rattle.wjs_meaning.specs.NativesOfObjects.{whole_of}
use Rattle.wjs_strings.proofs.numbers.least.Given as goal

abbrev pub invariant-loop-value : goal.invariant-loop-value
invariant-loop-value l = (t : Table) → fold (either lesser_of) l.best.number (map (value_in t) (drop l.value-index l.others)) ≡ fold (either lesser_of) (whole_of (value_in t l.fn.first)) (map (value_in t) l.others)
