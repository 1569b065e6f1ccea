use Rattle.std.proofs.Common.{◌≡◌, drop}
use Rattle.std.specs.FinMap.Entries.{find}
use Rattle.wjs_base.specs.Order.{name_cmp}
use Rattle.wjs_base.specs.declared.values.Name.TheVariants.{Text}
use Rattle.wjs_names.proofs.few.place_of_text.Given as goal

abbrev pub invariant-loop-place : goal.invariant-loop-place
invariant-loop-place g l = find name_cmp (Text l.text) l.few ≡ find name_cmp (Text l.text) (drop l.place l.few)
