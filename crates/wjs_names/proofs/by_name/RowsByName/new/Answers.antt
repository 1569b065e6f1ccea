use Rattle.std.proofs.Common.{[], refl}
use Rattle.wjs_base.specs.Order.{name_cmp}
use Rattle.wjs_names.proofs.Sorted.{empty_sorted}
use Rattle.wjs_names.proofs.by_name.RowsByName.new.Goals as goal

pub returns : goal.returns
returns g c = empty_sorted name_cmp [] refl
