use Rattle.std.proofs.Common.{◌∙◌, ◌-◌, ◌<◌, sym, length, arith}
use Rattle.wjs_base.specs.Order.{name_total}
use Rattle.wjs_names.proofs.Basics.{greater_is}
use Rattle.wjs_names.proofs.Seeks.{seek_last}
use Rattle.wjs_names.proofs.few.goes_last.Goals as goal

pub returns-else-count-eq0 : goal.returns-else-count-eq0
returns-else-count-eq0 g c = λ t.
    let l : length c.args.few.now - 1 < length c.args.few.now = omega arith in
    seek_last name_total c.args.name c.args.few.now (length c.args.few.now - 1) c.index-few-count.result c.requires l (omega arith) (greater_is _ (sym c.is_before.ensures ∙ t))
