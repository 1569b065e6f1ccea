use Rattle.wjs_base.specs.Order.{name_total, name_exact}
use Rattle.wjs_names.proofs.Seeks.{missed_at}
use Rattle.wjs_names.proofs.few.seek_name.Goals as goal

pub returns-in-Err : goal.returns-in-Err
returns-in-Err g c = (missed_at name_total name_exact c.args.name c.in-Err.field-0 c.args.few.now c.in-Err.ensures).none c.requires
