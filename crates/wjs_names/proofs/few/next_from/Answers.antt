use Rattle.std.proofs.Common.{◌∙◌}
use Rattle.wjs_base.specs.Order.{name_total, name_exact}
use Rattle.wjs_names.proofs.Seeks.{found_at, missed_at, got_at}
use Rattle.wjs_names.proofs.few.next_from.Goals as goal

pub returns-in-Ok : goal.returns-in-Ok
returns-in-Ok g c =
    c.named.ensures ∙ c.copied.ensures ∙ got_at c.args.few.now c.in-Ok.place c.get.result c.get.ensures.lookup
    ∙ (found_at name_total name_exact c.args.name c.in-Ok.place c.args.few.now c.in-Ok.ensures).from

pub returns-in-Err : goal.returns-in-Err
returns-in-Err g c =
    c.named-in-Err.ensures ∙ c.copied-in-Err.ensures ∙ got_at c.args.few.now c.in-Err.place c.get-in-Err.result c.get-in-Err.ensures.lookup
    ∙ (missed_at name_total name_exact c.args.name c.in-Err.place c.args.few.now c.in-Err.ensures).from
