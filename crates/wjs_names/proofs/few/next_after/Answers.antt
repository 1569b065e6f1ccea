use Rattle.std.proofs.Common.{◌∙◌, ◌+◌, arith}
use Rattle.wjs_base.specs.Order.{name_total, name_exact}
use Rattle.wjs_names.proofs.Seeks.{found_at, missed_at, got_at}
use Rattle.wjs_names.proofs.few.next_after.Goals as goal

pub overflow_add-place : goal.overflow_add-place
overflow_add-place g c = let b = (found_at name_total name_exact c.args.name c.in-Ok.place c.args.few.now c.in-Ok.ensures).below in omega arith

pub returns-in-Ok : goal.returns-in-Ok
returns-in-Ok g c =
    c.named.ensures ∙ c.copied.ensures ∙ got_at c.args.few.now (c.in-Ok.place + 1) c.get.result c.get.ensures.lookup
    ∙ (found_at name_total name_exact c.args.name c.in-Ok.place c.args.few.now c.in-Ok.ensures).after c.requires

pub returns-in-Err : goal.returns-in-Err
returns-in-Err g c =
    c.named-in-Err.ensures ∙ c.copied-in-Err.ensures ∙ got_at c.args.few.now c.in-Err.place c.get-in-Err.result c.get-in-Err.ensures.lookup
    ∙ (missed_at name_total name_exact c.args.name c.in-Err.place c.args.few.now c.in-Err.ensures).after
