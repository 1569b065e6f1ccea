use Rattle.std.proofs.Common.{Some, sym, ap, ◌∙◌}
use Rattle.wjs_layers.proofs.Marked.{apart_here, apart_other}
use Rattle.wjs_layers.proofs.touched.mark_read.Goals as goal

pub returns-in-Absent-clause-read : goal.returns-in-Absent-clause-read
returns-in-Absent-clause-read c = λ now. ap Some (sym c.in-Absent.is)

pub returns-in_ok-insert-in-Present-clause-read : goal.returns-in_ok-insert-in-Present-clause-read
returns-in_ok-insert-in-Present-clause-read c = λ now.
    apart_here c.args.before.now c.insert.new.self c.args.slot c.short_value.result c.in_ok-insert-in-Present.ensures.ok
    ∙ ap Some (c.short_value.ensures.content ∙ sym c.in-Present.is)

pub returns-in_ok-insert-in-Present-clause-others : goal.returns-in_ok-insert-in-Present-clause-others
returns-in_ok-insert-in-Present-clause-others c = apart_other c.args.before.now c.insert.new.self c.args.slot c.short_value.result c.in_ok-insert-in-Present.ensures.ok
