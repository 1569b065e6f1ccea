use Rattle.std.proofs.Common.{sym, ◌∙◌}
use Rattle.wjs_names.proofs.Basics.{if_ok}
use Rattle.wjs_layers.proofs.touched.mark_over.Goals as goal

pub returns-in-None-clause-read : goal.returns-in-None-clause-read
returns-in-None-clause-read c = λ now. sym c.in-None.is

pub returns-in-Some-clause-read : goal.returns-in-Some-clause-read
returns-in-Some-clause-read c = if_ok c.mark_read.result (λ mark e now. e now ∙ sym c.in-Some.is) c.mark_read.ensures.read
