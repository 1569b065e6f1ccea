use Rattle.std.proofs.Common.{sym, ◌∙◌}
use Rattle.wjs_load.proofs.Faults.{no_line}
use Rattle.wjs_load.proofs.stopping.fault_of.Goals as goal

pub returns-in-Some : goal.returns-in-Some
returns-in-Some c = (c.requires, record { offence = c.in-Ok.offence; is = c.in-Ok.ensures; on = sym c.line_of.ensures ∙ c.in-Some.is })

pub returns-in-None : goal.returns-in-None
returns-in-None c = (c.requires, no_line c.args.toks.now c.in-Ok.offence c.in-Ok.ensures (sym c.line_of.ensures ∙ c.in-None.is))
