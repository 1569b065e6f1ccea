use Rattle.std.proofs.Common.{◌∙◌, arith}
use Rattle.wjs_overlay.proofs.Checks.{fault_is}
use Rattle.wjs_overlay.proofs.check.fault.Goals as goal

pub returns : goal.returns
returns g c = record { fault = λ x y fx fy. c.lesser.ensures ∙ fault_is x y c.fault_in_reads-read.result c.fault_in_closed-listed.result (c.fault_in_reads-read.ensures.least x y fx fy) (c.fault_in_closed-listed.ensures.least x y fx fy); steps = λ x fx. let a = c.fault_in_reads-read.ensures.steps x fx (c.requires.up x fx) in let b = c.fault_in_closed-listed.ensures.steps x fx in omega (arith, a, b) }
