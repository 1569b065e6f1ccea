use Rattle.std.proofs.Common.{take, All}
use Rattle.wjs_base.specs.Text.{Has}
use Rattle.wjs_audit.specs.Logs.{KnowsName}
use Rattle.wjs_audit.proofs.knowing.knows_names.Given as goal

abbrev pub invariant-loop-place : goal.invariant-loop-place
invariant-loop-place l = All (KnowsName (Has l.texts)) (take l.place l.names)
