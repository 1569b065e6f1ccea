use Rattle.std.proofs.Common.{◌≡◌}
use Rattle.std.specs.String.{string_bytes}
use Rattle.wjs_store.specs.Meaning.{worlds}
use Rattle.wjs_reports.proofs.Places.{lines_below}
use Rattle.wjs_reports.proofs.lines.world_lines.Given as goal

abbrev pub invariant-loop-serial : goal.invariant-loop-serial
invariant-loop-serial g l = string_bytes l.text ≡ lines_below l.serial (worlds (g.S.WorldStore.meaning l.store))
