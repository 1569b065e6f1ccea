use Rattle.std.proofs.Common.{◌≡◌, drop}
use Rattle.wjs_arena.specs.AtName.{at_name}
use Rattle.wjs_arena.proofs.under.find.Given as goal

abbrev pub invariant-loop-entry : goal.invariant-loop-entry
invariant-loop-entry g l = at_name (drop l.entry-index l.entries) l.name ≡ at_name l.entries l.name
